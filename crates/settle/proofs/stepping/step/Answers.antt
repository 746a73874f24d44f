use Rattle.std.proofs.Common.{refl, sym, subst, ◌∙◌}
use Rattle.mig_base.specs.declared.circuit.Circuit.{Circuit}
use Rattle.level_laws.specs.SameBehaviour.{IsLawful}
use Rattle.settle.specs.Configs.{IsMadeFor, last_of}
use Rattle.board.specs.Joined.{equations_of}
use Rattle.settle.proofs.Known.{known-visible, known-step, last-given, was-stepped}
use Rattle.settle.proofs.PureBoards.{board-steps, same-settled, same-step}
use Rattle.settle.proofs.stepping.step.Goals as goal

pub returns-clause-made : goal.returns-clause-made
returns-clause-made c =
    let old = c.args.config.now in
    let new = c.step_circuit.new.config in
    let given = c.items.result.now in record {
      made = subst (λ (board : Circuit). IsMadeFor board new) c.circuit.ensures.circuit c.step_circuit.ensures.made;
      stored = known-step c.circuit.result.now old.stored (last_of old) given new.stored c.requires.config.stored c.step_circuit.ensures.step;
      visible = known-visible c.circuit.result.now new.stored given new.levels c.step_circuit.ensures.settled;
      lawful = λ stepped. subst (IsLawful (equations_of c.args.b.now)) (sym (last-given new given c.step_circuit.ensures.last stepped ∙ c.items.ensures)) c.requires.inputs.lawful;
    }

pub returns-clause-stepped : goal.returns-clause-stepped
returns-clause-stepped c = was-stepped c.step_circuit.new.config c.items.result.now c.step_circuit.ensures.last

pub returns-clause-pure : goal.returns-clause-pure
returns-clause-pure c =
    let board = c.circuit.result.now in
    let old = c.args.config.now in
    let new = c.step_circuit.new.config in
    let given = c.items.result.now in
    let levels = c.args.inputs.now.levels in
    board-steps c.args.b.now old new levels c.circuit.ensures.accepted c.requires.config c.requires.inputs.lawful
    (same-step board (equations_of c.args.b.now) old.stored (last_of old) given levels new.stored c.circuit.ensures.circuit c.items.ensures c.step_circuit.ensures.step)
    (same-settled board (equations_of c.args.b.now) new.stored new.stored given levels new.levels c.circuit.ensures.circuit refl c.items.ensures c.step_circuit.ensures.settled)
