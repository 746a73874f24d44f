use Rattle.std.proofs.Common.{subst}
use Rattle.mig_base.specs.declared.circuit.Circuit.{Circuit}
use Rattle.board.specs.Joined.{equations_of}
use Rattle.settle.specs.Rules.{HasLengths}
use Rattle.settle.proofs.Known.{known-visible}
use Rattle.settle.proofs.PureBoards.{board-settles, same-settled}
use Rattle.settle.proofs.settling.settle_into.Goals as goal

pub returns-clause-made : goal.returns-clause-made
returns-clause-made c = record {
  lengths = subst (λ (board : Circuit). HasLengths board c.settle_circuit.new.out) c.circuit.ensures.circuit c.settle_circuit.ensures.lengths;
  known = known-visible c.circuit.result.now c.items.result.now c.items-2.result.now c.settle_circuit.new.out c.settle_circuit.ensures.settled;
}

pub returns-clause-pure : goal.returns-clause-pure
returns-clause-pure c =
    board-settles c.args.b.now c.args.state.now.stored c.args.inputs.now.levels c.settle_circuit.new.out c.circuit.ensures.accepted c.requires.inputs.lawful
    (same-settled c.circuit.result.now (equations_of c.args.b.now) c.args.state.now.stored c.items.result.now c.items-2.result.now c.args.inputs.now.levels c.settle_circuit.new.out
    c.circuit.ensures.circuit c.items.ensures c.items-2.ensures c.settle_circuit.ensures.settled)
