use Rattle.std.proofs.Common.{length, ap, sym, ◌∙◌, arith}
use Rattle.std.proofs.lemmas.List.{length-map}
use Rattle.mig_base.specs.Levels.{level_at}
use Rattle.level_laws.specs.Runs.{shown_levels}
use Rattle.settle.proofs.StepLaws.{same-all}
use Rattle.settle.proofs.config.show_ports.Goals as goal

pub returns : goal.returns
returns c =
    let levels = c.args.config.now.levels in
    same-all c.loop-place.out (shown_levels c.args.circuit.now levels) c.loop-place.place
    (c.loop-place.invariant.long ∙ sym (length-map c.args.circuit.now.ports (level_at levels.nets)))
    (omega (arith, ap length c.items-ports.ensures, c.loop-place.invariant.long)) c.loop-place.invariant.shown
