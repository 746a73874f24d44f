use Rattle.std.proofs.Common.{◌≡◌, ap, subst, ◌∙◌}
use Rattle.mig_base.specs.Boards.{circuit}
use Rattle.equations.specs.Parts.{Wired}
use Rattle.board.specs.Built.{IsTables}
use Rattle.board.proofs.GivenLaws.{given-small}
use Rattle.board.proofs.converted.Goals as goal

pub new-requires : goal.new-requires
new-requires c =
    let small = given-small c.args.net.now c.args.chips.now c.requires in
    record { nets = small.nets; chips = small.lines; cells = small.cells }

pub returns-clause-circuit : goal.returns-clause-circuit
returns-clause-circuit c = c.in_ok-circuit.ensures ∙ ap (λ (w : Wired). circuit w.net w.chips) c.in_ok-parts.ensures

pub returns-clause-tables : goal.returns-clause-tables
returns-clause-tables c = subst (λ (w : Wired). IsTables w.net w.chips c.in_ok-tables.tables) c.in_ok-parts.ensures c.in_ok-tables.ensures
