use Rattle.std.proofs.Common.{Some, None, ap, sym, ◌∙◌}
use Rattle.new_board.specs.NewChip.{NewChip}
use Rattle.plans.specs.Placings.{old}
use Rattle.fit.proofs.NewChipLaws.{unserved-node, unserved-again, input-breach, no-input-breach}
use Rattle.fit.proofs.chip_inputs.no_input.Goals as goal

pub var-requires : goal.var-requires
var-requires c =
    unserved-node (old c.args.board.now) c.args.chip.now c.in-Some.variable
    (sym (unserved-again c.in_ok-columns.columns.nets.old.now (old c.args.board.now) c.in_ok-columns.columns.nets.chip.now c.args.chip.now (Some c.in-Some.variable)
    (c.in_ok-columns.ensures.old ∙ c.requires) c.in_ok-columns.ensures.chip c.in-Some.ensures))

pub returns-in-Some : goal.returns-in-Some
returns-in-Some c =
    input-breach c.args.board.now c.args.chip.now c.chip.inside.name c.in-Some.variable c.var.result (ap (λ (k : NewChip). k.name) c.chip.view_is) c.var.ensures.var
    (unserved-again c.in_ok-columns.columns.nets.old.now (old c.args.board.now) c.in_ok-columns.columns.nets.chip.now c.args.chip.now (Some c.in-Some.variable)
    (c.in_ok-columns.ensures.old ∙ c.requires) c.in_ok-columns.ensures.chip c.in-Some.ensures)

pub returns : goal.returns
returns c =
    no-input-breach c.args.board.now c.args.chip.now
    (unserved-again c.in_ok-columns.columns.nets.old.now (old c.args.board.now) c.in_ok-columns.columns.nets.chip.now c.args.chip.now None
    (c.in_ok-columns.ensures.old ∙ c.requires) c.in_ok-columns.ensures.chip c.in-None.ensures)
