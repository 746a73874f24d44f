use Rattle.std.proofs.Common.{◌≡◌, List, ap, ◌∙◌, rules}
use Rattle.std.specs.Prelude.{filter}
use Rattle.std.specs.List.{list_any}
use Rattle.mig_base.specs.declared.cells.Lit.{Lit}
use Rattle.mig_base.specs.WellFormed.{same_lit}
use Rattle.new_board.specs.NewFiles.{new_columns}
use Rattle.new_cells.proofs.pin_columns.Columns.product.Goals as goal

pub returns : goal.returns
returns c =
    let b = c.args.self.now.nets.old.now in
    let chip = c.args.self.now.nets.chip.now in
    let lits : c.args.self.now.lits.items ≡ new_columns b chip = search rules in
    c.in_ok-product.ensures ∙ c.as_slice-3.ensures.value ∙ c.in_ok-kept.ensures
    ∙ ap (λ (columns : List Lit). filter (λ y. list_any (same_lit y) c.as_slice-2.result.now) columns) (c.as_slice.ensures.value ∙ lits)
    ∙ ap (λ (found : List Lit). filter (λ y. list_any (same_lit y) found) (new_columns b chip)) (c.as_slice-2.ensures.value ∙ c.in_ok-found.ensures)
