use Rattle.std.proofs.Common.{◌∙◌, List, sym, ap}
use Rattle.std.specs.List.{list_all}
use Rattle.mig_base.specs.declared.circuit.Literal.{Literal}
use Rattle.mig_base.specs.declared.circuit.Gate.{Gate}
use Rattle.mig_base.specs.declared.circuit.Gate.TheVariants.{Product}
use Rattle.mig_base.specs.Values.{row_reads}
use Rattle.mig_base.proofs.ReadLaws.{all-product_reads}
use Rattle.structure.specs.NodeSets.{contains}
use Rattle.structure.proofs.reading.has_row.Goals as goal

pub returns-in-Product : goal.returns-in-Product
returns-in-Product c =
    let p = contains c.args.set.now in
    c.has_product.ensures ∙ sym (all-product_reads p c.items.result.now)
    ∙ ap (λ (lits : List Literal). list_all p (row_reads (Product lits))) c.items.ensures
    ∙ ap (λ (row : Gate). list_all p (row_reads row)) (sym c.in-Product.is)
