use Rattle.std.proofs.Common.{◌∙◌, List, sym, ap}
use Rattle.std.specs.List.{list_all}
use Rattle.mig_base.specs.declared.circuit.Literal.{Literal}
use Rattle.mig_base.specs.Values.{row_reads, sum_reads}
use Rattle.mig_base.proofs.ReadLaws.{all-sum_reads}
use Rattle.structure.specs.NodeSets.{contains}
use Rattle.structure.proofs.Passing.{both-pass, first-fails}
use Rattle.structure.proofs.reading.has_data.Goals as goal

pub returns-then-has_sum : goal.returns-then-has_sum
returns-then-has_sum c =
    let p = contains c.args.set.now in
    let r = c.args.register.now in
    both-pass p (sum_reads r.terms) (row_reads r.preset) c.has_row.result (all-sum_reads p r.terms ∙ ap (λ (terms : List (List Literal)). list_all (list_all (λ (literal : Literal). p literal.source)) terms) (sym c.items.ensures) ∙ sym c.has_sum.ensures ∙ c.if-has_sum.true) c.has_row.ensures

pub returns-else-has_sum : goal.returns-else-has_sum
returns-else-has_sum c =
    let p = contains c.args.set.now in
    let r = c.args.register.now in
    first-fails p (sum_reads r.terms) (row_reads r.preset) c.has_sum.result (all-sum_reads p r.terms ∙ ap (λ (terms : List (List Literal)). list_all (list_all (λ (literal : Literal). p literal.source)) terms) (sym c.items.ensures) ∙ sym c.has_sum.ensures ∙ c.if-has_sum.false) c.if-has_sum.false
