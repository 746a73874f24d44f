use Rattle.std.proofs.Common.{◌∙◌, List, sym, ap}
use Rattle.std.specs.List.{list_all}
use Rattle.mig_base.specs.declared.circuit.Literal.{Literal}
use Rattle.mig_base.specs.declared.circuit.Gives.{Gives}
use Rattle.mig_base.specs.declared.circuit.Gives.TheVariants.{Sum}
use Rattle.mig_base.specs.Reads.{gives_reads}
use Rattle.mig_base.proofs.ReadLaws.{all-sum_reads}
use Rattle.structure.specs.NodeSets.{contains}
use Rattle.structure.proofs.reading.has_gives.Goals as goal

pub returns-in-Sum : goal.returns-in-Sum
returns-in-Sum c =
    let p = contains c.args.set.now in
    c.has_sum.ensures ∙ sym (all-sum_reads p c.items.result.now)
    ∙ ap (λ (terms : List (List Literal)). list_all p (gives_reads (Sum terms))) c.items.ensures
    ∙ ap (λ (gives : Gives). list_all p (gives_reads gives)) (sym c.in-Sum.is)
