use Rattle.std.proofs.Common.{◌∙◌, List, ap}
use Rattle.mig_base.specs.declared.nets.VarLit.{VarLit}
use Rattle.joiner.specs.Marked.{vars_of, with_vars}
use Rattle.joiner.proofs.Marking.{one-more_product}
use Rattle.joiner.proofs.marks.Marks.add_terms.Goals as goal

pub loop-term-preserved : goal.loop-term-preserved
loop-term-preserved c =
    one-more_product c.args.self.now c.loop-term.self c.add_product.new.self c.args.terms.now c.loop-term.term-index c.term-item.result c.loop-term-test.true c.term-item.is c.loop-term.invariant
    (c.add_product.ensures ∙ ap (λ (lits : List VarLit). with_vars c.loop-term.self (vars_of lits)) c.items.ensures)
