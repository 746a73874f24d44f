use Rattle.std.proofs.Common.{List, sym, subst, ◌∙◌}
use Rattle.std.proofs.lemmas.List.{drop_more, drop_all}
use Rattle.mig_base.specs.declared.circuit.Literal.{Literal}
use Rattle.mig_base.specs.Values.{product_reads, sum_reads}
use Rattle.reader_lists.specs.Lists.{Adds}
use Rattle.reader_lists.proofs.Adding.{adds-none, adds-then}
use Rattle.reader_lists.proofs.reading.add_sum.Goals as goal

pub loop-term-preserved : goal.loop-term-preserved
loop-term-preserved c = λ new h. c.loop-term.invariant new
    (subst (λ (rest : List (List Literal)). Adds c.loop-term.readers c.args.reader (sum_reads rest) new) (sym (drop_more c.args.terms.now c.loop-term.term-index _ c.loop-term-test.true))
    (adds-then c.loop-term.readers c.add_product.new.readers new c.args.reader _ _
    (subst (λ (term : List Literal). Adds c.loop-term.readers c.args.reader (product_reads term) c.add_product.new.readers) (c.items.ensures ∙ c.term-item.is) c.in_ok-add_product.ensures) h))

pub returns : goal.returns
returns c = c.loop-term.invariant c.loop-term.readers
    (subst (λ (rest : List (List Literal)). Adds c.loop-term.readers c.args.reader (sum_reads rest) c.loop-term.readers) (sym (drop_all c.loop-term.term-index c.args.terms.now c.loop-term-test.false))
    (adds-none c.loop-term.readers c.args.reader))
