use Rattle.std.proofs.Common.{◌∷◌, [], List, sym, subst}
use Rattle.std.proofs.lemmas.List.{drop_more, drop_all}
use Rattle.mig_base.specs.declared.circuit.Literal.{Literal}
use Rattle.mig_base.specs.Values.{product_reads}
use Rattle.reader_lists.specs.Lists.{Adds}
use Rattle.reader_lists.proofs.Adding.{adds-none, adds-then}
use Rattle.reader_lists.proofs.reading.add_product.Goals as goal

pub loop-literal-preserved : goal.loop-literal-preserved
loop-literal-preserved c = λ new h. c.loop-literal.invariant new
    (subst (λ (rest : List Literal). Adds c.loop-literal.readers c.args.reader (product_reads rest) new) (sym (drop_more c.args.literals.now c.loop-literal.literal-index _ c.loop-literal-test.true))
    (adds-then c.loop-literal.readers c.add.new.self new c.args.reader (_ ∷ []) _ c.in_ok-add.ensures h))

pub returns : goal.returns
returns c = c.loop-literal.invariant c.loop-literal.readers
    (subst (λ (rest : List Literal). Adds c.loop-literal.readers c.args.reader (product_reads rest) c.loop-literal.readers) (sym (drop_all c.loop-literal.literal-index c.args.literals.now c.loop-literal-test.false))
    (adds-none c.loop-literal.readers c.args.reader))
