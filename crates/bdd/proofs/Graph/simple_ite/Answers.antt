use Rattle.std.proofs.Common.{sym, ap, ◌∙◌}
use Rattle.bdd.specs.Diagram.{tree}
use Rattle.bdd.proofs.Equality.{ref_exact}
use Rattle.bdd.proofs.MarkLemmas.{negation_of}
use Rattle.bdd.proofs.IteLemmas.{asks_variable, ite_by_negation}
use Rattle.bdd.proofs.Graph.simple_ite.Goals as goal

pub returns-then-eq-7-clause-simple : goal.returns-then-eq-7-clause-simple
returns-then-eq-7-clause-simple c =
    let d = c.args.self.now in
    ite_by_negation d c.args.f c.args.g c.args.h c.with_mark.result
    (ap (tree d) (ref_exact c.args.g c.constant-zero.result (sym c.if-eq-6.ensures)) ∙ c.constant-zero.ensures.constant.tree)
    (ap (tree d) (ref_exact c.args.h c.constant-one.result (sym c.if-eq-7.ensures)) ∙ c.constant-one.ensures.constant.tree)
    (negation_of d c.args.f c.with_mark.result c.requires.f_valid c.with_mark.ensures.place c.with_mark.ensures.mark)

pub returns-else-eq-6-clause-rest : goal.returns-else-eq-6-clause-rest
returns-else-eq-6-clause-rest c =
    asks_variable c.args.self.now c.args.f c.constant-one.result c.constant-zero.result c.constant-one.ensures.canonical c.requires.f_valid
    c.constant-one.ensures.constant c.constant-zero.ensures.constant (sym c.eq.ensures ∙ c.if-eq.false) (sym c.eq-else-eq.ensures ∙ c.if-eq-2.false)
