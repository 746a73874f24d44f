use Rattle.std.proofs.Common.{◌<◌, ◌∙◌, length, refl, sym, subst, ℕ}
use Rattle.signs.proofs.NamedLaws.{name-found, no_three, not-first}
use Rattle.signs.proofs.named.named_triple.Goals as goal

pub returns-then-is_same-clause-says : goal.returns-then-is_same-clause-says
returns-then-is_same-clause-says c =
    let k = c.loop-k.k in
    let lt : k < length c.args.ports.now = subst (λ (n : ℕ). k < n) (sym c.requires.count) c.loop-k-test.true in
    name-found c.args.graph.now c.args.names.now c.args.ports.now k _ no_three c.args.name.now c.index-names-k.result _ lt c.loop-k-test.true refl c.index-names-k.is
    (sym c.is_same.ensures ∙ c.if-is_same.true)

pub loop-k-preserved : goal.loop-k-preserved
loop-k-preserved c =
    not-first c.args.name.now c.index-names-k.result _ c.args.names.now c.loop-k.k c.loop-k-test.true c.index-names-k.is (sym c.is_same.ensures ∙ c.if-is_same.false) c.loop-k.invariant
