use Rattle.std.proofs.Common.{◌≡◌, ℕ, ◌+◌, ◌-◌, ◌<◌, ◌||◌, sym, ◌∙◌, ap, subst, arith, rules, List, [], ◌∷◌, length, take, drop, reverse, true≢false}
use Rattle.std.proofs.lemmas.List.{get_or_read, reverse-append}
use Rattle.bdd.specs.Tree.{holds, Point}
use Rattle.bdd.specs.Diagram.{function_of, Keeps}
use Rattle.bdd.proofs.GraphLemmas.{keeps_trans}
use Rattle.primes.specs.Prime.{Product, in_some}
use Rattle.cover.specs.Cover.{IsLeft}
use Rattle.cover.specs.Sums.{IsSumRef}
use Rattle.cover.proofs.SumLemmas.{within_at, sums_kept, sum_kept, sum_front}
use Rattle.cover.proofs.StepLemmas.{dropped, kept, others_mean}
use Rattle.cover.proofs.reduction.reduced.Goals as goal
use Rattle.cover.proofs.reduction.reduced.Goals.{After-same}

pub product-requires : goal.product-requires
product-requires c =
    within_at c.args.graph.now.vars c.or.new.self.vars c.args.terms.now (c.loop-i.i - 1) c.index-terms-i.result (c.or.ensures.keeps.vars ∙ c.loop-i.invariant.keeps.vars)
    (omega arith) c.index-terms-i.is c.requires.within

-- what the sum of the others is
means : (c : After-same) → (p : Point) → function_of c.or.new.self c.in_ok-others.others p ≡ (in_some (take (c.loop-i.i - 1) c.args.terms.now) p || in_some (reverse c.loop-i.left.items) p)
means c =
    others_mean c.loop-i.graph c.or.new.self c.args.terms.now (reverse c.loop-i.left.items) (c.loop-i.i - 1) (length c.args.terms.now) c.in_ok-before.before.items
    c.index.result.now c.loop-i.after c.in_ok-others.others (omega arith)
    (get_or_read c.in_ok-before.before.items (c.loop-i.i - 1) c.index.result.now (omega (arith, c.loop-i.invariant.before.count)) c.index.ensures (record { 0 = 0 }))
    c.loop-i.invariant.before c.loop-i.invariant.after c.in_ok-others.ensures.disjunction

-- f in the graph that has the sum
as_before : (c : After-same) → (p : Point) → function_of c.or.new.self c.args.f p ≡ function_of c.args.graph.now c.args.f p
as_before c p =
    let k : Keeps c.args.graph.now c.or.new.self = keeps_trans c.args.graph.now c.loop-i.graph c.or.new.self c.loop-i.invariant.keeps c.in_ok-others.ensures.keeps in
    ap (λ t. holds t p) (k.tree c.args.f c.requires.valid)

so_far : (c : After-same) → IsLeft (function_of c.args.graph.now c.args.f) (take (c.loop-i.i - 1 + 1) c.args.terms.now) (drop (c.loop-i.i - 1 + 1) c.args.terms.now) (reverse c.loop-i.left.items)
so_far c =
    let e : c.loop-i.i ≡ c.loop-i.i - 1 + 1 = omega arith in
    subst (λ (n : ℕ). IsLeft (function_of c.args.graph.now c.args.f) (take n c.args.terms.now) (drop n c.args.terms.now) (reverse c.loop-i.left.items)) e c.loop-i.invariant.left

pub loop-i-preserved-in_ok-push : goal.loop-i-preserved-in_ok-push
loop-i-preserved-in_ok-push c =
    let a = (goal.at.loop-i-preserved-in_ok-push c).After-same in
    let ts = c.args.terms.now in
    let i = c.loop-i.i - 1 in
    let rest = reverse c.loop-i.left.items in
    let t = c.index-terms-i-then-not-same.result in
    let last = c.or-then-not-same.new.self in
    let within : i < length ts = omega arith in
    let same : c.index-terms-i.result ≡ t = get_or_read ts i c.index-terms-i.result within c.index-terms-i.is t ∙ sym c.index-terms-i-then-not-same.is in
    let copy : c.in_ok-copied.field-0 ≡ t = c.in_ok-copied.ensures in
    let is : t ∷ rest ≡ reverse c.push.new.self.items =
    sym (ap reverse c.in_ok-push.ensures.items ∙ reverse-append c.loop-i.left.items (c.in_ok-copied.field-0 ∷ []) ∙ ap (λ (x : Product). x ∷ rest) copy) in
    let k : Keeps c.loop-i.graph last = search (rules, keeps_trans) in
    let j : Keeps c.loop-i.graph c.product.new.graph = search (rules, keeps_trans) in
    record {
      keeps = search (rules, keeps_trans);
      canonical = c.in_ok-after.ensures.canonical;
      before = sums_kept c.loop-i.graph last ts (length ts) c.in_ok-before.before.items k c.loop-i.invariant.before;
      after = subst (λ (xs : List Product). IsSumRef last xs c.in_ok-after.after) (ap (λ (x : Product). x ∷ rest) same ∙ is)
          (sum_front c.loop-i.graph c.product.new.graph last rest c.index-terms-i.result c.loop-i.after c.in_ok-product.product c.in_ok-after.after j
          c.loop-i.invariant.after c.in_ok-product.ensures.product c.in_ok-after.ensures.disjunction);
      left = subst (IsLeft (function_of c.args.graph.now c.args.f) (take i ts) (drop i ts)) (ap (λ (x : Product). x ∷ rest) (sym c.index-terms-i-then-not-same.is) ∙ is)
          (kept (function_of c.args.graph.now c.args.f) ts rest i t within c.requires.implicants (so_far a)
          (function_of c.or.new.self c.in_ok-others.others) (means a)
          (λ e. true≢false (sym (c.same.ensures.same.1 (λ p. e p ∙ sym (as_before a p))) ∙ c.if-not-same.true)));
    }

pub loop-i-preserved : goal.loop-i-preserved
loop-i-preserved c =
    let a = (goal.at.loop-i-preserved c).After-same in
    record {
      keeps = search (rules, keeps_trans);
      canonical = c.in_ok-others.ensures.canonical;
      before = sums_kept c.loop-i.graph c.or.new.self c.args.terms.now (length c.args.terms.now) c.in_ok-before.before.items c.in_ok-others.ensures.keeps c.loop-i.invariant.before;
      after = sum_kept c.loop-i.graph c.or.new.self (reverse c.loop-i.left.items) c.loop-i.after c.in_ok-others.ensures.keeps c.loop-i.invariant.after;
      left = dropped (function_of c.args.graph.now c.args.f) c.args.terms.now (reverse c.loop-i.left.items) (c.loop-i.i - 1) [] (omega arith) c.requires.implicants (so_far a)
          (function_of c.or.new.self c.in_ok-others.others) (means a) (λ p. c.same.ensures.same.0 c.if-not-same.false p ∙ as_before a p);
    }

pub returns-clause-left : goal.returns-clause-left
returns-clause-left c =
    let e : c.loop-i.i ≡ 0 = omega arith in
    subst (IsLeft (function_of c.args.graph.now c.args.f) [] c.args.terms.now) (sym c.reverse.ensures.items)
    (subst (λ (n : ℕ). IsLeft (function_of c.args.graph.now c.args.f) (take n c.args.terms.now) (drop n c.args.terms.now) (reverse c.loop-i.left.items)) e c.loop-i.invariant.left)
