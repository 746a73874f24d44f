use Rattle.std.proofs.Common.{List, [], sym, subst}
use Rattle.std.specs.List.{All}
use Rattle.bdd.specs.Diagram.{function_of}
use Rattle.primes.specs.Prime.{Product, IsImplicant}
use Rattle.cover.specs.Cover.{IsLeft, IsCover}
use Rattle.cover.specs.Sums.{IsWithin}
use Rattle.cover.proofs.ResultLemmas.{primes_within, primes_inside, is_cover, cover_same, cover_irredundant}
use Rattle.cover.proofs.cover.Goals as goal
use Rattle.cover.proofs.cover.Goals.{In_ok-reduced}

pub reduced-requires-clause-within : goal.reduced-requires-clause-within
reduced-requires-clause-within c =
    let h = primes_within c.args.graph.now c.primes.new.graph c.args.f c.in_ok-terms.terms.items c.primes.ensures.keeps c.requires c.in_ok-terms.ensures.primes c.primes.ensures.canonical in
    subst (All (IsWithin c.primes.new.graph.vars)) (sym c.as_slice.ensures.value) h

pub reduced-requires-clause-implicants : goal.reduced-requires-clause-implicants
reduced-requires-clause-implicants c =
    let h = primes_inside c.args.graph.now c.primes.new.graph c.args.f c.in_ok-terms.terms.items c.primes.ensures.keeps c.requires c.in_ok-terms.ensures.primes in
    subst (All (IsImplicant (function_of c.primes.new.graph c.args.f))) (sym c.as_slice.ensures.value) h

cover : (c : In_ok-reduced) → IsCover (function_of c.args.graph.now c.args.f) c.in_ok-reduced.field-0.items
cover c =
    is_cover c.args.graph.now c.primes.new.graph c.args.f c.in_ok-terms.terms.items c.primes.ensures.keeps c.requires c.in_ok-terms.ensures.primes c.in_ok-reduced.field-0.items
    (subst (λ (ts : List Product). IsLeft (function_of c.primes.new.graph c.args.f) [] ts c.in_ok-reduced.field-0.items) c.as_slice.ensures.value c.in_ok-reduced.ensures.left)

pub returns-clause-cover : goal.returns-clause-cover
returns-clause-cover c = cover (goal.at.returns-clause-cover c).In_ok-reduced

pub returns-clause-same_function : goal.returns-clause-same_function
returns-clause-same_function c =
    cover_same c.args.graph.now c.primes.new.graph c.args.f c.in_ok-terms.terms.items c.primes.ensures.keeps c.requires c.in_ok-terms.ensures.primes c.in_ok-reduced.field-0.items
    (subst (λ (ts : List Product). IsLeft (function_of c.primes.new.graph c.args.f) [] ts c.in_ok-reduced.field-0.items) c.as_slice.ensures.value c.in_ok-reduced.ensures.left)
    c.in_ok-terms.ensures.covers

pub returns-clause-irredundant : goal.returns-clause-irredundant
returns-clause-irredundant c = cover_irredundant (function_of c.args.graph.now c.args.f) c.in_ok-reduced.field-0.items (cover (goal.at.returns-clause-irredundant c).In_ok-reduced)
