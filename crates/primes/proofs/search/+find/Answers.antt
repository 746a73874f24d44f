use Rattle.std.proofs.Common.{◌≡◌, ◌+◌, length, Bool, ℕ, ◌∙◌, sym, ap, subst, refl, rules, arith, IfOk, IfErr}
use Rattle.bdd.specs.Diagram.{function_of, Keeps}
use Rattle.bdd.proofs.GraphLemmas.{keeps_trans}
use Rattle.primes.specs.Prime.{Function}
use Rattle.primes.specs.Steps.{AreFound, AreAllPrimes, IsGivenUp, combined}
use Rattle.primes.proofs.SearchLemmas.{known_kept, known_grown, falls, constant_is, given_up_lifts, more_if_shared, more_if_low, more_if_high, all_if, found_kept}
use Rattle.primes.proofs.search.+find.Goals as goal
use Rattle.primes.proofs.search.+find.Goals.{After-of_constant, In_ok-shared, In_ok-lows, In_ok-highs, In_ok-terms}

same : (t : ℕ) (c : After-of_constant t) → (p : ℕ → Bool) → c.same.result ≡ function_of c.args.graph.now c.args.f p
same t c p =
    let s = c.in_default-split.ensures.split in
    constant_is c.args.graph.now c.args.f c.constant-one.result c.same.result c.same.ensures.same c.constant-one.ensures.constant s.0 s.1 p

pub returns-in_default-split-clause-found : goal.returns-in_default-split-clause-found
returns-in_default-split-clause-found t c =
    subst (λ (g : Function). IfOk c.of_constant.result (λ terms. AreFound g c.args.most terms.items)) (λ i p. same t c p i) c.of_constant.ensures.found

pub returns-in_default-split-clause-given_up : goal.returns-in_default-split-clause-given_up
returns-in_default-split-clause-given_up t c =
    subst (λ (g : Function). IfErr c.of_constant.result (IsGivenUp g c.args.most)) (λ i p. same t c p i) c.of_constant.ensures.given_up

pub returns-in_err-both-clause-known : goal.returns-in_err-both-clause-known
returns-in_err-both-clause-known t c = known_kept _ c.args.graph.now c.and.new.self c.args.most c.args.known.now c.in_err-both.ensures.keeps c.requires.known

pub find-requires : goal.find-requires
find-requires t c =
    let d = c.args.graph.now in
    let e = c.and.new.self in
    let s = c.in-Some-split.ensures.split in
    let b = c.in_ok-both.ensures.conjunction in
    let f = falls d e c.args.f c.in_ok-both.both c.in-Some-split.low c.in-Some-split.high c.in-Some-split.place s c.in_ok-both.ensures.keeps (b.from (c.in-Some-split.place + 1) s.low_from s.high_from) in
    (omega arith, (b.valid, known_kept _ d e c.args.most c.args.known.now c.in_ok-both.ensures.keeps c.requires.known))

pub returns-in_err-shared-clause-given_up : goal.returns-in_err-shared-clause-given_up
returns-in_err-shared-clause-given_up t c =
    given_up_lifts c.from_residual-in_err-shared.result c.in_err-shared.field-0.0 (function_of c.args.graph.now c.args.f) (function_of c.and.new.self c.in_ok-both.both) c.args.most
    c.from_residual-in_err-shared.ensures.1
    (more_if_shared c.args.graph.now c.and.new.self c.args.f c.in-Some-split.low c.in-Some-split.high c.in_ok-both.both c.in-Some-split.place c.args.most
    c.split-split.ensures.canonical c.in-Some-split.ensures.split c.in_ok-both.ensures.keeps c.in_ok-both.ensures.conjunction)
    c.in_err-shared.ensures.given_up

pub returns-in_err-lows-clause-given_up : goal.returns-in_err-lows-clause-given_up
returns-in_err-lows-clause-given_up t c =
    given_up_lifts c.from_residual-in_err-lows.result c.in_err-lows.field-0.0 (function_of c.args.graph.now c.args.f) (function_of c.find.new.graph c.in-Some-split.low) c.args.most
    c.from_residual-in_err-lows.ensures.1
    (more_if_low c.args.graph.now c.and.new.self c.args.f c.in-Some-split.low c.in-Some-split.high c.in_ok-both.both c.in-Some-split.place c.args.most
    c.split-split.ensures.canonical c.in-Some-split.ensures.split c.in_ok-both.ensures.keeps c.in_ok-both.ensures.conjunction
    c.in_ok-shared.shared.items c.in_ok-shared.ensures.found c.find.new.graph
    (keeps_trans c.args.graph.now c.and.new.self c.find.new.graph c.in_ok-both.ensures.keeps c.in_ok-shared.ensures.keeps))
    c.in_err-lows.ensures.given_up

pub returns-in_err-highs-clause-given_up : goal.returns-in_err-highs-clause-given_up
returns-in_err-highs-clause-given_up t c =
    given_up_lifts c.from_residual-in_err-highs.result c.in_err-highs.field-0.0 (function_of c.args.graph.now c.args.f) (function_of c.find-2.new.graph c.in-Some-split.high) c.args.most
    c.from_residual-in_err-highs.ensures.1
    (more_if_high c.args.graph.now c.and.new.self c.args.f c.in-Some-split.low c.in-Some-split.high c.in_ok-both.both c.in-Some-split.place c.args.most
    c.split-split.ensures.canonical c.in-Some-split.ensures.split c.in_ok-both.ensures.keeps c.in_ok-both.ensures.conjunction
    c.in_ok-shared.shared.items c.in_ok-shared.ensures.found c.find-2.new.graph
    (search (rules, keeps_trans)))
    c.in_err-highs.ensures.given_up

-- the terms that are put together are all primes
all : (t : ℕ) (c : In_ok-terms t) → AreAllPrimes (function_of c.args.graph.now c.args.f) c.in_ok-terms.terms.items
all t c =
    let d = c.args.graph.now in
    let e = c.and.new.self in
    let a = c.find.new.graph in
    let b = c.find-2.new.graph in
    let ka = keeps_trans d e a c.in_ok-both.ensures.keeps c.in_ok-shared.ensures.keeps in
    let kb = keeps_trans d a b ka c.in_ok-lows.ensures.keeps in
    let is : c.in_ok-terms.terms.items ≡ combined c.in-Some-split.place c.in_ok-shared.shared.items c.in_ok-lows.lows.items c.in_ok-highs.highs.items =
    c.in_ok-terms.ensures ∙ (λ i. combined c.in-Some-split.place c.in_ok-shared.shared.items (c.as_slice-2.ensures.value i) (c.as_slice-3.ensures.value i)) in
    subst (AreAllPrimes (function_of d c.args.f)) (sym is)
    (all_if d e c.args.f c.in-Some-split.low c.in-Some-split.high c.in_ok-both.both c.in-Some-split.place c.args.most
    c.split-split.ensures.canonical c.in-Some-split.ensures.split c.in_ok-both.ensures.keeps c.in_ok-both.ensures.conjunction
    c.in_ok-shared.shared.items c.in_ok-shared.ensures.found a b ka kb
    c.in_ok-lows.lows.items c.in_ok-highs.highs.items c.in_ok-lows.ensures.found c.in_ok-highs.ensures.found)

pub returns-then-len-most-clause-given_up : goal.returns-then-len-most-clause-given_up
returns-then-len-most-clause-given_up t c =
    let all = all t (goal.at.returns-then-len-most-clause-given_up t c).In_ok-terms in
    (refl, record { primes = c.in_ok-terms.terms.items; some = all.some; more = omega (arith, c.len.ensures) })

pub returns-clause-known : goal.returns-clause-known
returns-clause-known t c =
    let all = all t (goal.at.returns-clause-known t c).In_ok-terms in
    let g = c.find-3.new.graph in
    let k : Keeps c.args.graph.now g = search (rules, keeps_trans) in
    let is : c.in_ok-copy.copy.items ≡ c.in_ok-terms.terms.items = c.in_ok-copy.ensures ∙ c.as_slice-4.ensures.value in
    let found : AreFound (function_of c.args.graph.now c.args.f) c.args.most c.in_ok-copy.copy.items = record {
      all = subst (AreAllPrimes (function_of c.args.graph.now c.args.f)) (sym is) all;
      few = omega (arith, ap length is, c.len.ensures);
    } in
    known_grown _ g c.args.most c.find-3.new.known c.insert.new.self c.args.f c.in_ok-copy.copy c.in_ok-insert.ensures.updates c.in_ok-highs.ensures.known
    (record {
      valid = k.valid c.args.f c.requires.valid;
      found = found_kept c.args.graph.now g c.args.f c.args.most c.in_ok-copy.copy.items k c.requires.valid found;
    })

pub returns-clause-found : goal.returns-clause-found
returns-clause-found t c = record {
  all = all t (goal.at.returns-clause-found t c).In_ok-terms;
  few = omega (arith, c.len.ensures);
}
