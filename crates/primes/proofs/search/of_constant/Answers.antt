use Rattle.std.proofs.Common.{◌∙◌, ap, refl, arith}
use Rattle.primes.proofs.SearchLemmas.{true_found, false_found, true_more}
use Rattle.primes.proofs.search.of_constant.Goals as goal
use Rattle.primes.proofs.search.of_constant.Goals.{then-value+else-most-eq0+in_ok-push, else-value}

pub returns-then-most-eq0-clause-given_up : goal.returns-then-most-eq0-clause-given_up
returns-then-most-eq0-clause-given_up c = (refl, true_more c.args.value c.args.most c.if-value.true c.if-most-eq0.true)

pub returns-clause-found : goal.returns-clause-found
returns-clause-found c =
    elim c.if-value.branch [
      | then-value+else-most-eq0+in_ok-push w ↦ true_found c.args.value c.args.most c.if-value.terms.items w.if-value.true (cc (w.in_ok-push.ensures.items, w.new-then-value.ensures, w.new.ensures.items, c.new-terms.ensures.items)) (omega arith)
      | else-value w ↦ false_found c.args.value c.args.most c.if-value.terms.items w.if-value.false (ap (λ v. v.items) w.terms-is ∙ c.new-terms.ensures.items)
    ]
