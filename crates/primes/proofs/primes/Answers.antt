use Rattle.std.proofs.Common.{rules}
use Rattle.std.specs.Ordering.{is_lt}
use Rattle.std.proofs.lemmas.List.Sorted.{ranks_by, answers_always}
use Rattle.bdd.specs.Diagram.{function_of}
use Rattle.primes.specs.Prime.{product_cmp}
use Rattle.primes.proofs.ListLemmas.{product_cmp-total}
use Rattle.primes.proofs.ResultLemmas.{sorted_primes, few, refused, sorted_covers}
use Rattle.primes.proofs.primes.Goals as goal

pub returns-in_err-terms-clause-refusal : goal.returns-in_err-terms-clause-refusal
returns-in_err-terms-clause-refusal c =
    refused c.from_residual.result c.in_err-terms.field-0.0 (function_of c.args.graph.now c.args.f) c.args.most c.from_residual.ensures.1 c.in_err-terms.ensures.given_up

pub returns-clause-primes : goal.returns-clause-primes
returns-clause-primes c =
    sorted_primes (function_of c.args.graph.now c.args.f) c.in_ok-terms.terms.items c.sort_by.new.self.items c.in_ok-terms.ensures.found.all c.sort_by.ensures.permutation
    (c.in_ok-sort_by.ensures.sorted (λ t u. is_lt (product_cmp t u)) (ranks_by product_cmp-total (λ t. t)) (answers_always _ _ _ (λ f a r k q. search rules)))

pub returns-clause-few : goal.returns-clause-few
returns-clause-few c = few (function_of c.args.graph.now c.args.f) c.in_ok-terms.terms.items c.args.most c.in_ok-terms.ensures.found.all c.in_ok-terms.ensures.found.few

pub returns-clause-covers : goal.returns-clause-covers
returns-clause-covers c =
    sorted_covers (function_of c.args.graph.now c.args.f) c.in_ok-terms.terms.items c.sort_by.new.self.items c.in_ok-terms.ensures.found.all c.sort_by.ensures.permutation
