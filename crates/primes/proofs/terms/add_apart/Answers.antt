use Rattle.std.proofs.Common.{sym, ◌∙◌}
use Rattle.primes.proofs.TermLemmas.{apart_more, apart_kept}
use Rattle.primes.proofs.terms.add_apart.Goals as goal
use Rattle.primes.proofs.terms.add_apart.Goals.{then-not-contains+in_ok-after+in_ok-push, else-not-contains}

pub loop-term-preserved : goal.loop-term-preserved
loop-term-preserved c =
    elim c.if-not-contains.branch [
      | then-not-contains+in_ok-after+in_ok-push w ↦
          let e = apart_more c.args.terms.now.items c.loop-term.terms.items c.args.first c.args.shared.now c.args.side.now c.loop-term.term-index c.term-item.result
          c.loop-term-test.true c.term-item.is (sym c.contains.ensures ∙ w.if-not-contains.true) c.loop-term.invariant in
          cc (e, w.in_ok-push.ensures.items, w.in_ok-after.ensures)
      | else-not-contains w ↦
          let e = apart_kept c.args.terms.now.items c.loop-term.terms.items c.args.first c.args.shared.now c.args.side.now c.loop-term.term-index c.term-item.result
          c.loop-term-test.true c.term-item.is (sym c.contains.ensures ∙ w.if-not-contains.false) c.loop-term.invariant in
          cc
    ]
