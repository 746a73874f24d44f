use Rattle.std.proofs.Common.{ℕ, get_or, take, subst}
use Rattle.std.proofs.lemmas.List.{take_more}
use Rattle.mig_base.specs.Among.{Among}
use Rattle.mig_base.proofs.Amongs.{apart-push}
use Rattle.structure.proofs.NeededNodes.{among-at}
use Rattle.board.proofs.driven.has_number.Goals as goal

pub returns-then-other-number-clause-yes : goal.returns-then-other-number-clause-yes
returns-then-other-number-clause-yes c = λ _.
    let numbers = c.args.numbers.now in
    subst (λ (n : ℕ). Among n numbers) c.if-other-number.true (among-at numbers c.loop-other.other-index 0 c.loop-other-test.true)

pub loop-other-preserved : goal.loop-other-preserved
loop-other-preserved c = λ a.
    let numbers = c.args.numbers.now in
    let i = c.loop-other.other-index in
    apart-push c.args.number (get_or numbers i 0) (take i numbers) c.loop-other.invariant c.if-other-number.false (subst (Among c.args.number) (take_more numbers i 0 c.loop-other-test.true) a)
