use Rattle.std.proofs.Common.{Option, subst}
use Rattle.std.specs.Prelude.{MatchOption}
use Rattle.mig_base.specs.declared.comparing.Trace.{Trace}
use Rattle.trials.specs.Stepping.{IsDifferenceIn, NoneOver}
use Rattle.trials.specs.Trials.{trial_of}
use Rattle.trials.specs.Differences.{IsFirstDifference}
use Rattle.trials.proofs.Replays.{first-replayable}
use Rattle.trials.proofs.FirstOnes.{difference-first, none-differs, one-more-none}
use Rattle.trials.proofs.differing.first_difference.Goals as goal

pub returns-in-Some : goal.returns-in-Some
returns-in-Some c =
    let a = c.args.a.now in
    let b = c.args.b.now in
    let k = c.loop-k.k in
    let f : IsDifferenceIn a b k c.in-Some.trace =
    subst (λ (o : Option Trace). MatchOption o (NoneOver a b (trial_of a.net k)) (IsDifferenceIn a b k)) c.in-Some.is c.in_ok-trace.ensures.first in
    let first : IsFirstDifference a b c.in-Some.trace = difference-first a b k c.in-Some.trace c.loop-k-test.true f c.loop-k.invariant in
    record { first = first; replayable = first-replayable a b c.in-Some.trace c.in_ok-pairing.ensures.wiring first }

pub loop-k-preserved : goal.loop-k-preserved
loop-k-preserved c =
    let a = c.args.a.now in
    let b = c.args.b.now in
    let k = c.loop-k.k in
    let none : NoneOver a b (trial_of a.net k) =
    subst (λ (o : Option Trace). MatchOption o (NoneOver a b (trial_of a.net k)) (IsDifferenceIn a b k)) c.in_default.is c.in_ok-trace.ensures.first in
    one-more-none a b k c.loop-k.invariant none

pub returns : goal.returns
returns c = record { replayable = tt; first = none-differs c.args.a.now c.args.b.now c.loop-k.k c.loop-k-test.false c.loop-k.invariant }
