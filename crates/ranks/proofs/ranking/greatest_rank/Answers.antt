use Rattle.std.proofs.Common.{◌∙◌, List, max, ℕ, map, take, sym, ap, subst}
use Rattle.std.proofs.Math.ListN.{get_or}
use Rattle.std.proofs.lemmas.List.{take_more}
use Rattle.mig_base.specs.declared.circuit.Read.{Read}
use Rattle.mig_base.specs.declared.circuit.Read.TheVariants.{OfNet}
use Rattle.mig_base.proofs.ListLaws.{all-append}
use Rattle.ranks.specs.Marked.{mark_in, number_in, IsWaiting}
use Rattle.ranks.specs.RankEquations.{greatest}
use Rattle.ranks.specs.Ranking.{AreReady}
use Rattle.ranks.proofs.Putting.{among-at}
use Rattle.ranks.proofs.RankingLaws.{ready-none, ready-waits, ready-number, greatest-more}
use Rattle.ranks.proofs.ranking.greatest_rank.Goals as goal

pub returns-in-None-clause-blocked : goal.returns-in-None-clause-blocked
returns-in-None-clause-blocked c =
    (get_or c.args.reads.now c.loop-read.read-index _, among-at c.args.reads.now c.loop-read.read-index _ c.loop-read-test.true, ready-none _ (sym c.in-None.is ∙ c.ready.ensures))

pub loop-read-preserved : goal.loop-read-preserved
loop-read-preserved c =
    let ranks = c.args.ranks.now in
    let reads = c.args.reads.now in
    let i = c.loop-read.read-index in
    let read : Read = get_or reads i (OfNet 0) in
    let is = sym c.in-Some.is ∙ c.ready.ensures in
    record {
      ready = subst (AreReady ranks) (sym (take_more reads i _ c.loop-read-test.true)) (all-append (λ w. IsWaiting ranks w → ⊥) (take i reads) _ c.loop-read.invariant.ready (ready-waits (mark_in ranks read) c.in-Some.rank is, tt));
      greatest = c.max-greatest.ensures ∙ ap (λ (n : ℕ). max n c.loop-read.greatest) (ready-number (mark_in ranks read) c.in-Some.rank is) ∙ ap (λ (n : ℕ). max (number_in ranks read) n) c.loop-read.invariant.greatest
          ∙ sym (greatest-more (number_in ranks) (take i reads) read) ∙ ap (λ (some : List Read). greatest (map (number_in ranks) some)) (sym (take_more reads i _ c.loop-read-test.true));
    }
