use Rattle.std.proofs.Common.{◌≤◌, ◌+◌, ◌∙◌, ℕ, List, map, sym, ap, subst, arith}
use Rattle.mig_base.specs.declared.circuit.Read.{Read}
use Rattle.ranks.specs.Marked.{number_in}
use Rattle.ranks.specs.RankEquations.{greatest}
use Rattle.ranks.specs.Ranking.{AreReady}
use Rattle.ranks.proofs.RankingLaws.{greatest-most, rule-driven}
use Rattle.ranks.proofs.ranking.rank_of.Goals as goal

pub overflow_add-result : goal.overflow_add-result
overflow_add-result c =
    let most : greatest (map (number_in c.args.ranks.now) c.of.result.now) ≤ 4294967294 =
    greatest-most (number_in c.args.ranks.now) 4294967294 (λ w. omega (arith, c.requires.room w)) c.of.result.now in
    omega (arith, c.in-Some.ensures.all.1)

pub returns-in-Some-clause-rank : goal.returns-in-Some-clause-rank
returns-in-Some-clause-rank c =
    let ranks = c.args.ranks.now in
    let reads = c.of.ensures ∙ c.requires.graph.reads.is c.args.node in
    record {
      ready = subst (AreReady ranks) reads c.in-Some.ensures.all.0;
      rule = ap (λ (n : ℕ). n + 1) (c.in-Some.ensures.all.1 ∙ ap (λ (ws : List Read). greatest (map (number_in ranks) ws)) reads)
          ∙ sym (rule-driven c.args.circuit.now (number_in ranks) c.args.node c.requires.node (sym c.is_undriven.ensures ∙ c.if-is_undriven.false));
    }
