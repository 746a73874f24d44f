use Rattle.std.proofs.Common.{◌≡◌, map, take}
use Rattle.ranks.specs.Marked.{number_in}
use Rattle.ranks.specs.RankEquations.{greatest}
use Rattle.ranks.specs.Ranking.{AreReady}
use Rattle.ranks.proofs.ranking.greatest_rank.Given as goal

abbrev pub invariant-loop-read : goal.invariant-loop-read
invariant-loop-read l = record {
  ready : AreReady l.ranks (take l.read-index l.reads);
  greatest : l.greatest ≡ greatest (map (number_in l.ranks) (take l.read-index l.reads));
}
