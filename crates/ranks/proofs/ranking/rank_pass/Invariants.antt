use Rattle.std.proofs.Common.{◌≡◌, ◌<◌, true, false, take}
use Rattle.std.specs.List.{AllByRecursion}
use Rattle.ranks.specs.Marked.{waiting}
use Rattle.ranks.specs.Ranking.{IsRanking, IsPassed}
use Rattle.ranks.proofs.ranking.rank_pass.Given as goal

abbrev pub invariant-loop-node : goal.invariant-loop-node
invariant-loop-node l = record {
  ranking : IsRanking l.circuit l.ranks;
  moved : l.moved ≡ true → waiting l.ranks < waiting l.fn.ranks;
  stays : l.moved ≡ false → l.ranks ≡ l.fn.ranks;
  passed : l.moved ≡ false → AllByRecursion (IsPassed l.circuit l.fn.ranks) (take l.node-index l.node-items);
}
