use Rattle.std.proofs.Common.{◌≡◌, length}
use Rattle.board.specs.Joined.{equations_of}
use Rattle.settle.specs.Configs.{handed_count}
use Rattle.settle.specs.Made.{IsConfigFor}
use Rattle.trials.specs.Differences.{inputs_of}
use Rattle.trials.proofs.Replays.{AreShownLast}
use Rattle.trials.proofs.replaying.replay.Given as goal

abbrev pub invariant-loop-given : goal.invariant-loop-given
invariant-loop-given l = record {
  made_a : IsConfigFor (equations_of l.a) l.pair.a;
  made_b : IsConfigFor (equations_of l.b) l.pair.b;
  room : length l.pair.given.levels ≡ handed_count (equations_of l.b);
  left : length l.pair.left.items ≡ length (equations_of l.a).ports;
  right : length l.pair.right.items ≡ length (equations_of l.b).ports;
  run : AreShownLast l.a l.b (inputs_of l.t.script) l.given-index l.pair.a l.pair.b l.pair.left.items l.pair.right.items;
}
