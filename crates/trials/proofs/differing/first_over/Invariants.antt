use Rattle.std.proofs.Common.{◌≡◌, length}
use Rattle.board.specs.Joined.{equations_of}
use Rattle.settle.specs.Configs.{handed_count}
use Rattle.settle.specs.Made.{IsConfigFor}
use Rattle.trials.specs.Differences.{inputs_of}
use Rattle.trials.proofs.FirstOnes.{AreEvenSoFar}
use Rattle.trials.proofs.differing.first_over.Given as goal

abbrev pub invariant-loop-n : goal.invariant-loop-n
invariant-loop-n l = record {
  made_a : IsConfigFor (equations_of l.a) l.pair.a;
  made_b : IsConfigFor (equations_of l.b) l.pair.b;
  room : length l.pair.given.levels ≡ handed_count (equations_of l.b);
  left : length l.pair.left.items ≡ length (equations_of l.a).ports;
  right : length l.pair.right.items ≡ length (equations_of l.b).ports;
  even : AreEvenSoFar l.a l.b l.pairing.shows (inputs_of l.script) l.n l.pair.a l.pair.b;
}
