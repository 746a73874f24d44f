use Rattle.std.proofs.Common.{◌≡◌, length, string_bytes}
use Rattle.board.specs.Joined.{equations_of}
use Rattle.settle.specs.Configs.{last_of}
use Rattle.settle.specs.Made.{IsConfigFor}
use Rattle.shown_runs.proofs.Progressing.{IsOnWay}
use Rattle.shown_runs.proofs.running.put_run.Given as goal

abbrev pub invariant-loop-inputs : goal.invariant-loop-inputs
invariant-loop-inputs g l = record {
  made : IsConfigFor (equations_of l.board) l.progress.config;
  places : length l.progress.levels.items ≡ length (equations_of l.board).ports;
  way : IsOnWay l.board l.script l.inputs-index l.progress.config.stored (last_of l.progress.config) (string_bytes l.progress.text) (g.O.Sink.sent l.initial.out) (g.O.Sink.sent l.out);
  calm : g.O.Sink.faults l.out ≡ g.O.Sink.faults l.initial.out;
}
