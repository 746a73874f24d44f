use Rattle.std.proofs.Common.{ap, ◌∙◌, sym, string_bytes}
use Rattle.std.proofs.lemmas.List.{append-nil}
use Rattle.net_text.proofs.WrittenSteps.{pull-step}
use Rattle.net_text.proofs.writing.write_pulls.Goals as goal
use Rattle.net_text.proofs.writing.write_pulls.Goals.{in-Free, in-Up+in_ok-write_line-in-Up, in-Down+in_ok-write_line-in-Down}

pub loop-line-preserved : goal.loop-line-preserved
loop-line-preserved c = elim c.match-line.branch [
  | in-Free w ↦
      pull-step c.args.nets.now c.loop-line.line-index c.line-item.result c.text-name.result.now _ _ _ _ c.loop-line-test.true c.line-item.is c.text-name.ensures w.in-Free.is c.loop-line.invariant
      (ap string_bytes w.text-is ∙ sym (append-nil (string_bytes c.loop-line.text)))
  | in-Up+in_ok-write_line-in-Up w ↦
      pull-step c.args.nets.now c.loop-line.line-index c.line-item.result c.text-name.result.now _ _ _ _ c.loop-line-test.true c.line-item.is c.text-name.ensures w.in-Up.is c.loop-line.invariant
      (ap string_bytes w.text-is ∙ w.in_ok-write_line-in-Up.ensures)
  | in-Down+in_ok-write_line-in-Down w ↦
      pull-step c.args.nets.now c.loop-line.line-index c.line-item.result c.text-name.result.now _ _ _ _ c.loop-line-test.true c.line-item.is c.text-name.ensures w.in-Down.is c.loop-line.invariant
      (ap string_bytes w.text-is ∙ w.in_ok-write_line-in-Down.ensures)
]
