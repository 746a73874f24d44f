use Rattle.std.proofs.Common.{ap, ◌∙◌, string_bytes, []}
use Rattle.text_lines.proofs.WrittenSteps.{first-word, next-word}
use Rattle.text_lines.proofs.writing.write_line.Goals as goal
use Rattle.text_lines.proofs.writing.write_line.Goals.{then-i-gt0+in_ok-push_str, else-i-gt0}

pub loop-i-preserved : goal.loop-i-preserved
loop-i-preserved c = elim c.if-i-gt0.branch [
  | then-i-gt0+in_ok-push_str w ↦
      next-word c.args.words.now c.loop-i.i (record { ref_ptr = (0, 0); now = [] }) _ (string_bytes c.loop-i.text) (string_bytes c.if-i-gt0.text) _ c.loop-i-test.true w.if-i-gt0.true c.loop-i.invariant
      (ap string_bytes w.text-is ∙ w.in_ok-push_str.ensures.bytes) c.in_ok-push_str-2.ensures.bytes
  | else-i-gt0 w ↦
      first-word c.args.words.now c.loop-i.i (record { ref_ptr = (0, 0); now = [] }) _ (string_bytes c.loop-i.text) (string_bytes c.if-i-gt0.text) _ c.loop-i-test.true w.if-i-gt0.false c.loop-i.invariant
      (ap string_bytes w.text-is) c.in_ok-push_str-2.ensures.bytes
]
