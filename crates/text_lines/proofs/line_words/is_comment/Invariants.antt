use Rattle.std.proofs.Common.{◌≡◌, drop}
use Rattle.mig_base.specs.Lines.{is_comment, words_of}
use Rattle.text_lines.proofs.line_words.is_comment.Given as goal

abbrev pub invariant-loop-b : goal.invariant-loop-b
invariant-loop-b l = is_comment (words_of (drop l.b-index l.line)) ≡ is_comment (words_of l.line)
