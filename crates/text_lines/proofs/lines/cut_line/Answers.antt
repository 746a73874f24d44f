use Rattle.std.proofs.Common.{◌+◌, ◌++◌, ◌∙◌, ap, sym, drop, List, ℕ}
use Rattle.mig_base.proofs.ListLaws.{rest-of}
use Rattle.text_lines.specs.Statements.{lines_behind, line_here}
use Rattle.text_lines.proofs.LineSteps.{line-cut, line-whole}
use Rattle.text_lines.proofs.lines.cut_line.Goals as goal

pub returns-in-Some-clause-lines : goal.returns-in-Some-clause-lines
returns-in-Some-clause-lines c = λ read.
    line-cut c.args.bytes.now c.in-Some.end (sym c.in-Some.ensures) read
    ∙ ap (λ (line : List ℕ). line_here (read + 1) line ++ lines_behind (read + 1) (drop (c.in-Some.end + 1) c.args.bytes.now)) (sym c.without_cr.ensures)
    ∙ ap (λ (rest : List ℕ). line_here (read + 1) c.without_cr.result.now ++ lines_behind (read + 1) rest) (sym (rest-of c.args.bytes.now (c.in-Some.end + 1)))

pub returns-in-None-clause-lines : goal.returns-in-None-clause-lines
returns-in-None-clause-lines c = λ read. line-whole c.args.bytes.now (sym c.in-None.ensures) read
