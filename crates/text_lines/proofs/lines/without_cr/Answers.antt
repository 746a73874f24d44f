use Rattle.std.proofs.Common.{◌∙◌, sym}
use Rattle.text_lines.proofs.LineSteps.{cr-there, cr-not-there}
use Rattle.text_lines.proofs.lines.without_cr.Goals as goal

pub returns-then-ends_in_cr : goal.returns-then-ends_in_cr
returns-then-ends_in_cr c = sym (cr-there c.args.line.now (sym c.ends_in_cr.ensures ∙ c.if-ends_in_cr.true))

pub returns-else-ends_in_cr : goal.returns-else-ends_in_cr
returns-else-ends_in_cr c = sym (cr-not-there c.args.line.now (sym c.ends_in_cr.ensures ∙ c.if-ends_in_cr.false))
