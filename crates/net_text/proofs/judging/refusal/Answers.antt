use Rattle.std.proofs.Common.{◌∙◌, sym, true, false}
use Rattle.net_text.proofs.Refusals.{line-refused}
use Rattle.net_text.proofs.judging.refusal.Goals as goal

pub returns-then-is_out_of_order : goal.returns-then-is_out_of_order
returns-then-is_out_of_order c = sym (line-refused c.args.before.now c.args.line.now true (sym c.is_out_of_order.ensures ∙ c.if-is_out_of_order.true))

pub returns : goal.returns
returns c = c.said_refusal.ensures ∙ sym (line-refused c.args.before.now c.args.line.now false (sym c.is_out_of_order.ensures ∙ c.if-is_out_of_order.false))
