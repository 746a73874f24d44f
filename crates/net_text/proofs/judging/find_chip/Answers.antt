use Rattle.std.proofs.Common.{ap, ◌∙◌, sym}
use Rattle.std.specs.Str.{bytes_eq}
use Rattle.net_text.proofs.Lookups.{find-here, find-next, find-past}
use Rattle.net_text.proofs.judging.find_chip.Goals as goal

pub loop-line-preserved : goal.loop-line-preserved
loop-line-preserved c =
    sym (find-next (λ m. bytes_eq c.args.name.now m.name) c.args.chips.now c.loop-line.line-index c.line-item.result c.loop-line-test.true c.line-item.is
    (ap (bytes_eq c.args.name.now) (sym c.bytes.ensures) ∙ sym c.is.ensures ∙ c.if-is.false))
    ∙ c.loop-line.invariant

pub returns-then-is : goal.returns-then-is
returns-then-is c =
    sym (find-here (λ m. bytes_eq c.args.name.now m.name) c.args.chips.now c.loop-line.line-index c.line-item.result c.loop-line-test.true c.line-item.is
    (ap (bytes_eq c.args.name.now) (sym c.bytes.ensures) ∙ sym c.is.ensures ∙ c.if-is.true))
    ∙ c.loop-line.invariant

pub returns : goal.returns
returns c = sym (find-past (λ m. bytes_eq c.args.name.now m.name) c.args.chips.now c.loop-line.line-index c.loop-line-test.false) ∙ c.loop-line.invariant
