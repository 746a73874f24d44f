use Rattle.std.proofs.Common.{◌≡◌, true, false, sym, ◌∙◌}
use Rattle.fit.proofs.ShareLaws.{enable-free}
use Rattle.fit.proofs.breaks.wrong_enable.Goals as goal

pub returns : goal.returns
returns c =
    enable-free c.args.reckoned.now.placed.now.board.now c.args.reckoned.now.placed.now.plan.now c.args.unit.now c.args.parts.now c.requires.parts (sym c.has_many.ensures ∙ c.if-has_many.false)
    (λ k. let wrong : true ≡ false = sym (c.wants_other_pin.ensures.no k) ∙ c.if-wants_other_pin.false in cc)
