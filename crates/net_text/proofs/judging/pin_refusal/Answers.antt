use Rattle.std.proofs.Common.{ap, ◌∙◌, sym, true, false, refl, ℕ, ◌&&◌, ◌||◌, ◌/◌, ◌≡◌}
use Rattle.std.specs.Prelude.{nat_le, not, ◌==◌}
use Rattle.mig_base.specs.DeviceTables.{pins_of}
use Rattle.net_text.proofs.Refusals.{pin-refused}
use Rattle.net_text.proofs.judging.pin_refusal.Goals as goal

pub returns-then-any_on_pin : goal.returns-then-any_on_pin
returns-then-any_on_pin c =
    let last : pins_of c.in-Some.line.kind ≡ c.pins-last.result = sym c.pins-last.ensures in
    sym (pin-refused c.args.n c.args.before.now c.args.chip.now c.args.pin c.args.line c.args.net c.in-Some.line c.in-Some-net.net true true _ c.in-Some.is c.in-Some-net.is
    (ap (λ (k : ℕ). nat_le 1 c.args.pin && nat_le c.args.pin k) last ∙ sym c.is_pin.ensures ∙ c.if-not-is_pin.false) (sym c.any_on_pin.ensures ∙ c.if-any_on_pin.true) refl)

pub returns : goal.returns
returns c =
    let last : pins_of c.in-Some.line.kind ≡ c.pins-last.result = sym c.pins-last.ensures in
    c.refuse.ensures
    ∙ sym (pin-refused c.args.n c.args.before.now c.args.chip.now c.args.pin c.args.line c.args.net c.in-Some.line c.in-Some-net.net true false c.is_power_elsewhere.result c.in-Some.is c.in-Some-net.is
    (ap (λ (k : ℕ). nat_le 1 c.args.pin && nat_le c.args.pin k) last ∙ sym c.is_pin.ensures ∙ c.if-not-is_pin.false) (sym c.any_on_pin.ensures ∙ c.if-any_on_pin.false)
    (ap (λ (k : ℕ). ((c.args.pin == k / 2) && not (c.in-Some-net.net == 0)) || ((c.args.pin == k) && not (c.in-Some-net.net == 1))) last ∙ sym c.is_power_elsewhere.ensures))
