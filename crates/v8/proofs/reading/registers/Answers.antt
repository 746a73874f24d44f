use Rattle.std.proofs.Common.{ℕ, ◌≡◌, ◌≤◌, ◌+◌, ◌-◌, ◌++◌, ◌∷◌, [], ◌∙◌, List, true, false, not, filter, sym, ap, arith, rules}
use Rattle.std.proofs.lemmas.List.{append-nil}
use Rattle.mig_base.specs.declared.kinds.Mode.{Mode}
use Rattle.mig_base.specs.declared.kinds.Mode.TheVariants.{Registered}
use Rattle.mig_base.specs.First.{made_from}
use Rattle.mig_base.specs.DeviceTables.{top_pin}
use Rattle.mig_base.specs.Cells.{ac1_at, v8_registers}
use Rattle.devices.proofs.MacrocellLaws.{v8-table}
use Rattle.devices.proofs.RowLemmas.{filter-made_from-more}
use Rattle.v8.proofs.reading.registers.Goals.{then-not-ac1+in_ok-push, else-not-ac1}
use Rattle.v8.proofs.reading.registers.Goals as goal

pub loop-pin-preserved : goal.loop-pin-preserved
loop-pin-preserved c =
    let p = λ (pin : ℕ). not (ac1_at c.args.kind c.args.fuses.now pin) in
    let low = c.top_pin-top.result - 7 in
    let pin = c.loop-pin.pin in
    let n = pin - low in
    let more : pin + 1 - low ≡ n + 1 = omega arith in
    let here : low + n ≡ pin = omega arith in
    let told : p (low + n) ≡ not c.ac1.result = ap p here ∙ ap not (sym c.ac1.ensures) in
    let before = filter p (made_from (λ (q : ℕ). q) low n) in
    elim c.if-not-ac1.branch [
      | then-not-ac1+in_ok-push w ↦
          (let pushed : c.if-not-ac1.pins.items ≡ c.loop-pin.pins.items ++ pin ∷ [] = cc w.in_ok-push.ensures.items in pushed)
          ∙ ap (λ (pins : List ℕ). pins ++ pin ∷ []) c.loop-pin.invariant ∙ ap (λ (q : ℕ). before ++ q ∷ []) (sym here)
          ∙ sym (filter-made_from-more p low n (pin + 1 - low) true more (told ∙ ap not w.if-not-ac1.true))
      | else-not-ac1 w ↦
          (let kept : c.if-not-ac1.pins.items ≡ c.loop-pin.pins.items = cc in kept)
          ∙ c.loop-pin.invariant ∙ sym (append-nil before)
          ∙ sym (filter-made_from-more p low n (pin + 1 - low) false more (told ∙ ap not w.if-not-ac1.false))
    ]

pub returns : goal.returns
returns c =
    let p = λ (pin : ℕ). not (ac1_at c.args.kind c.args.fuses.now pin) in
    let t = v8-table c.args.kind c.requires.kind in
    let low : c.top_pin-top.result - 7 ≡ top_pin c.args.kind - 7 = ap (λ (n : ℕ). n - 7) c.top_pin-top.ensures in
    let room : 7 ≤ top_pin c.args.kind = t.high in
    let all : c.loop-pin.pin - (c.top_pin-top.result - 7) ≡ 8 = omega arith in
    let mode : c.args.mode ≡ Registered = search rules in
    c.loop-pin.invariant ∙ ap (λ (n : ℕ). filter p (made_from (λ (q : ℕ). q) (c.top_pin-top.result - 7) n)) all
    ∙ ap (λ (n : ℕ). filter p (made_from (λ (q : ℕ). q) n 8)) low ∙ ap (filter p) (sym t.pins)
    ∙ ap (λ (m : Mode). v8_registers c.args.kind m c.args.fuses.now) (sym mode)
