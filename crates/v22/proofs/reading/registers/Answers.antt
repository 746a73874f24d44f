use Rattle.std.proofs.Common.{ℕ, ◌≡◌, ◌+◌, ◌-◌, ◌++◌, ◌∷◌, [], ◌∙◌, List, true, false, not, filter, sym, ap, arith}
use Rattle.std.proofs.lemmas.List.{append-nil}
use Rattle.mig_base.specs.First.{made_from}
use Rattle.mig_base.specs.Cells.{s1_at}
use Rattle.devices.proofs.RowLemmas.{filter-made_from-more}
use Rattle.devices.proofs.V22Tables.{v22-table}
use Rattle.v22.proofs.reading.registers.Goals.{then-not-s1+in_ok-push, else-not-s1}
use Rattle.v22.proofs.reading.registers.Goals as goal

pub loop-pin-preserved : goal.loop-pin-preserved
loop-pin-preserved c =
    let p = λ (pin : ℕ). not (s1_at c.args.fuses.now pin) in
    let pin = c.loop-pin.pin in
    let n = pin - 14 in
    let more : pin + 1 - 14 ≡ n + 1 = omega arith in
    let here : 14 + n ≡ pin = omega arith in
    let told : p (14 + n) ≡ not c.s1.result = ap p here ∙ ap not (sym c.s1.ensures) in
    let before = filter p (made_from (λ (q : ℕ). q) 14 n) in
    elim c.if-not-s1.branch [
      | then-not-s1+in_ok-push w ↦
          (let pushed : c.if-not-s1.pins.items ≡ c.loop-pin.pins.items ++ pin ∷ [] = cc w.in_ok-push.ensures.items in pushed)
          ∙ ap (λ (pins : List ℕ). pins ++ pin ∷ []) c.loop-pin.invariant ∙ ap (λ (q : ℕ). before ++ q ∷ []) (sym here)
          ∙ sym (filter-made_from-more p 14 n (pin + 1 - 14) true more (told ∙ ap not w.if-not-s1.true))
      | else-not-s1 w ↦
          (let kept : c.if-not-s1.pins.items ≡ c.loop-pin.pins.items = cc in kept)
          ∙ c.loop-pin.invariant ∙ sym (append-nil before)
          ∙ sym (filter-made_from-more p 14 n (pin + 1 - 14) false more (told ∙ ap not w.if-not-s1.false))
    ]

pub returns : goal.returns
returns c = λ kind h.
    let p = λ (pin : ℕ). not (s1_at c.args.fuses.now pin) in
    let all : c.loop-pin.pin - 14 ≡ 10 = omega arith in
    c.loop-pin.invariant ∙ ap (λ (n : ℕ). filter p (made_from (λ (q : ℕ). q) 14 n)) all ∙ ap (filter p) (sym (v22-table kind h).pins)
