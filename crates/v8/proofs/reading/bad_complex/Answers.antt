use Rattle.std.proofs.Common.{ℕ, suc, ◌≡◌, ◌+◌, ◌-◌, ◌<◌, ◌∙◌, true, false, sym, ap, arith, Option, Some}
use Rattle.mig_base.specs.declared.cells.ChipError.{ChipError}
use Rattle.mig_base.specs.declared.cells.ChipError.TheVariants.{Ac1InComplex}
use Rattle.mig_base.specs.First.{made_from}
use Rattle.mig_base.specs.DeviceTables.{top_pin}
use Rattle.mig_base.specs.Cells.{is_bad_complex, complex_refusal}
use Rattle.v8.proofs.ReadingLemmas.{complex-found, complex-passed}
use Rattle.v8.proofs.reading.bad_complex.Goals as goal

pub returns-then-is_bad_complex : goal.returns-then-is_bad_complex
returns-then-is_bad_complex c =
    let k = c.args.kind in
    let bits = c.args.fuses.now in
    let place = c.loop-place.place in
    let top : c.top_pin.result ≡ top_pin k = c.top_pin.ensures in
    let within : place < 8 = omega arith in
    let one : 8 - place ≡ suc (7 - place) = omega arith in
    let bad : is_bad_complex k bits (top_pin k - place) ≡ true =
    ap (λ (t : ℕ). is_bad_complex k bits (t - place)) (sym top) ∙ sym c.is_bad_complex.ensures ∙ c.if-is_bad_complex.true in
    ap (λ (t : ℕ). let found : Option ChipError = Some (Ac1InComplex (t - place)) in found) top
    ∙ sym (c.loop-place.invariant ∙ complex-found k bits (top_pin k) place (7 - place) (8 - place) one bad)

pub loop-place-preserved : goal.loop-place-preserved
loop-place-preserved c =
    let k = c.args.kind in
    let bits = c.args.fuses.now in
    let place = c.loop-place.place in
    let within : place < 8 = omega arith in
    let one : 8 - place ≡ suc (8 - (place + 1)) = omega arith in
    let good : is_bad_complex k bits (top_pin k - place) ≡ false =
    ap (λ (t : ℕ). is_bad_complex k bits (t - place)) (sym c.top_pin.ensures) ∙ sym c.is_bad_complex.ensures ∙ c.if-is_bad_complex.false in
    c.loop-place.invariant ∙ complex-passed k bits (top_pin k) place (8 - (place + 1)) (8 - place) one good

pub returns : goal.returns
returns c =
    let k = c.args.kind in
    let bits = c.args.fuses.now in
    let place = c.loop-place.place in
    let none : 8 - place ≡ 0 = omega arith in
    sym (c.loop-place.invariant ∙ ap (λ (n : ℕ). complex_refusal k bits (made_from (λ (j : ℕ). top_pin k - j) place n)) none)
