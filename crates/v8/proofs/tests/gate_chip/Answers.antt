use Rattle.std.proofs.Common.{◌≡◌, ◌+◌, ◌-◌, ◌++◌, ◌∷◌, [], ◌∙◌, ℕ, List, map, sym, ap, subst, arith}
use Rattle.mig_base.specs.declared.cells.Lit.{Lit}
use Rattle.mig_base.specs.declared.cells.Cell.{Cell}
use Rattle.mig_base.specs.First.{made_from}
use Rattle.mig_base.specs.Cells.{idle}
use Rattle.mig_base.specs.WellFormed.{IsWellFormed}
use Rattle.devices.proofs.RowLemmas.{map-made_from-more}
use Rattle.v8.proofs.Gate.{gate_cell, gate_lits, gate_cells, chip_of, gate-well}
use Rattle.v8.proofs.tests.gate_chip.Goals as goal

pub loop-pin-preserved : goal.loop-pin-preserved
loop-pin-preserved c =
    let pin = c.loop-pin.pin in
    let n = pin - 12 in
    let more : pin + 1 - 12 ≡ n + 1 = omega arith in
    let here : pin ≡ 12 + n = omega arith in
    c.in_ok-push.ensures.items ∙ ap (λ (cells : List Cell). cells ++ c.idle.result ∷ []) c.loop-pin.invariant
    ∙ ap (λ (cell : Cell). map idle (made_from (λ (p : ℕ). p) 12 n) ++ cell ∷ []) (c.idle.ensures ∙ ap idle here)
    ∙ sym (map-made_from-more idle 12 n (pin + 1 - 12) more)

pub returns-clause-well_formed : goal.returns-clause-well_formed
returns-clause-well_formed c =
    let all : c.loop-pin.pin - 12 ≡ 7 = omega arith in
    let idles : c.loop-pin.cells.items ≡ map idle (made_from (λ (p : ℕ). p) 12 7) = c.loop-pin.invariant ∙ ap (λ (n : ℕ). map idle (made_from (λ (p : ℕ). p) 12 n)) all in
    let terms : c.new-2.result ≡ gate_lits ∷ [] =
    c.new-2.ensures ∙ c.in_ok-push-2.ensures.items ∙ ap (λ (ts : List (List Lit)). ts ++ c.in_ok-new.field-0 ∷ []) c.new-terms.ensures.items ∙ ap (λ (lits : List Lit). lits ∷ []) c.in_ok-new.ensures in
    let made : c.new-3.result ≡ gate_cells =
    c.new-3.ensures ∙ c.in_ok-push-3.ensures.items ∙ ap (λ (cells : List Cell). cells ++ gate_cell c.new-2.result ∷ []) idles
    ∙ ap (λ (ts : List (List Lit)). map idle (made_from (λ (p : ℕ). p) 12 7) ++ gate_cell ts ∷ []) terms in
    subst (λ (cells : List Cell). IsWellFormed (chip_of cells)) (sym made) gate-well
