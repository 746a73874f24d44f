use Rattle.std.proofs.Common.{◌≡◌, ◌+◌, ◌-◌, ◌++◌, ◌∷◌, [], ◌∙◌, ℕ, List, true, map, sym, ap, subst, arith}
use Rattle.mig_base.specs.declared.cells.Row.{Row}
use Rattle.mig_base.specs.declared.cells.Cell.{Cell}
use Rattle.mig_base.specs.First.{made_from}
use Rattle.mig_base.specs.Cells.{idle}
use Rattle.mig_base.specs.WellFormed.{IsWellFormed}
use Rattle.devices.proofs.RowLemmas.{map-made_from-more}
use Rattle.v22.proofs.Registers.{register, pin_row, idle_cells, register_cells, chip_of, registers-well}
use Rattle.v22.proofs.tests.two_registers.Goals as goal

pub loop-pin-preserved : goal.loop-pin-preserved
loop-pin-preserved c =
    let pin = c.loop-pin.pin in
    let n = pin - 15 in
    let more : pin + 1 - 15 ≡ n + 1 = omega arith in
    let here : pin ≡ 15 + n = omega arith in
    c.in_ok-push-2.ensures.items ∙ ap (λ (cells : List Cell). cells ++ c.idle.result ∷ []) c.loop-pin.invariant
    ∙ ap (λ (cell : Cell). idle_cells n ++ cell ∷ []) (c.idle.ensures ∙ ap idle here)
    ∙ ap (λ (cells : List Cell). register 14 true ∷ cells) (sym (map-made_from-more idle 15 n (pin + 1 - 15) more))

pub returns-clause-well_formed : goal.returns-clause-well_formed
returns-clause-well_formed c =
    let all : c.loop-pin.pin - 15 ≡ 8 = omega arith in
    let before : c.loop-pin.cells.items ≡ idle_cells 8 = c.loop-pin.invariant ∙ ap idle_cells all in
    let made : c.new.result ≡ register_cells =
    c.new.ensures ∙ c.in_ok-push-3.ensures.items ∙ ap (λ (cells : List Cell). cells ++ c.register-2.result ∷ []) before
    ∙ ap (λ (cell : Cell). idle_cells 8 ++ cell ∷ []) c.register-2.ensures in
    subst (λ (r : Row). IsWellFormed (chip_of c.new.result c.in_ok-reset.reset r)) (sym c.in_ok-preset.ensures)
    (subst (λ (r : Row). IsWellFormed (chip_of c.new.result r (pin_row 3))) (sym c.in_ok-reset.ensures)
    (subst (λ (cells : List Cell). IsWellFormed (chip_of cells (pin_row 2) (pin_row 3))) (sym made) registers-well))
