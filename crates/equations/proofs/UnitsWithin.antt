-- The chips of the units of a board are chips of the board.
use Rattle.std.proofs.Common.{ℕ, ◌<◌, ◌≤◌, ◌+◌, List, [], ◌∷◌, length, map, filter, arith}
use Rattle.std.specs.List.{All}
use Rattle.std.proofs.lemmas.List.Elements.{All-nil, All-append, All-map}
use Rattle.mig_base.specs.declared.cells.Cell.{Cell}
use Rattle.mig_base.specs.declared.cells.ChipCells.{ChipCells}
use Rattle.mig_base.specs.Boards.{ChipUnit, is_unit, units_from}

pub units-within : (j n : ℕ) (chips : List ChipCells) → j + length chips ≤ n → All (λ (u : ChipUnit). u.chip < n) (units_from j chips)
units-within j n [] h = All-nil (λ (u : ChipUnit). u.chip < n)
units-within j n (c ∷ cs) h =
    let unit = λ (cell : Cell). let u : ChipUnit = record { chip = j; cells = c; cell = cell } in u in
    All-append (λ (u : ChipUnit). u.chip < n) (map unit (filter (is_unit c) c.cells)) (units_from (j + 1) cs)
    (All-map (λ (u : ChipUnit). u.chip < n) unit (filter (is_unit c) c.cells) (λ k d i. omega arith))
    (units-within (j + 1) n cs (omega arith))
