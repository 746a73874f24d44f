-- The new chips of a board that is rebuilt one for one are no more than the old ones.
use Rattle.std.proofs.Common.{ℕ, ◌≤◌, ◌+◌, List, [], ◌∷◌, length, arith}
use Rattle.mig_base.specs.declared.nets.ChipLine.{ChipLine}
use Rattle.mig_base.specs.declared.cells.ChipCells.{ChipCells}
use Rattle.new_board.specs.NewChip.{OldBoard}
use Rattle.new_board.specs.OneForOne.{same_chips_from}

pub chips-few : (b : OldBoard) (j : ℕ) (lines : List ChipLine) (chips : List ChipCells) → length (same_chips_from b j lines chips) ≤ length lines
chips-few b j [] chips = omega arith
chips-few b j (line ∷ lines) [] = omega arith
chips-few b j (line ∷ lines) (cells ∷ chips) = let more = chips-few b (j + 1) lines chips in omega arith
