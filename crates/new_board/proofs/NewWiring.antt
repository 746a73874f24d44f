-- The wiring of new chips, and the numbers of nets on it.
use Rattle.std.proofs.Common.{ℕ, ◌≡◌, ◌<◌, List, map, Option, Some, None, refl}
use Rattle.std.specs.List.{slice_get}
use Rattle.mig_base.specs.declared.nets.Net.{Net}
use Rattle.mig_base.specs.declared.circuit.Gate.{Gate}
use Rattle.mig_base.specs.declared.circuit.Gate.TheVariants.{Never, Product}
use Rattle.mig_base.specs.Among.{Among}
use Rattle.mig_base.specs.DeviceTables.{ordinary_pins}
use Rattle.mig_base.specs.Boards.{kinds_of}
use Rattle.new_board.specs.declared.types.PlacedUnit.{PlacedUnit}
use Rattle.new_board.specs.NewChip.{OldBoard, NewChip, private_from, unit_on, placed_register}
use Rattle.new_board.specs.InputPins.{pin_net}
use Rattle.new_board.specs.NewFiles.{new_comb, cell_by, cell_of, new_cell, fitted, kept_numbers, new_number, new_net}

abbrev pub rebuilt_net : OldBoard → List NewChip → Net
rebuilt_net b news = new_net b.net (map (fitted b) news)

abbrev pub kept_of : OldBoard → List NewChip → List ℕ
kept_of b news = kept_numbers b.net (map (fitted b) news)

-- each cell is made for its pin
comb-pin : (b : OldBoard) (chip : NewChip) (pin : ℕ) (x : PlacedUnit) (gate : Gate) → (new_comb b chip pin x gate).pin ≡ pin
comb-pin b chip pin x Never = refl
comb-pin b chip pin x (Product lits) = refl

by-pin : (b : OldBoard) (chip : NewChip) (pin : ℕ) (x : PlacedUnit) (k : Option ℕ) → (cell_by b chip pin x k).pin ≡ pin
by-pin b chip pin x None = comb-pin b chip pin x x.enable
by-pin b chip pin x (Some k) = refl

of-pin : (b : OldBoard) (chip : NewChip) (pin : ℕ) (o : Option PlacedUnit) → (cell_of b chip pin o).pin ≡ pin
of-pin b chip pin None = refl
of-pin b chip pin (Some x) = by-pin b chip pin x (placed_register b.circuit x)

pub cell-pin : (b : OldBoard) (chip : NewChip) (pin : ℕ) → (new_cell b chip pin).pin ≡ pin
cell-pin b chip pin = of-pin b chip pin (unit_on chip.units pin)

-- a net of the old board on which a pin of the new board stands, by its number there
pub record IsNumbered (b : OldBoard) (news : List NewChip) (old : ℕ → ℕ) (n : ℕ) : Type 0 where
  pub below : new_number (kept_of b news) n < private_from (rebuilt_net b news)
  pub back : old (new_number (kept_of b news) n) ≡ n

-- the numbers of the constants and the named nets on the new board and on the old one
pub record NumbersFit (b : OldBoard) (news : List NewChip) (old : ℕ → ℕ) : Type 0 where
  pub wired : (j : ℕ) (chip : NewChip) (pin n : ℕ) → slice_get news j ≡ Some chip → Among pin (ordinary_pins chip.kind) → pin_net b chip pin ≡ Some n →
      n < private_from b.net → IsNumbered b news old n
  pub within : (n : ℕ) → n < private_from (rebuilt_net b news) → old n < private_from b.net
  pub kinds : (n : ℕ) → n < private_from (rebuilt_net b news) → slice_get (kinds_of (rebuilt_net b news)) n ≡ slice_get (kinds_of b.net) (old n)
  pub constants : (n : ℕ) → n < 2 → old n ≡ n
  pub apart : (n m : ℕ) → n < private_from (rebuilt_net b news) → m < private_from (rebuilt_net b news) → old n ≡ old m → n ≡ m
