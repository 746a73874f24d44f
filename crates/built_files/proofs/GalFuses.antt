-- The fuses of a GAL by its fuse map, and their text.
use Rattle.std.proofs.Common.{◌≡◌, Bool, true, false, cond, ◌||◌, List, [], length, Ok, Err, refl, ap, ◌∙◌}
use Rattle.mig_base.specs.declared.kinds.Kind.{Kind}
use Rattle.mig_base.specs.declared.kinds.Kind.TheVariants.{Gal16V8, Gal20V8}
use Rattle.mig_base.specs.declared.cells.ChipCells.{ChipCells}
use Rattle.mig_base.specs.declared.cells.ChipError.TheVariants.{Count}
use Rattle.mig_base.specs.DeviceTables.{has_count, is_gal, is_v8, is_22}
use Rattle.mig_base.specs.Cells.{cells_of, cells_by_kind}
use Rattle.mig_base.specs.WellFormed.{IsWellFormed}
use Rattle.mig_base.specs.WrittenCells.{v8_fuses}
use Rattle.mig_base.specs.Written22.{v22_fuses}
use Rattle.v8.proofs.V8Laws.{v8-again}
use Rattle.v22.proofs.V22Laws.{v22-again}
use Rattle.jed_write.proofs.WrittenKinds.{written-read, written-short}
use Rattle.new_board.specs.Files.{chip_fuses}
use Rattle.built_files.specs.ReadBack.{IsReadBack}

-- no kind is both
v8-not-22 : (k : Kind) → is_v8 k ≡ true → is_22 k ≡ false
v8-not-22 Gal16V8 e = refl
v8-not-22 Gal20V8 e = refl
v8-not-22 k e = let no : ⊥ = cc in absurd no

-- a GAL that isn't of the one is of the other
pub not-v8 : (k : Kind) → is_gal k ≡ true → is_v8 k ≡ false → is_22 k ≡ true
not-v8 k gal other = at (is_v8 k) (is_22 k) gal other
  where
    at : (a b : Bool) → (a || b) ≡ true → a ≡ false → b ≡ true
    at true b e f = cc
    at false b e f = e

pub fuses-v8 : (c : ChipCells) → is_v8 c.kind ≡ true → chip_fuses c ≡ v8_fuses c
fuses-v8 c v8 = ap (λ (b : Bool). cond b (v22_fuses c) (v8_fuses c)) (v8-not-22 c.kind v8)

pub fuses-v22 : (c : ChipCells) → is_22 c.kind ≡ true → chip_fuses c ≡ v22_fuses c
fuses-v22 c v22 = ap (λ (b : Bool). cond b (v22_fuses c) (v8_fuses c)) v22

-- the written fuses make the cells again
pub gal-again : (c : ChipCells) → is_gal c.kind ≡ true → IsWellFormed c → cells_of c.kind (chip_fuses c) ≡ Ok c
gal-again c gal well = at (is_v8 c.kind) refl
  where
    at : (b : Bool) → is_v8 c.kind ≡ b → cells_of c.kind (chip_fuses c) ≡ Ok c
    at true e = ap (cells_of c.kind) (fuses-v8 c e) ∙ v8-again c e well
    at false e = let v22 = not-v8 c.kind gal e in ap (cells_of c.kind) (fuses-v22 c v22) ∙ v22-again c v22 well

-- the fuse count is right where fuses make cells
pub right-count : (k : Kind) (bits : List Bool) (c : ChipCells) → cells_of k bits ≡ Ok c → has_count k (length bits) ≡ true
right-count k bits c e = at (has_count k (length bits)) refl e
  where
    at : (b : Bool) → has_count k (length bits) ≡ b → cond b (cells_by_kind k bits) (Err (Count (length bits))) ≡ Ok c → has_count k (length bits) ≡ true
    at true p e = p
    at false p e = cc

pub read-back : (c : ChipCells) → is_gal c.kind ≡ true → IsWellFormed c → IsReadBack c
read-back c gal well =
    let again = gal-again c gal well in
    let count = right-count c.kind (chip_fuses c) c again in
    record { short = written-short c.kind (chip_fuses c) count; fuses = written-read c.kind (chip_fuses c) [] count tt; made = again }
