-- What the tables of a GAL22V10 hold: its pins, its columns, its fuse counts, and how its cells are read.
use Rattle.std.proofs.Common.{ℕ, ◌≡◌, ◌*◌, Bool, true, false, ◌||◌, List, [], ◌∷◌, reverse, length, refl, ap, ◌∙◌, arith, IsTrue, Ok}
use Rattle.std.specs.Prelude.{◌==◌}
use Rattle.mig_base.specs.declared.kinds.Kind.{Kind}
use Rattle.mig_base.specs.declared.kinds.Kind.TheVariants.{Gal22V10, Gal22V10Q}
use Rattle.mig_base.specs.declared.kinds.Mode.TheVariants.{Fixed}
use Rattle.mig_base.specs.First.{made_from}
use Rattle.mig_base.specs.DeviceTables.{pair_pins, columns_22, cell_pins, has_count, even_reads_q, is_22, is_v8}
use Rattle.mig_base.specs.Cells as cells
use Rattle.devices.proofs.RowLaws.{IsDistinct, distinct_pins, columns-distinct, length-columns}

-- the macrocell pins, falling
abbrev pub falling_pins : List ℕ
falling_pins = 23 ∷ 22 ∷ 21 ∷ 20 ∷ 19 ∷ 18 ∷ 17 ∷ 16 ∷ 15 ∷ 14 ∷ []

-- what the tables of a GAL22V10 hold
pub record IsV22Table (k : Kind) : Type 0 where
  pub is : is_22 k ≡ true
  pub not_v8 : is_v8 k ≡ false
  pub pins : cell_pins k ≡ made_from (λ (p : ℕ). p) 14 10
  pub falling : reverse (cell_pins k) ≡ falling_pins
  pub pairs : pair_pins k Fixed ≡ columns_22
  pub count : (n : ℕ) → has_count k n ≡ ((n == 5828) || (n == 5892))
  pub made : (bits : List Bool) → cells.cells_by_kind k bits ≡ Ok (cells.cells_22 k bits)

pub v22-table : (k : Kind) → IsTrue (is_22 k) → IsV22Table k
v22-table Gal22V10 h = record { is = refl; not_v8 = refl; pins = refl; falling = refl; pairs = refl; count = λ n. refl; made = λ bits. refl }
v22-table Gal22V10Q h = record { is = refl; not_v8 = refl; pins = refl; falling = refl; pairs = refl; count = λ n. refl; made = λ bits. refl }
v22-table _ h = cc

pub v22-width : (k : Kind) (registers : List ℕ) → IsTrue (is_22 k) → length (cells.columns_of k Fixed registers) ≡ 44
v22-width k registers h =
    length-columns (even_reads_q k) registers (pair_pins k Fixed)
    ∙ (let few : length (pair_pins k Fixed) ≡ 22 = ap length (v22-table k h).pairs in omega arith)

pub v22-distinct : (k : Kind) (registers : List ℕ) → IsTrue (is_22 k) → IsDistinct (cells.columns_of k Fixed registers)
v22-distinct k registers h = columns-distinct (even_reads_q k) registers (pair_pins k Fixed) (ap distinct_pins (v22-table k h).pairs)
