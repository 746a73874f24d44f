-- The tables of PALs, and what the cells of one are where the fuse count is right.
use Rattle.std.proofs.Common.{◌≡◌, ◌≢◌, ◌≤◌, ◌-◌, ◌*◌, ◌∙◌, ℕ, List, Bool, true, false, IsTrue, length, refl, ap, Ok, Err, arith, eq-eqb}
use Rattle.std.proofs.lemmas.Bool.{ne_eqb}
use Rattle.std.specs.Prelude.{◌==◌, if◌then◌else◌}
use Rattle.mig_base.specs.declared.kinds.Kind.{Kind}
use Rattle.mig_base.specs.declared.kinds.Kind.TheVariants.{Gal16V8, Gal20V8, Gal22V10, Gal22V10Q}
use Rattle.mig_base.specs.declared.kinds.Mode.TheVariants.{Fixed}
use Rattle.mig_base.specs.declared.cells.ChipError.TheVariants.{Count}
use Rattle.mig_base.specs.First.{made_from}
use Rattle.mig_base.specs.DeviceTables.{is_pal, is_pal16, pal_registers, array_width, even_reads_q, cell_pins, top_pin, has_count}
use Rattle.mig_base.specs.Cells.{columns_of, cells_of, cells_by_kind, pal_cells}

-- what the tables of a PAL hold, and how its cells are read
pub record IsPalTable (k : Kind) : Type 0 where
  pub wide : length (columns_of k Fixed (pal_registers k)) ≡ array_width k
  pub not_q : even_reads_q k ≡ false
  pub low : 12 ≤ top_pin k
  pub high : top_pin k ≤ 22
  pub pins : made_from (λ (p : ℕ). p) (top_pin k - 7) 8 ≡ cell_pins k
  pub count : (n : ℕ) → has_count k n ≡ (n == 64 * array_width k)
  pub made : (bits : List Bool) → cells_by_kind k bits ≡ Ok (pal_cells k bits)

pub pal-table : (k : Kind) → IsTrue (is_pal k) → IsPalTable k
pal-table Gal16V8 h = cc
pal-table Gal20V8 h = cc
pal-table Gal22V10 h = cc
pal-table Gal22V10Q h = cc
pal-table _ h = record { wide = refl; not_q = refl; low = omega arith; high = omega arith; pins = refl; count = λ n. refl; made = λ bits. refl }

pub is_pal-from_pal16 : (k : Kind) → IsTrue (is_pal16 k) → IsTrue (is_pal k)
is_pal-from_pal16 Gal16V8 h = cc
is_pal-from_pal16 Gal20V8 h = cc
is_pal-from_pal16 Gal22V10 h = cc
is_pal-from_pal16 Gal22V10Q h = cc
is_pal-from_pal16 _ h = refl

pub cells-right : (k : Kind) → IsTrue (is_pal k) → (bits : List Bool) → length bits ≡ 64 * array_width k → cells_of k bits ≡ Ok (pal_cells k bits)
cells-right k h bits e =
    let t = pal-table k h in
    let right : has_count k (length bits) ≡ true = t.count (length bits) ∙ eq-eqb (length bits) (64 * array_width k) e in
    ap (λ (b : Bool). if b then cells_by_kind k bits else Err (Count (length bits))) right ∙ t.made bits

pub cells-wrong : (k : Kind) → IsTrue (is_pal k) → (bits : List Bool) → length bits ≢ 64 * array_width k → cells_of k bits ≡ Err (Count (length bits))
cells-wrong k h bits ne =
    let t = pal-table k h in
    let wrong : has_count k (length bits) ≡ false = t.count (length bits) ∙ ne_eqb (length bits) (64 * array_width k) ne in
    ap (λ (b : Bool). if b then cells_by_kind k bits else Err (Count (length bits))) wrong
