-- What is read of a GAL22V10 by its fuse count, its columns and its settings.
use Rattle.std.proofs.Common.{ℕ, ◌≡◌, ◌+◌, ◌∙◌, Bool, true, false, not, if◌then◌else◌, List, length, sym, ap, IsTrue, Ok, Err}
use Rattle.std.specs.Prelude.{◌==◌, ◌||◌}
use Rattle.mig_base.specs.declared.kinds.Kind.{Kind}
use Rattle.mig_base.specs.declared.kinds.Mode.TheVariants.{Fixed}
use Rattle.mig_base.specs.declared.cells.Lit.{Lit}
use Rattle.mig_base.specs.declared.cells.Row.{Row}
use Rattle.mig_base.specs.declared.cells.ChipError.TheVariants.{Count}
use Rattle.mig_base.specs.First.{made_from}
use Rattle.mig_base.specs.DeviceTables.{rows_22, is_22}
use Rattle.mig_base.specs.Cells as cells
use Rattle.devices.proofs.V22Tables.{v22-table}

-- the columns of a chip with these fuses
pub record AreColumns (k : Kind) (bits : List Bool) (columns : List Lit) : Type 0 where
  pub are : columns ≡ cells.columns_of k Fixed (cells.registers_22 k bits)
  pub wide : length columns ≡ 44

pub row-is : (k : Kind) (bits : List Bool) (columns : List Lit) (r : ℕ) → AreColumns k bits columns →
    cells.row_of columns (cells.row_at (length columns) bits r) ≡ cells.row_22 k bits r
row-is k bits columns r h =
    ap (λ (w : ℕ). cells.row_of columns (cells.row_at w bits r)) h.wide ∙ ap (λ (lits : List Lit). cells.row_of lits (cells.row_at 44 bits r)) h.are

rows-are : (k : Kind) (bits : List Bool) (columns : List Lit) (first count : ℕ) → AreColumns k bits columns →
    made_from (λ (r : ℕ). cells.row_of columns (cells.row_at (length columns) bits r)) first count ≡ made_from (cells.row_22 k bits) first count
rows-are k bits columns first count h =
    ap (λ (w : ℕ). made_from (λ (r : ℕ). cells.row_of columns (cells.row_at w bits r)) first count) h.wide
    ∙ ap (λ (lits : List Lit). made_from (λ (r : ℕ). cells.row_of lits (cells.row_at 44 bits r)) first count) h.are

pub cell-is : (k : Kind) (bits : List Bool) (columns : List Lit) (pin first terms : ℕ) (rows : List Row) (s0 s1 : Bool) → AreColumns k bits columns →
    first ≡ (rows_22 pin).0 → terms ≡ (rows_22 pin).1 → rows ≡ made_from (λ (r : ℕ). cells.row_of columns (cells.row_at (length columns) bits r)) first (terms + 1) →
    s0 ≡ cells.s0_at bits pin → s1 ≡ cells.s1_at bits pin →
    (if s1 then cells.comb_cell pin (not s0) rows else cells.reg_cell_22 pin (not s0) rows) ≡ cells.cell_22 k bits pin
cell-is k bits columns pin first terms rows s0 s1 h f t r e d =
    let read : rows ≡ made_from (cells.row_22 k bits) (rows_22 pin).0 ((rows_22 pin).1 + 1) =
    r ∙ rows-are k bits columns first (terms + 1) h ∙ ap (λ (n : ℕ). made_from (cells.row_22 k bits) n (terms + 1)) f
    ∙ ap (λ (n : ℕ). made_from (cells.row_22 k bits) (rows_22 pin).0 (n + 1)) t in
    ap (λ (b : Bool). if b then cells.comb_cell pin (not s0) rows else cells.reg_cell_22 pin (not s0) rows) d
    ∙ ap (λ (b : Bool). if cells.s1_at bits pin then cells.comb_cell pin (not b) rows else cells.reg_cell_22 pin (not b) rows) e
    ∙ ap (λ (rs : List Row). if cells.s1_at bits pin then cells.comb_cell pin (not (cells.s0_at bits pin)) rs else cells.reg_cell_22 pin (not (cells.s0_at bits pin)) rs) read

-- the fuse count

abbrev is_count : ℕ → Bool
is_count n = (n == 5828) || (n == 5892)

pub cells-wrong : (k : Kind) → IsTrue (is_22 k) → (bits seen : List Bool) → seen ≡ bits → is_count (length seen) ≡ false → cells.cells_of k bits ≡ Err (Count (length seen))
cells-wrong k h bits seen same e =
    ap (cells.cells_of k) (sym same)
    ∙ ap (λ (b : Bool). if b then cells.cells_by_kind k seen else Err (Count (length seen))) ((v22-table k h).count (length seen) ∙ e)

pub cells-right : (k : Kind) → IsTrue (is_22 k) → (bits seen : List Bool) → seen ≡ bits → is_count (length seen) ≡ true → cells.cells_of k bits ≡ Ok (cells.cells_22 k seen)
cells-right k h bits seen same e =
    ap (cells.cells_of k) (sym same)
    ∙ ap (λ (b : Bool). if b then cells.cells_by_kind k seen else Err (Count (length seen))) ((v22-table k h).count (length seen) ∙ e)
    ∙ (v22-table k h).made seen
