-- Reading a GAL16V8 or GAL20V8: its refusals, and what its cells are where nothing is refused.
use Rattle.std.proofs.Common.{ℕ, suc, ◌≡◌, ◌≢◌, ◌+◌, ◌-◌, ◌∙◌, Bool, true, false, if◌then◌else◌, List, length, refl, sym, ap, IsTrue, Err, Option, Some, None, eq-eqb}
use Rattle.std.specs.Prelude.{◌==◌}
use Rattle.std.proofs.lemmas.Bool.{ne_eqb}
use Rattle.mig_base.specs.declared.kinds.Kind.{Kind}
use Rattle.mig_base.specs.declared.kinds.Kind.TheVariants.{Gal16V8, Gal20V8}
use Rattle.mig_base.specs.declared.kinds.Mode.{Mode}
use Rattle.mig_base.specs.declared.kinds.Mode.TheVariants.{Simple, Complex, Registered}
use Rattle.mig_base.specs.declared.cells.ChipError.{ChipError}
use Rattle.mig_base.specs.declared.cells.ChipError.TheVariants.{Count, Ac1InComplex}
use Rattle.mig_base.specs.First.{made_from, or_else}
use Rattle.mig_base.specs.DeviceTables.{has_count, is_v8}
use Rattle.mig_base.specs.WellFormed.{has_mode}
use Rattle.mig_base.specs.Cells as cells
use Rattle.devices.proofs.MacrocellLaws.{v8-table}

-- the refusal of a cell and of those behind it

abbrev refusal_at : Kind → List Bool → ℕ → Option ChipError → Bool → Option ChipError
refusal_at k bits pin rest bad = or_else (if bad then Some (Ac1InComplex pin) else None) rest

pub complex-found : (k : Kind) (bits : List Bool) (top place n m : ℕ) → m ≡ suc n → cells.is_bad_complex k bits (top - place) ≡ true →
    cells.complex_refusal k bits (made_from (λ (j : ℕ). top - j) place m) ≡ Some (Ac1InComplex (top - place))
complex-found k bits top place n m e h =
    ap (λ (i : ℕ). cells.complex_refusal k bits (made_from (λ (j : ℕ). top - j) place i)) e
    ∙ ap (refusal_at k bits (top - place) (cells.complex_refusal k bits (made_from (λ (j : ℕ). top - j) (place + 1) n))) h

pub complex-passed : (k : Kind) (bits : List Bool) (top place n m : ℕ) → m ≡ suc n → cells.is_bad_complex k bits (top - place) ≡ false →
    cells.complex_refusal k bits (made_from (λ (j : ℕ). top - j) place m) ≡ cells.complex_refusal k bits (made_from (λ (j : ℕ). top - j) (place + 1) n)
complex-passed k bits top place n m e h =
    ap (λ (i : ℕ). cells.complex_refusal k bits (made_from (λ (j : ℕ). top - j) place i)) e
    ∙ ap (refusal_at k bits (top - place) (cells.complex_refusal k bits (made_from (λ (j : ℕ). top - j) (place + 1) n))) h

-- the mode that SYN and AC0 say is one of the kind's
pub mode-known : (k : Kind) (syn ac0 : Bool) (m : Mode) → IsTrue (is_v8 k) → cells.v8_mode syn ac0 ≡ Some m → has_mode k m ≡ true
mode-known k true false Simple h e = h
mode-known k true true Complex h e = h
mode-known k false true Registered h e = h
mode-known k true false _ h e = cc
mode-known k true true _ h e = cc
mode-known k false true _ h e = cc
mode-known k false false m h e = cc

-- the fuse count

count-test : (k : Kind) → IsTrue (is_v8 k) → (n : ℕ) → has_count k n ≡ (n == cells.array_size k + 146)
count-test Gal16V8 h n = refl
count-test Gal20V8 h n = refl
count-test _ h n = cc

pub cells-wrong : (k : Kind) → IsTrue (is_v8 k) → (bits : List Bool) → length bits ≢ cells.array_size k + 146 → cells.cells_of k bits ≡ Err (Count (length bits))
cells-wrong k h bits ne =
    let wrong : has_count k (length bits) ≡ false = count-test k h (length bits) ∙ ne_eqb (length bits) (cells.array_size k + 146) ne in
    ap (λ (b : Bool). if b then cells.cells_by_kind k bits else Err (Count (length bits))) wrong

-- the bits that are read are those of the chip
pub cells-right : (k : Kind) → IsTrue (is_v8 k) → (bits seen : List Bool) (mode : Option Mode) → seen ≡ bits → length seen ≡ cells.array_size k + 146 →
    cells.v8_mode (cells.syn k seen) (cells.ac0 k seen) ≡ mode → cells.cells_of k bits ≡ cells.v8_cells_in k seen mode
cells-right k h bits seen mode same e m =
    let right : has_count k (length seen) ≡ true = count-test k h (length seen) ∙ eq-eqb (length seen) (cells.array_size k + 146) e in
    ap (cells.cells_of k) (sym same)
    ∙ ap (λ (b : Bool). if b then cells.cells_by_kind k seen else Err (Count (length seen))) right
    ∙ (v8-table k h).made seen ∙ ap (cells.v8_cells_in k seen) m
