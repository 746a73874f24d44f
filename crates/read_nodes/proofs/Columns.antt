-- What a column of a chip reads: a pin that is no power pin, or the Q of a registered cell.
use Rattle.std.proofs.Common.{ℕ, ◌≡◌, Bool, true, false, not, ◌||◌, cond, List, [], ◌∷◌, refl, sym, ap, ◌∙◌, subst, inl, inr}
use Rattle.std.specs.Prelude.{◌==◌, if◌then◌else◌}
use Rattle.std.specs.List.{list_all}
use Rattle.std.proofs.lemmas.Bool.{and_parts, eqb-true}
use Rattle.mig_base.specs.declared.kinds.Kind.{Kind}
use Rattle.mig_base.specs.declared.kinds.Kind.TheVariants.{Pal16L8, Pal16R4, Pal16R6, Pal16R8, Pal20L8, Pal20R4, Pal20R6, Pal20R8, Gal16V8, Gal20V8, Gal22V10, Gal22V10Q}
use Rattle.mig_base.specs.declared.kinds.Mode.{Mode}
use Rattle.mig_base.specs.declared.kinds.Mode.TheVariants.{Fixed, Simple, Complex, Registered}
use Rattle.mig_base.specs.declared.cells.Source.{Source}
use Rattle.mig_base.specs.declared.cells.Source.TheVariants.{Pin, Reg}
use Rattle.mig_base.specs.declared.cells.Lit.{Lit}
use Rattle.mig_base.specs.declared.cells.ChipCells.{ChipCells}
use Rattle.mig_base.specs.Among.{Among}
use Rattle.mig_base.specs.Cells.{is_among, lit_of, pair_columns}
use Rattle.mig_base.specs.DeviceTables.{ordinary_pins, pair_pins, enable_pin, even_reads_q}
use Rattle.mig_base.specs.WellFormed.{chip_columns, fits_row, registers_in, rises_in, same_lit}
use Rattle.mig_base.proofs.KindFacts.{pairs-ordinary}
use Rattle.devices.proofs.RowLaws.{same_lit-eq}

pub enable-ordinary : (kind : Kind) → is_among (ordinary_pins kind) (enable_pin kind) ≡ true
enable-ordinary Pal16L8 = refl
enable-ordinary Pal16R4 = refl
enable-ordinary Pal16R6 = refl
enable-ordinary Pal16R8 = refl
enable-ordinary Pal20L8 = refl
enable-ordinary Pal20R4 = refl
enable-ordinary Pal20R6 = refl
enable-ordinary Pal20R8 = refl
enable-ordinary Gal16V8 = refl
enable-ordinary Gal20V8 = refl
enable-ordinary Gal22V10 = refl
enable-ordinary Gal22V10Q = refl

pub pin-among : (pins : List ℕ) (p : ℕ) → is_among pins p ≡ true → Among p pins
pin-among [] p e = cc
pin-among (q ∷ qs) p e = at (q == p) refl e (pin-among qs p)
  where
    at : (b : Bool) → (q == p) ≡ b → (b || is_among qs p) ≡ true → (is_among qs p ≡ true → Among p qs) → Among p (q ∷ qs)
    at true is e later = inl (sym (eqb-true q p is))
    at false is e later = inr (later e)

all-pass : (test : ℕ → Bool) (xs : List ℕ) (x : ℕ) → list_all test xs ≡ true → Among x xs → test x ≡ true
all-pass test [] x e a = absurd a
all-pass test (y ∷ ys) x e (inl same) = ap test same ∙ (and_parts (test y) (list_all test ys) e).0
all-pass test (y ∷ ys) x e (inr a) = all-pass test ys x (and_parts (test y) (list_all test ys) e).1 a

-- a pin of the kind that is no power pin, or the Q of a cell that is registered
abbrev pub IsReadable : Kind → List ℕ → Source → Type 0
IsReadable kind registers (Pin p) = is_among (ordinary_pins kind) p ≡ true
IsReadable kind registers (Reg p) = is_among registers p ≡ true

lit-readable : (kind : Kind) (even_q : Bool) (registers : List ℕ) (p : ℕ) (even : Bool) → is_among (ordinary_pins kind) p ≡ true → IsReadable kind registers (lit_of even_q registers p even).source
lit-readable kind even_q registers p even ordinary = at (is_among registers p) refl
  where
    at : (b : Bool) → is_among registers p ≡ b →
        IsReadable kind registers (let lit : Lit = if b then record { source = Reg p; high = if even_q then even else not even } else record { source = Pin p; high = even } in lit).source
    at true e = e
    at false e = ordinary

column-readable : (kind : Kind) (even_q : Bool) (registers pins : List ℕ) → list_all (is_among (ordinary_pins kind)) pins ≡ true → (x : Lit) → Among x (pair_columns even_q registers pins) → IsReadable kind registers x.source
column-readable kind even_q registers [] all x a = absurd a
column-readable kind even_q registers (p ∷ pins) all x (inl e) =
    subst (λ (y : Lit). IsReadable kind registers y.source) (sym e) (lit-readable kind even_q registers p true (and_parts _ _ all).0)
column-readable kind even_q registers (p ∷ pins) all x (inr (inl e)) =
    subst (λ (y : Lit). IsReadable kind registers y.source) (sym e) (lit-readable kind even_q registers p false (and_parts _ _ all).0)
column-readable kind even_q registers (p ∷ pins) all x (inr (inr a)) = column-readable kind even_q registers pins (and_parts _ _ all).1 x a

-- the literals of a row are columns
rises-among : (columns lits : List Lit) → rises_in columns lits ≡ true → (x : Lit) → Among x lits → Among x columns
rises-among columns [] e x a = absurd a
rises-among [] (y ∷ ys) e x a = cc
rises-among (c ∷ cs) (y ∷ ys) e x a = at (same_lit y c) refl e a (λ f m. rises-among cs ys f x m) (λ f m. rises-among cs (y ∷ ys) f x m)
  where
    at : (b : Bool) → same_lit y c ≡ b → cond b (rises_in cs ys) (rises_in cs (y ∷ ys)) ≡ true → Among x (y ∷ ys) → (rises_in cs ys ≡ true → Among x ys → Among x cs) →
        (rises_in cs (y ∷ ys) ≡ true → Among x (y ∷ ys) → Among x cs) → Among x (c ∷ cs)
    at true is e (inl same) after all = inl (same ∙ same_lit-eq y c is)
    at true is e (inr m) after all = inr (after e m)
    at false is e m after all = inr (all e m)

pub row-readable : (c : ChipCells) (lits : List Lit) → fits_row (chip_columns c) lits ≡ true → (x : Lit) → Among x lits → IsReadable c.kind (registers_in c.cells) x.source
row-readable c lits e x a =
    column-readable c.kind (even_reads_q c.kind) (registers_in c.cells) (pair_pins c.kind c.mode) (pairs-ordinary c.kind c.mode) x
    (rises-among (chip_columns c) lits (and_parts _ _ e).0 x a)
