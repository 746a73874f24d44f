-- Rows and terms, one more at the end.
use Rattle.std.proofs.Common.{ℕ, zero, suc, ◌≡◌, ◌+◌, List, [], ◌∷◌, ◌++◌, map, refl, ap, ◌∙◌, arith, Bool, true, false, drop, length, min}
use Rattle.std.specs.Prelude.{filter, if◌then◌else◌}
use Rattle.std.proofs.lemmas.List.{map-append}
use Rattle.std.proofs.lemmas.List.Elements.{filter-append}
use Rattle.mig_base.specs.declared.cells.Lit.{Lit}
use Rattle.mig_base.specs.First.{made_from}
use Rattle.mig_base.specs.declared.cells.Row.{Row}
use Rattle.mig_base.specs.declared.cells.Row.TheVariants as row
use Rattle.mig_base.specs.Cells.{terms_of, lit_of, lits_of, pair_columns}
use Rattle.mig_base.proofs.ListLaws.{made_from-more}

pub terms_of-never : (rows : List Row) → terms_of (rows ++ row.Never ∷ []) ≡ terms_of rows
terms_of-never [] = refl
terms_of-never (row.Never ∷ rows) = terms_of-never rows
terms_of-never (row.Product lits ∷ rows) = ap (λ rest. lits ∷ rest) (terms_of-never rows)

pub terms_of-product : (rows : List Row) (lits : List Lit) → terms_of (rows ++ row.Product lits ∷ []) ≡ terms_of rows ++ lits ∷ []
terms_of-product [] lits = refl
terms_of-product (row.Never ∷ rows) lits = terms_of-product rows lits
terms_of-product (row.Product ls ∷ rows) lits = ap (λ rest. ls ∷ rest) (terms_of-product rows lits)

-- the columns of one more pin
pub pair_columns-more : (even_q : Bool) (registers pins : List ℕ) (pin : ℕ) →
    pair_columns even_q registers (pins ++ pin ∷ []) ≡ pair_columns even_q registers pins ++ lit_of even_q registers pin true ∷ lit_of even_q registers pin false ∷ []
pair_columns-more even_q registers [] pin = refl
pair_columns-more even_q registers (p ∷ pins) pin =
    ap (λ (rest : List Lit). lit_of even_q registers p true ∷ lit_of even_q registers p false ∷ rest) (pair_columns-more even_q registers pins pin)

-- no literals are left where the columns or the fuses are at their end
pub lits_of-end : (columns : List Lit) (bits : List Bool) (n : ℕ) → n ≡ min (length columns) (length bits) → lits_of (drop n columns) (drop n bits) ≡ []
lits_of-end [] bits zero e = refl
lits_of-end [] bits (suc n) e = refl
lits_of-end (column ∷ columns) [] zero e = refl
lits_of-end (column ∷ columns) [] (suc n) e = absurd (omega arith)
lits_of-end (column ∷ columns) (bit ∷ bits) zero e = absurd (omega arith)
lits_of-end (column ∷ columns) (bit ∷ bits) (suc n) e = lits_of-end columns bits n (omega arith)

pub ruleset row_rules = (made_from-more, map-append, terms_of-never, terms_of-product)

-- f at one more of the numbers from a first one on
pub map-made_from-more : {T : Type 0} (f : ℕ → T) (first n m : ℕ) → m ≡ n + 1 →
    map f (made_from (λ (k : ℕ). k) first m) ≡ map f (made_from (λ (k : ℕ). k) first n) ++ f (first + n) ∷ []
map-made_from-more f first n m e =
    ap (map f) (made_from-more (λ (k : ℕ). k) first n m e) ∙ map-append f (made_from (λ (k : ℕ). k) first n) ((first + n) ∷ [])

-- those of the numbers from a first one on that pass a test, and one number more
pub filter-made_from-more : (p : ℕ → Bool) (first n m : ℕ) (b : Bool) → m ≡ n + 1 → p (first + n) ≡ b →
    filter p (made_from (λ (k : ℕ). k) first m) ≡ filter p (made_from (λ (k : ℕ). k) first n) ++ (if b then (first + n) ∷ [] else [])
filter-made_from-more p first n m b e h =
    ap (filter p) (made_from-more (λ (k : ℕ). k) first n m e) ∙ filter-append p (made_from (λ (k : ℕ). k) first n) ((first + n) ∷ [])
    ∙ ap (λ (keep : Bool). filter p (made_from (λ (k : ℕ). k) first n) ++ (if keep then (first + n) ∷ [] else [])) h
