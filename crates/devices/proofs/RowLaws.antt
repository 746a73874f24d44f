-- Rows that are written as fuses are read back: one row, and each row of an array.
use Rattle.std.proofs.Common.{ℕ, ◌≡◌, ◌≢◌, ◌*◌, ◌<◌, Bool, true, false, not, ◌||◌, ◌&&◌, if◌then◌else◌, List, [], ◌∷◌, ◌++◌, length, get_or, refl, sym, ap, ◌∙◌, subst, arith, IsTrue, ltb, eqb, eq-eqb}
use Rattle.std.specs.List.{AllByRecursion, list_all, flat_map}
use Rattle.std.proofs.lemmas.List.{length-map}
use Rattle.std.proofs.lemmas.Bool.{eqb-true, ltb-true, and_parts}
use Rattle.mig_base.specs.declared.cells.Source.{Source}
use Rattle.mig_base.specs.declared.cells.Source.TheVariants.{Pin, Reg}
use Rattle.mig_base.specs.declared.cells.Lit.{Lit}
use Rattle.mig_base.specs.declared.cells.Row.{Row}
use Rattle.mig_base.specs.declared.cells.Row.TheVariants as row
use Rattle.mig_base.specs.Cells.{is_among, lit_of, lits_of, row_at, row_of, pair_columns}
use Rattle.mig_base.specs.Bools.{same_bool}
use Rattle.mig_base.specs.WellFormed.{same_source, same_lit, rises_in, fits_row}
use Rattle.mig_base.specs.WrittenCells.{has_lit, column_fuse, row_fuses}
use Rattle.mig_base.proofs.ListLaws.{or-false, piece-at, all-at, at-all}
use Rattle.mig_base.proofs.ReadLaws.{bool-same}

-- literals that are alike are equal

same_source-eq : (a b : Source) → same_source a b ≡ true → a ≡ b
same_source-eq (Pin p) (Pin q) e = ap Pin (eqb-true p q e)
same_source-eq (Reg p) (Reg q) e = ap Reg (eqb-true p q e)
same_source-eq (Pin p) (Reg q) e = cc
same_source-eq (Reg p) (Pin q) e = cc

pub same_lit-eq : (a b : Lit) → same_lit a b ≡ true → a ≡ b
same_lit-eq a b e =
    let both = and_parts (same_source a.source b.source) (same_bool a.high b.high) e in
    let source : a.source ≡ b.source = same_source-eq a.source b.source both.0 in
    let high : a.high ≡ b.high = bool-same a.high b.high both.1 in
    ap (λ (s : Source). let l : Lit = record { source = s; high = a.high } in l) source ∙ ap (λ (h : Bool). let l : Lit = record { source = b.source; high = h } in l) high

not-same : (a b : Lit) (s : Bool) → same_lit a b ≡ s → a ≢ b → s ≡ false
not-same a b true e ne = absurd (ne (same_lit-eq a b e))
not-same a b false e ne = refl

pub same_lit-ne : (a b : Lit) → a ≢ b → same_lit a b ≡ false
same_lit-ne a b ne = not-same a b (same_lit a b) refl ne

-- columns of which no two are the same
abbrev pub IsDistinct : List Lit → Type 0
IsDistinct [] = Unit {0}
IsDistinct (c ∷ cs) = AllByRecursion (λ (y : Lit). y ≢ c) cs × IsDistinct cs

-- what rises in columns has no other literal
absent-at : (x : Lit) (xs : List Lit) (l : Lit) (ls : List Lit) (c : Lit) (s : Bool) → same_lit l x ≡ s → x ≢ c →
    (rises_in xs ls ≡ true → has_lit ls c ≡ false) → (rises_in xs (l ∷ ls) ≡ true → has_lit (l ∷ ls) c ≡ false) →
    (if s then rises_in xs ls else rises_in xs (l ∷ ls)) ≡ true → has_lit (l ∷ ls) c ≡ false
absent-at x xs l ls c true same ne taken passed e =
    let other : same_lit l c ≡ false = same_lit-ne l c (λ (q : l ≡ c). ne (sym (same_lit-eq l x same) ∙ q)) in
    ap (λ (b : Bool). b || has_lit ls c) other ∙ taken e
absent-at x xs l ls c false same ne taken passed e = passed e

pub rises-absent : (columns lits : List Lit) (c : Lit) → AllByRecursion (λ (y : Lit). y ≢ c) columns → rises_in columns lits ≡ true → has_lit lits c ≡ false
rises-absent columns [] c h e = refl
rises-absent [] (l ∷ ls) c h e = cc
rises-absent (x ∷ xs) (l ∷ ls) c h e = absent-at x xs l ls c (same_lit l x) refl h.0 (rises-absent xs ls c h.1) (rises-absent xs (l ∷ ls) c h.1) e

-- the other columns' fuses do not depend on a literal that is none of them
fuses-beside : (columns : List Lit) (l : Lit) (ls : List Lit) → AllByRecursion (λ (y : Lit). y ≢ l) columns →
    row_fuses columns (row.Product (l ∷ ls)) ≡ row_fuses columns (row.Product ls)
fuses-beside [] l ls h = refl
fuses-beside (c ∷ cs) l ls h =
    let other : same_lit l c ≡ false = same_lit-ne l c (λ (q : l ≡ c). h.0 (sym q)) in
    ap (λ (b : Bool). not (b || has_lit ls c) ∷ row_fuses cs (row.Product (l ∷ ls))) other
    ∙ ap (λ (rest : List Bool). not (has_lit ls c) ∷ rest) (fuses-beside cs l ls h.1)

tail-absent : (cs : List Lit) (l : Lit) (ls : List Lit) (c : Lit) → AllByRecursion (λ (y : Lit). y ≢ c) cs → rises_in cs (l ∷ ls) ≡ true → has_lit ls c ≡ false
tail-absent cs l ls c others e = or-false (same_lit l c) (has_lit ls c) (rises-absent cs (l ∷ ls) c others e)

pub rises-nil : (columns : List Lit) → rises_in columns [] ≡ true
rises-nil [] = refl
rises-nil (c ∷ cs) = refl

read-at : (c : Lit) (cs : List Lit) (l : Lit) (ls : List Lit) (s : Bool) → same_lit l c ≡ s → AllByRecursion (λ (y : Lit). y ≢ c) cs →
    (rises_in cs ls ≡ true → lits_of cs (row_fuses cs (row.Product ls)) ≡ ls) →
    (rises_in cs (l ∷ ls) ≡ true → lits_of cs (row_fuses cs (row.Product (l ∷ ls))) ≡ l ∷ ls) →
    (if s then rises_in cs ls else rises_in cs (l ∷ ls)) ≡ true →
    (if not (s || has_lit ls c) then lits_of cs (row_fuses cs (row.Product (l ∷ ls))) else c ∷ lits_of cs (row_fuses cs (row.Product (l ∷ ls)))) ≡ l ∷ ls
read-at c cs l ls true same others taken passed e =
    let is : l ≡ c = same_lit-eq l c same in
    let beside : AllByRecursion (λ (y : Lit). y ≢ l) cs = subst (λ (x : Lit). AllByRecursion (λ (y : Lit). y ≢ x) cs) (sym is) others in
    ap (λ (bits : List Bool). c ∷ lits_of cs bits) (fuses-beside cs l ls beside) ∙ ap (λ (rest : List Lit). c ∷ rest) (taken e) ∙ ap (λ (x : Lit). x ∷ ls) (sym is)
read-at c cs l ls false same others taken passed e =
    let tail : has_lit ls c ≡ false = tail-absent cs l ls c others e in
    ap (λ (b : Bool). if not b then lits_of cs (row_fuses cs (row.Product (l ∷ ls))) else c ∷ lits_of cs (row_fuses cs (row.Product (l ∷ ls)))) tail ∙ passed e

-- the literals of a row's columns are read back
pub lits-read : (columns lits : List Lit) → IsDistinct columns → rises_in columns lits ≡ true → lits_of columns (row_fuses columns (row.Product lits)) ≡ lits
lits-read [] [] d e = refl
lits-read [] (l ∷ ls) d e = cc
lits-read (c ∷ cs) [] d e = lits-read cs [] d.1 (rises-nil cs)
lits-read (c ∷ cs) (l ∷ ls) d e = read-at c cs l ls (same_lit l c) refl d.0 (lits-read cs ls d.1) (lits-read cs (l ∷ ls) d.1) e

-- where no fuse is blown every column is read
all-read : (columns : List Lit) (bits : List Bool) → length bits ≡ length columns → list_all not bits ≡ true → lits_of columns bits ≡ columns
all-read [] bits n e = refl
all-read (c ∷ cs) [] n e = absurd (omega arith)
all-read (c ∷ cs) (true ∷ bits) n e = cc
all-read (c ∷ cs) (false ∷ bits) n e = ap (λ (rest : List Lit). c ∷ rest) (all-read cs bits (omega arith) e)

-- a row that an array with these columns can hold
abbrev pub FitsColumns : List Lit → Row → Type 0
FitsColumns columns row.Never = Unit {0}
FitsColumns columns (row.Product lits) = IsTrue (fits_row columns lits)

never-zero : (columns : List Lit) → list_all not (row_fuses columns row.Never) ≡ true
never-zero [] = refl
never-zero (c ∷ cs) = never-zero cs

not-zero : (columns lits : List Lit) (z : Bool) → IsDistinct columns → rises_in columns lits ≡ true → length lits < length columns →
    list_all not (row_fuses columns (row.Product lits)) ≡ z → z ≡ false
not-zero columns lits false d e n is = refl
not-zero columns lits true d e n is =
    let all : lits_of columns (row_fuses columns (row.Product lits)) ≡ columns = all-read columns (row_fuses columns (row.Product lits)) (length-map columns (column_fuse (row.Product lits))) is in
    let long : length lits ≡ length columns = ap length (sym (lits-read columns lits d e) ∙ all) in
    absurd (omega arith)

-- a row that is written is read back
pub row-read : (columns : List Lit) (r : Row) → IsDistinct columns → FitsColumns columns r → row_of columns (row_fuses columns r) ≡ r
row-read columns row.Never d h =
    ap (λ (b : Bool). if b then row.Never else row.Product (lits_of columns (row_fuses columns row.Never))) (never-zero columns)
row-read columns (row.Product lits) d h =
    let fits = and_parts (rises_in columns lits) (ltb (length lits) (length columns)) h in
    let zeros : list_all not (row_fuses columns (row.Product lits)) ≡ false =
    not-zero columns lits (list_all not (row_fuses columns (row.Product lits))) d fits.0 (ltb-true (length lits) (length columns) fits.1) refl in
    ap (λ (b : Bool). if b then row.Never else row.Product (lits_of columns (row_fuses columns (row.Product lits)))) zeros ∙ ap row.Product (lits-read columns lits d fits.0)

-- the columns of different pins are distinct

abbrev pub distinct_pins : List ℕ → Bool
distinct_pins [] = true
distinct_pins (p ∷ ps) = list_all (λ q. not (eqb q p)) ps && distinct_pins ps

pin_of : Source → ℕ
pin_of (Pin p) = p
pin_of (Reg p) = p

pin-read : (even_q : Bool) (registers : List ℕ) (pin : ℕ) (even : Bool) → pin_of (lit_of even_q registers pin even).source ≡ pin
unfolding pin_of
pin-read even_q registers pin even = elim (is_among registers pin) as (λ b. pin_of (let l : Lit = if b then record { source = Reg pin; high = if even_q then even else not even } else record { source = Pin pin; high = even } in l.source) ≡ pin) [ true ↦ refl | false ↦ refl ]

complement-at : (even_q : Bool) (pin : ℕ) (register : Bool) →
    (let l : Lit = if register then record { source = Reg pin; high = if even_q then false else true } else record { source = Pin pin; high = false } in l.high)
    ≡ not (let l : Lit = if register then record { source = Reg pin; high = if even_q then true else false } else record { source = Pin pin; high = true } in l.high)
complement-at true pin true = refl
complement-at false pin true = refl
complement-at even_q pin false = refl

complement-read : (even_q : Bool) (registers : List ℕ) (pin : ℕ) → (lit_of even_q registers pin false).high ≡ not (lit_of even_q registers pin true).high
complement-read even_q registers pin = complement-at even_q pin (is_among registers pin)

not-itself : (a b : Bool) → a ≡ not b → a ≡ b → ⊥
not-itself true true e f = cc
not-itself true false e f = cc
not-itself false true e f = cc
not-itself false false e f = cc

other-pin : (even_q : Bool) (registers : List ℕ) (p q : ℕ) (e f : Bool) → not (eqb q p) ≡ true → lit_of even_q registers q e ≢ lit_of even_q registers p f
other-pin even_q registers p q e f ne is =
    let same : q ≡ p = sym (pin-read even_q registers q e) ∙ ap (λ (l : Lit). pin_of l.source) is ∙ pin-read even_q registers p f in
    let test : not (eqb q p) ≡ false = ap not (eq-eqb q p same) in
    cc

other-pins : (even_q : Bool) (registers : List ℕ) (p : ℕ) (e : Bool) (ps : List ℕ) → list_all (λ q. not (eqb q p)) ps ≡ true →
    AllByRecursion (λ (y : Lit). y ≢ lit_of even_q registers p e) (pair_columns even_q registers ps)
other-pins even_q registers p e [] h = tt
other-pins even_q registers p e (q ∷ qs) h =
    let both = and_parts (not (eqb q p)) (list_all (λ q. not (eqb q p)) qs) h in
    (other-pin even_q registers p q true e both.0, (other-pin even_q registers p q false e both.0, other-pins even_q registers p e qs both.1))

pub columns-distinct : (even_q : Bool) (registers pins : List ℕ) → distinct_pins pins ≡ true → IsDistinct (pair_columns even_q registers pins)
columns-distinct even_q registers [] h = tt
columns-distinct even_q registers (p ∷ ps) h =
    let both = and_parts (list_all (λ q. not (eqb q p)) ps) (distinct_pins ps) h in
    let complement : lit_of even_q registers p false ≢ lit_of even_q registers p true =
    λ is. not-itself (lit_of even_q registers p false).high (lit_of even_q registers p true).high (complement-read even_q registers p) (ap (λ (l : Lit). l.high) is) in
    ((complement, other-pins even_q registers p true ps both.0), (other-pins even_q registers p false ps both.0, columns-distinct even_q registers ps both.1))

pub length-columns : (even_q : Bool) (registers pins : List ℕ) → length (pair_columns even_q registers pins) ≡ 2 * length pins
length-columns even_q registers [] = refl
length-columns even_q registers (p ∷ ps) = let rest : length (pair_columns even_q registers ps) ≡ 2 * length ps = length-columns even_q registers ps in omega arith

-- row r of an array that is written is read back
pub array-row : (columns : List Lit) (rows : List Row) (rest : List Bool) (r : ℕ) → IsDistinct columns → AllByRecursion (FitsColumns columns) rows → r < length rows →
    row_of columns (row_at (length columns) (flat_map (row_fuses columns) rows ++ rest) r) ≡ get_or rows r row.Never
array-row columns rows rest r d h n =
    let wide : AllByRecursion (λ (x : Row). length (row_fuses columns x) ≡ length columns) rows =
    at-all (λ (x : Row). length (row_fuses columns x) ≡ length columns) rows row.Never (λ i m. length-map columns (column_fuse (get_or rows i row.Never))) in
    ap (row_of columns) (piece-at (row_fuses columns) (length columns) rows rest r row.Never wide n)
    ∙ row-read columns (get_or rows r row.Never) d (all-at (FitsColumns columns) rows r row.Never h n)
