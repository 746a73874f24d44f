-- Rows that are read fit their columns.
use Rattle.std.proofs.Common.{◌≡◌, ◌≢◌, ◌<◌, ◌≤◌, Bool, true, false, not, ◌||◌, ◌&&◌, if◌then◌else◌, List, [], ◌∷◌, length, refl, ap, ◌∙◌, arith, ltb, eq-eqb}
use Rattle.std.specs.List.{AllByRecursion, list_all}
use Rattle.std.proofs.lemmas.Bool.{lt-ltb}
use Rattle.mig_base.specs.declared.cells.Source.{Source}
use Rattle.mig_base.specs.declared.cells.Source.TheVariants.{Pin, Reg}
use Rattle.mig_base.specs.declared.cells.Lit.{Lit}
use Rattle.mig_base.specs.declared.cells.Row.TheVariants as row
use Rattle.mig_base.specs.Cells.{lits_of, row_of}
use Rattle.mig_base.specs.Bools.{same_bool}
use Rattle.mig_base.specs.WellFormed.{same_source, same_lit, rises_in}
use Rattle.mig_base.specs.WrittenCells.{has_lit}
use Rattle.mig_base.proofs.ReadLaws.{same-bool}
use Rattle.devices.proofs.RowLaws.{IsDistinct, FitsColumns, rises-absent}

source-itself : (a : Source) → same_source a a ≡ true
source-itself (Pin p) = eq-eqb p p refl
source-itself (Reg p) = eq-eqb p p refl

pub lit-itself : (a : Lit) → same_lit a a ≡ true
lit-itself a = ap (λ (b : Bool). b && same_bool a.high a.high) (source-itself a.source) ∙ same-bool a.high

first-false : (a b : Bool) → (a || b) ≡ false → a ≡ false
first-false true b e = cc
first-false false b e = refl

-- what rises in columns rises in them behind one more
rises-behind : (c : Lit) (cs lits : List Lit) → AllByRecursion (λ (y : Lit). y ≢ c) cs → rises_in cs lits ≡ true → rises_in (c ∷ cs) lits ≡ true
rises-behind c cs [] h e = refl
rises-behind c cs (l ∷ ls) h e =
    let other : same_lit l c ≡ false = first-false (same_lit l c) (has_lit ls c) (rises-absent cs (l ∷ ls) c h e) in
    ap (λ (b : Bool). if b then rises_in cs ls else rises_in cs (l ∷ ls)) other ∙ e

-- the literals that are read rise in their columns
pub lits-rise : (columns : List Lit) (bits : List Bool) → IsDistinct columns → rises_in columns (lits_of columns bits) ≡ true
lits-rise [] bits d = refl
lits-rise (c ∷ cs) [] d = refl
lits-rise (c ∷ cs) (true ∷ bits) d = rises-behind c cs (lits_of cs bits) d.0 (lits-rise cs bits d.1)
lits-rise (c ∷ cs) (false ∷ bits) d =
    ap (λ (b : Bool). if b then rises_in cs (lits_of cs bits) else rises_in cs (c ∷ lits_of cs bits)) (lit-itself c) ∙ lits-rise cs bits d.1

few-lits : (columns : List Lit) (bits : List Bool) → length (lits_of columns bits) ≤ length columns
few-lits [] bits = omega arith
few-lits (c ∷ cs) [] = omega arith
few-lits (c ∷ cs) (true ∷ bits) = let few = few-lits cs bits in omega arith
few-lits (c ∷ cs) (false ∷ bits) = let few = few-lits cs bits in omega arith

-- where a fuse is blown not all columns are read
fewer-lits : (columns : List Lit) (bits : List Bool) → length bits ≤ length columns → list_all not bits ≡ false → length (lits_of columns bits) < length columns
fewer-lits [] [] n e = cc
fewer-lits [] (b ∷ bits) n e = absurd (omega arith)
fewer-lits (c ∷ cs) [] n e = cc
fewer-lits (c ∷ cs) (true ∷ bits) n e = let few = few-lits cs bits in omega arith
fewer-lits (c ∷ cs) (false ∷ bits) n e = let few = fewer-lits cs bits (omega arith) e in omega arith

row-fits-at : (columns : List Lit) (bits : List Bool) (z : Bool) → list_all not bits ≡ z → IsDistinct columns → length bits ≤ length columns →
    FitsColumns columns (if z then row.Never else row.Product (lits_of columns bits))
row-fits-at columns bits true e d n = tt
row-fits-at columns bits false e d n =
    ap (λ (b : Bool). b && ltb (length (lits_of columns bits)) (length columns)) (lits-rise columns bits d)
    ∙ lt-ltb (length (lits_of columns bits)) (length columns) (fewer-lits columns bits n e)

-- a row that is read fits its columns
pub row-fits : (columns : List Lit) (bits : List Bool) → IsDistinct columns → length bits ≤ length columns → FitsColumns columns (row_of columns bits)
row-fits columns bits d n = row-fits-at columns bits (list_all not bits) refl d n
