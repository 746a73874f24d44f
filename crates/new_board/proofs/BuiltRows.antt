-- The rows of new chips: their literals rise by columns, and are no more than those that they come from.
use Rattle.std.proofs.Common.{suc, ◌≡◌, ◌<◌, ◌≤◌, Bool, true, false, not, cond, List, [], ◌∷◌, length, Option, Some, None, refl, sym, ap, ◌∙◌, subst, inl, inr, lt-ltb, arith}
use Rattle.std.specs.List.{list_any, filter, filter_map, cons_option}
use Rattle.std.proofs.lemmas.Bool.{and_parts, and_from, not-true}
use Rattle.mig_base.specs.declared.cells.Lit.{Lit}
use Rattle.mig_base.specs.declared.cells.Enable.TheVariants as enable
use Rattle.mig_base.specs.declared.circuit.Literal.{Literal}
use Rattle.mig_base.specs.declared.circuit.Gate.TheVariants.{Product}
use Rattle.mig_base.specs.Among.{Among}
use Rattle.mig_base.specs.Structure.{variable_literal, variable_product}
use Rattle.mig_base.specs.WellFormed.{same_lit, rises_in, fits_row, has_enable_row}
use Rattle.mig_base.specs.WrittenBoard.{are_distinct, is_part}
use Rattle.mig_base.proofs.Distinct.{IsEqual, same-refl, part-more, part-distinct}
use Rattle.mig_base.proofs.Amongs.{any-among, among-any, product-among}
use Rattle.devices.proofs.RowLaws.{same_lit-eq}
use Rattle.devices.proofs.ReadRows.{lit-itself}
use Rattle.new_board.specs.NewChip.{OldBoard, NewChip}
use Rattle.new_board.specs.NewFiles.{new_columns, new_lit, new_product, new_enable}
use Rattle.new_board.proofs.Items.{among-filter, among-unfilter, among-filter_map, among-unfilter_map}
use Rattle.new_board.proofs.Columns.{RegistersFit, IsReadable, lit-in_product}

-- the items that pass are a part of them, in order
pub filter-part : {T : Type 0} (same : T → T → Bool) → IsEqual same → (test : T → Bool) (xs : List T) → is_part same (filter test xs) xs ≡ true
filter-part same laws test [] = refl
filter-part {T} same laws test (x ∷ xs) = at (test x) (filter-part same laws test xs)
  where
    at : (q : Bool) → is_part same (filter test xs) xs ≡ true → is_part same (cond q (x ∷ filter test xs) (filter test xs)) (x ∷ xs) ≡ true
    at true h = ap (λ (t : Bool). cond t (is_part same (filter test xs) xs) (is_part same (x ∷ filter test xs) xs)) (same-refl laws x) ∙ h
    at false h = part-more same (filter test xs) x xs h

pub filter-short : {T : Type 0} (test : T → Bool) (xs : List T) → length (filter test xs) ≤ length xs
filter-short test [] = omega arith
filter-short {T} test (x ∷ xs) = at (test x) (filter-short test xs)
  where
    at : (q : Bool) → length (filter test xs) ≤ length xs → length (cond q (x ∷ filter test xs) (filter test xs)) ≤ suc (length xs)
    at true h = omega arith
    at false h = omega arith

pub filter_map-short : {T S : Type 0} (f : T → Option S) (xs : List T) → length (filter_map f xs) ≤ length xs
filter_map-short f [] = omega arith
filter_map-short {S = S} f (x ∷ xs) = at (f x) (filter_map-short f xs)
  where
    at : (o : Option S) → length (filter_map f xs) ≤ length xs → length (cons_option o (filter_map f xs)) ≤ suc (length xs)
    at None h = omega arith
    at (Some y) h = omega arith

-- without an item there are fewer
fewer : {T : Type 0} (same : T → T → Bool) → IsEqual same → (x : T) (zs : List T) → Among x zs → length (filter (λ z. not (same x z)) zs) < length zs
fewer same laws x [] a = absurd a
fewer {T} same laws x (z ∷ zs) (inl e) =
    let short = filter-short (λ z. not (same x z)) zs in
    let gone : same x z ≡ true = ap (same x) (sym e) ∙ same-refl laws x in
    subst (λ (q : Bool). length (cond (not q) (z ∷ filter (λ z. not (same x z)) zs) (filter (λ z. not (same x z)) zs)) < suc (length zs)) (sym gone) (omega arith)
fewer {T} same laws x (z ∷ zs) (inr a) = at (not (same x z)) (fewer same laws x zs a)
  where
    at : (q : Bool) → length (filter (λ z. not (same x z)) zs) < length zs →
        length (cond q (z ∷ filter (λ z. not (same x z)) zs) (filter (λ z. not (same x z)) zs)) < suc (length zs)
    at true h = omega arith
    at false h = omega arith

other : {T : Type 0} (test : T → Bool) (xs : List T) (y : T) → list_any test xs ≡ false → Among y xs → not (test y) ≡ true
other test xs y none a = at (test y) refl
  where
    at : (q : Bool) → test y ≡ q → not q ≡ true
    at true e = let some : list_any test xs ≡ true = among-any test y xs a e in cc
    at false e = refl

-- a list without equal items whose items are all among others is no longer
pub no-longer : {T : Type 0} (same : T → T → Bool) → IsEqual same → (xs zs : List T) → are_distinct same xs ≡ true → ((x : T) → Among x xs → Among x zs) → length xs ≤ length zs
no-longer same laws [] zs d within = omega arith
no-longer same laws (x ∷ xs) zs d within =
    let parts = and_parts (not (list_any (same x) xs)) (are_distinct same xs) d in
    let none : list_any (same x) xs ≡ false = not-true (list_any (same x) xs) parts.0 in
    let less = fewer same laws x zs (within x (inl refl)) in
    let rest : length xs ≤ length (filter (λ z. not (same x z)) zs) =
    no-longer same laws xs (filter (λ z. not (same x z)) zs) parts.1
    (λ y a. among-filter (λ z. not (same x z)) y zs (within y (inr a)) (other (same x) xs y none a)) in
    omega arith

-- literals of chips

pub lits-equal : IsEqual same_lit
lits-equal = record { decides = λ x y. (same_lit-eq x y, λ (e : x ≡ y). ap (same_lit x) (sym e) ∙ lit-itself x) }

rises-part : (columns lits : List Lit) → rises_in columns lits ≡ is_part same_lit lits columns
rises-part [] [] = refl
rises-part [] (l ∷ ls) = refl
rises-part (c ∷ cs) [] = refl
rises-part (c ∷ cs) (l ∷ ls) =
    ap (λ (q : Bool). cond (same_lit l c) q (rises_in cs (l ∷ ls))) (rises-part cs ls)
    ∙ ap (λ (q : Bool). cond (same_lit l c) (is_part same_lit ls cs) q) (rises-part cs (l ∷ ls))

pub new-rises : (b : OldBoard) (chip : NewChip) (lits : List Literal) → rises_in (new_columns b chip) (new_product b chip lits) ≡ true
new-rises b chip lits =
    rises-part (new_columns b chip) (new_product b chip lits)
    ∙ filter-part same_lit lits-equal (λ y. list_any (same_lit y) (filter_map (new_lit b chip) lits)) (new_columns b chip)

-- each literal of a new product comes from a literal of the old one
new-from : (b : OldBoard) (chip : NewChip) (lits : List Literal) (y : Lit) → Among y (new_product b chip (variable_product b.circuit lits)) →
    Among y (filter_map (λ x. new_lit b chip (variable_literal b.circuit x)) lits)
new-from b chip lits y a =
    let over = variable_product b.circuit lits in
    let kept = among-unfilter (λ y. list_any (same_lit y) (filter_map (new_lit b chip) over)) y (new_columns b chip) a in
    let same = any-among (same_lit y) (filter_map (new_lit b chip) over) kept.1 in
    let from = among-unfilter_map (new_lit b chip) same.0 over same.1 in
    let old = product-among b.circuit from.0 lits from.1 in
    let is : new_lit b chip (variable_literal b.circuit old.0) ≡ Some y =
    ap (new_lit b chip) (sym old.2) ∙ from.2 ∙ ap (λ (q : Lit). Some q) (sym (same_lit-eq y same.0 same.2)) in
    among-filter_map (λ x. new_lit b chip (variable_literal b.circuit x)) old.0 y lits old.1 is

pub new-short : (b : OldBoard) (chip : NewChip) (lits : List Literal) → are_distinct same_lit (new_columns b chip) ≡ true →
    length (new_product b chip (variable_product b.circuit lits)) ≤ length lits
new-short b chip lits distinct =
    let over = variable_product b.circuit lits in
    let test = λ (y : Lit). list_any (same_lit y) (filter_map (new_lit b chip) over) in
    let apart = part-distinct lits-equal (filter test (new_columns b chip)) (new_columns b chip) (filter-part same_lit lits-equal test (new_columns b chip)) distinct in
    let few : length (new_product b chip over) ≤ length (filter_map (λ x. new_lit b chip (variable_literal b.circuit x)) lits) =
    no-longer same_lit lits-equal (new_product b chip over) (filter_map (λ x. new_lit b chip (variable_literal b.circuit x)) lits) apart (new-from b chip lits) in
    let short = filter_map-short (λ x. new_lit b chip (variable_literal b.circuit x)) lits in
    omega arith

-- a row holds it, where the old product has fewer literals than there are columns
pub new-fits : (b : OldBoard) (chip : NewChip) (lits : List Literal) → are_distinct same_lit (new_columns b chip) ≡ true → length lits < length (new_columns b chip) →
    fits_row (new_columns b chip) (new_product b chip (variable_product b.circuit lits)) ≡ true
new-fits b chip lits distinct h =
    let over = variable_product b.circuit lits in
    let short = new-short b chip lits distinct in
    and_from (rises_in (new_columns b chip) (new_product b chip over)) _ (new-rises b chip over) (lt-ltb (length (new_product b chip over)) (length (new_columns b chip)) (omega arith))

-- an enable row that holds its product
pub new-enable : (b : OldBoard) (chip : NewChip) (lits : List Literal) → RegistersFit b chip → IsReadable b chip lits → fits_row (new_columns b chip) (new_product b chip lits) ≡ true →
    has_enable_row (new_columns b chip) (new_enable b chip (Product lits)) ≡ true
new-enable b chip [] registers readable h = refl
new-enable b chip (x ∷ xs) registers readable h =
    let y = lit-in_product b chip (x ∷ xs) registers readable x (inl refl) in
    at (new_product b chip (x ∷ xs)) y.0 y.1 h
  where
    at : (ls : List Lit) (y : Lit) → Among y ls → fits_row (new_columns b chip) ls ≡ true → has_enable_row (new_columns b chip) (enable.Term ls) ≡ true
    at [] y a h = absurd a
    at (l ∷ ls) y a h = h
