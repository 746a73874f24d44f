-- Lists without equal items, and parts of lists.
use Rattle.std.proofs.Common.{ℕ, ◌≡◌, ◌+◌, ◌<◌, Bool, true, false, cond, ◌&&◌, ◌||◌, eqb, List, [], ◌∷◌, ◌++◌, map, refl, sym, ap, ◌∙◌, subst, arith}
use Rattle.std.specs.Prelude.{not, ◌==◌}
use Rattle.std.specs.Bool.{Decides}
use Rattle.std.specs.List.{AllByRecursion, list_any}
use Rattle.std.specs.Str.{bytes_eq}
use Rattle.std.proofs.lemmas.Slice.Eq.{bytes_eq-Decides}
use Rattle.std.proofs.lemmas.Bool.{and_parts, and_from, or_parts, or_from, not-true, eq-eqb, ne_eqb}
use Rattle.std.proofs.lemmas.Bool.Decides.{same_from_decides, Decides-like, Decides-eqb, Decides-and}
use Rattle.std.proofs.lemmas.List.Folds.{list_any-append}
use Rattle.mig_base.specs.declared.nets.ChipLine.{ChipLine}
use Rattle.mig_base.specs.DeviceTables.{ordinary_pins}
use Rattle.mig_base.proofs.KindFacts.{ordinary-distinct}
use Rattle.mig_base.specs.WrittenBoard.{are_distinct, is_part, Place, same_place, board_places}

-- a test of equality
pub record IsEqual {T : Type 0} (same : T → T → Bool) : Type 0 where
  pub decides : (x y : T) → Decides (same x y) (x ≡ y)

pub bytes-equal : IsEqual bytes_eq
bytes-equal = record { decides = bytes_eq-Decides }

pub places-equal : IsEqual same_place
places-equal = record { decides = λ p q. Decides-like (same_place p q) (λ h. pair p q h) (λ e. (ap (λ (r : Place). r.0) e, ap (λ (r : Place). r.1) e)) (Decides-and _ _ (Decides-eqb p.0 q.0) (Decides-eqb p.1 q.1)) }
  where
    pair : (p q : Place) → (p.0 ≡ q.0) × (p.1 ≡ q.1) → p ≡ q
    pair (a, b) (c, d) h = ap (λ (x : ℕ). let r : Place = (x, b) in r) h.0 ∙ ap (λ (y : ℕ). let r : Place = (c, y) in r) h.1

pub same-refl : {T : Type 0} {same : T → T → Bool} → IsEqual same → (x : T) → same x x ≡ true
same-refl laws x = (laws.decides x x).1 refl

pub same-is : {T : Type 0} {same : T → T → Bool} → IsEqual same → (x y : T) → same x y ≡ true → x ≡ y
same-is laws x y h = (laws.decides x y).0 h

pub same-sym : {T : Type 0} {same : T → T → Bool} → IsEqual same → (x y : T) → same x y ≡ same y x
same-sym {T} {same} laws x y = same_from_decides (same x y) (same y x) (laws.decides x y) (Decides-like (same y x) sym sym (laws.decides y x))

-- an item that is among those behind another isn't that other
pub distinct-before : {T : Type 0} {same : T → T → Bool} → IsEqual same → (xs : List T) (x : T) (ys : List T) →
    are_distinct same (xs ++ x ∷ ys) ≡ true → list_any (same x) xs ≡ false
distinct-before laws [] x ys h = refl
distinct-before {T} {same} laws (z ∷ xs) x ys h =
    let parts : (not (list_any (same z) (xs ++ x ∷ ys)) ≡ true) × (are_distinct same (xs ++ x ∷ ys) ≡ true) = and_parts _ _ h in
    let none : list_any (same z) (xs ++ x ∷ ys) ≡ false = not-true _ parts.0 in
    let both : (list_any (same z) xs ≡ false) × (list_any (same z) (x ∷ ys) ≡ false) = or_parts _ _ (sym (list_any-append (same z) xs (x ∷ ys)) ∙ none) in
    let apart : same z x ≡ false = (or_parts _ _ both.1).0 in
    or_from _ _ (same-sym laws x z ∙ apart) (distinct-before laws xs x ys parts.1)

pub distinct-behind : {T : Type 0} (same : T → T → Bool) (xs ys : List T) → are_distinct same (xs ++ ys) ≡ true → are_distinct same ys ≡ true
distinct-behind same [] ys h = h
distinct-behind same (x ∷ xs) ys h = distinct-behind same xs ys (and_parts (not (list_any (same x) (xs ++ ys))) _ h).1

pub distinct-append : {T : Type 0} (same : T → T → Bool) (xs ys : List T) → are_distinct same xs ≡ true → are_distinct same ys ≡ true →
    AllByRecursion (λ x. list_any (same x) ys ≡ false) xs → are_distinct same (xs ++ ys) ≡ true
distinct-append same [] ys hx hy apart = hy
distinct-append same (x ∷ xs) ys hx hy apart =
    let parts : (not (list_any (same x) xs) ≡ true) × (are_distinct same xs ≡ true) = and_parts _ _ hx in
    let none : list_any (same x) (xs ++ ys) ≡ false = list_any-append (same x) xs ys ∙ or_from _ _ (not-true _ parts.0) apart.0 in
    and_from _ _ (ap not none) (distinct-append same xs ys parts.1 hy apart.1)

-- what isn't among the items isn't among a part of them
pub part-any : {T : Type 0} {same : T → T → Bool} → IsEqual same → (xs ys : List T) → is_part same xs ys ≡ true →
    (x : T) → list_any (same x) ys ≡ false → list_any (same x) xs ≡ false
part-any laws [] ys h x none = refl
part-any laws (z ∷ xs) [] h x none = cc
part-any {T} {same} laws (z ∷ xs) (y ∷ ys) h x none =
    at (same z y) refl h (λ zs p. part-any laws zs ys p x parts.1)
  where
    parts : (same x y ≡ false) × (list_any (same x) ys ≡ false)
    parts = or_parts _ _ none

    at : (t : Bool) → same z y ≡ t → cond t (is_part same xs ys) (is_part same (z ∷ xs) ys) ≡ true →
        ((zs : List T) → is_part same zs ys ≡ true → list_any (same x) zs ≡ false) → list_any (same x) (z ∷ xs) ≡ false
    at true e p rest = or_from _ _ (ap (same x) (same-is laws z y e) ∙ parts.0) (rest xs p)
    at false e p rest = rest (z ∷ xs) p

pub part-distinct : {T : Type 0} {same : T → T → Bool} → IsEqual same → (xs ys : List T) → is_part same xs ys ≡ true → are_distinct same ys ≡ true → are_distinct same xs ≡ true
part-distinct laws [] ys h d = refl
part-distinct laws (z ∷ xs) [] h d = cc
part-distinct {T} {same} laws (z ∷ xs) (y ∷ ys) h d = at (same z y) refl h (λ zs p. part-distinct laws zs ys p parts.1)
  where
    parts : (not (list_any (same y) ys) ≡ true) × (are_distinct same ys ≡ true)
    parts = and_parts _ _ d

    at : (t : Bool) → same z y ≡ t → cond t (is_part same xs ys) (is_part same (z ∷ xs) ys) ≡ true →
        ((zs : List T) → is_part same zs ys ≡ true → are_distinct same zs ≡ true) → are_distinct same (z ∷ xs) ≡ true
    at true e p rest =
        let none : list_any (same z) ys ≡ false = ap (λ (q : T). list_any (same q) ys) (same-is laws z y e) ∙ not-true _ parts.0 in
        and_from _ _ (ap not (part-any laws xs ys p z none)) (rest xs p)
    at false e p rest = rest (z ∷ xs) p

pub part-all : {T : Type 0} {same : T → T → Bool} → IsEqual same → (P : T → Type 0) (xs ys : List T) → is_part same xs ys ≡ true → AllByRecursion P ys → AllByRecursion P xs
part-all laws P [] ys h all = tt
part-all laws P (z ∷ xs) [] h all = absurd (cc)
part-all {T} {same} laws P (z ∷ xs) (y ∷ ys) h all = at (same z y) refl h (λ zs p. part-all laws P zs ys p all.1)
  where
    at : (t : Bool) → same z y ≡ t → cond t (is_part same xs ys) (is_part same (z ∷ xs) ys) ≡ true →
        ((zs : List T) → is_part same zs ys ≡ true → AllByRecursion P zs) → AllByRecursion P (z ∷ xs)
    at true e p rest = (subst P (sym (same-is laws z y e)) all.0, rest xs p)
    at false e p rest = rest (z ∷ xs) p

more-from : {T : Type 0} (same : T → T → Bool) (xs : List T) (y : T) (ys : List T) →
    ((x : T) (zs : List T) → is_part same (x ∷ zs) ys ≡ true → is_part same zs ys ≡ true) → is_part same xs ys ≡ true → is_part same xs (y ∷ ys) ≡ true
more-from same [] y ys rest h = refl
more-from same (x ∷ xs) y ys rest h = at (same x y)
  where
    at : (t : Bool) → cond t (is_part same xs ys) (is_part same (x ∷ xs) ys) ≡ true
    at true = rest x xs h
    at false = h

-- a part stays one without its first item
pub part-rest : {T : Type 0} (same : T → T → Bool) (ys : List T) (x : T) (xs : List T) → is_part same (x ∷ xs) ys ≡ true → is_part same xs ys ≡ true
part-rest same [] x xs h = cc
part-rest {T} same (y ∷ ys) x xs h = at (same x y) h (part-rest same ys)
  where
    at : (t : Bool) → cond t (is_part same xs ys) (is_part same (x ∷ xs) ys) ≡ true →
        ((z : T) (zs : List T) → is_part same (z ∷ zs) ys ≡ true → is_part same zs ys ≡ true) → is_part same xs (y ∷ ys) ≡ true
    at true p rest = more-from same xs y ys rest p
    at false p rest = more-from same xs y ys rest (rest x xs p)

-- and where there is one more item to choose from
pub part-more : {T : Type 0} (same : T → T → Bool) (xs : List T) (y : T) (ys : List T) → is_part same xs ys ≡ true → is_part same xs (y ∷ ys) ≡ true
part-more same xs y ys h = more-from same xs y ys (part-rest same ys) h

eqb-self : (j : ℕ) → eqb j j ≡ true
eqb-self j = eq-eqb j j refl

any-pins : (j p : ℕ) (ps : List ℕ) → list_any (same_place (j, p)) (map (λ q. (j, q)) ps) ≡ list_any (λ q. p == q) ps
any-pins j p [] = refl
any-pins j p (q ∷ ps) = ap (λ (t : Bool). (t && eqb p q) || list_any (same_place (j, p)) (map (λ q. (j, q)) ps)) (eqb-self j) ∙ ap (λ (t : Bool). eqb p q || t) (any-pins j p ps)

distinct-pins : (j : ℕ) (ps : List ℕ) → are_distinct (λ p q. p == q) ps ≡ true → are_distinct same_place (map (λ q. (j, q)) ps) ≡ true
distinct-pins j [] h = refl
distinct-pins j (p ∷ ps) h =
    let parts : (not (list_any (λ q. p == q) ps) ≡ true) × (are_distinct (λ p q. p == q) ps ≡ true) = and_parts _ _ h in
    and_from _ _ (ap not (any-pins j p ps) ∙ parts.0) (distinct-pins j ps parts.1)

-- the places of chips from j on have no chip below j
none-below : (i p j : ℕ) (cs : List ChipLine) → i < j → list_any (same_place (i, p)) (board_places j cs) ≡ false
none-below i p j [] lt = refl
none-below i p j (c ∷ cs) lt =
    list_any-append (same_place (i, p)) (map (λ q. (j, q)) (ordinary_pins c.kind)) (board_places (j + 1) cs)
    ∙ or_from _ _ (here (ordinary_pins c.kind)) (none-below i p (j + 1) cs (omega arith))
  where
    here : (ps : List ℕ) → list_any (same_place (i, p)) (map (λ q. (j, q)) ps) ≡ false
    here [] = refl
    here (q ∷ ps) = or_from _ _ (ap (λ (t : Bool). t && eqb p q) (ne_eqb i j (λ e. absurd (omega arith)))) (here ps)

pub places-distinct : (j : ℕ) (cs : List ChipLine) → are_distinct same_place (board_places j cs) ≡ true
places-distinct j [] = refl
places-distinct j (c ∷ cs) =
    distinct-append same_place (map (λ q. (j, q)) (ordinary_pins c.kind)) (board_places (j + 1) cs) (distinct-pins j (ordinary_pins c.kind) (ordinary-distinct c.kind))
    (places-distinct (j + 1) cs) (apart (ordinary_pins c.kind))
  where
    apart : (ps : List ℕ) → AllByRecursion (λ x. list_any (same_place x) (board_places (j + 1) cs) ≡ false) (map (λ q. (j, q)) ps)
    apart [] = tt
    apart (q ∷ ps) = (none-below j q (j + 1) cs (omega arith), apart ps)
