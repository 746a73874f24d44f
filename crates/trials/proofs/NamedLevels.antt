-- Levels by the names of ports and by their places.
use Rattle.std.proofs.Common.{ℕ, zero, suc, ◌≡◌, ◌+◌, ◌<◌, Bool, true, false, cond, List, [], ◌∷◌, map, filter, length, Option, Some, None, refl, sym, ap, ◌∙◌, subst, arith, inl, inr}
use Rattle.std.specs.Prelude.{codes, not, ◌||◌, if◌then◌else◌, slice_get, slice_index_or}
use Rattle.std.specs.List.{list_any}
use Rattle.std.specs.Option.{option_map}
use Rattle.std.specs.Str.{bytes_eq}
use Rattle.std.proofs.lemmas.Bool.{and_parts, and_from, or_parts, not-true}
use Rattle.std.proofs.lemmas.List.{length-map}
use Rattle.std.proofs.lemmas.Option.{slice_get-map, get_or_from_slice_get}
use Rattle.mig_base.specs.declared.levels.Level.{Level}
use Rattle.mig_base.specs.declared.nets.Net.{Net}
use Rattle.mig_base.specs.declared.nets.NetLine.{NetLine}
use Rattle.mig_base.specs.declared.nets.Port.{Port}
use Rattle.mig_base.specs.Among.{Among}
use Rattle.mig_base.specs.BoardText.{place_named}
use Rattle.mig_base.specs.Boards.{is_handed, is_port}
use Rattle.mig_base.specs.Levels.{or_x}
use Rattle.mig_base.specs.WrittenBoard.{are_distinct, IsWritable}
use Rattle.mig_base.proofs.Distinct.{bytes-equal, distinct-behind, same-refl, same-sym}
use Rattle.level_laws.specs.SameBehaviour.{SamePorts, handed_levels, port_names, shown_at}
use Rattle.trials.specs.Differences.{port_name}
use Rattle.matchings.specs.ByPort.{by_port, handed_names}
use Rattle.trials.specs.Places.{handed_over, level_by_place, places_among}

abbrev pub level_or_x : Option Level → Level
level_or_x o = or_x (λ (level : Level). level) o

-- a level by a name is the one at the place of that name
pub shown-placed : (names : List (List ℕ)) (levels : List Level) (name : List ℕ) → shown_at names levels name ≡ level_by_place levels (place_named name names)
shown-placed [] levels name = refl
shown-placed (n ∷ ns) [] name = at (bytes_eq name n) (place_named name ns)
  where
    at : (b : Bool) (o : Option ℕ) → None ≡ level_by_place [] (if b then Some 0 else option_map (λ k. k + 1) o)
    at true o = refl
    at false None = refl
    at false (Some k) = refl
shown-placed (n ∷ ns) (x ∷ xs) name = at (bytes_eq name n) (place_named name ns) (shown-placed ns xs name)
  where
    at : (b : Bool) (o : Option ℕ) → shown_at ns xs name ≡ level_by_place xs o →
        (if b then Some x else shown_at ns xs name) ≡ level_by_place (x ∷ xs) (if b then Some 0 else option_map (λ k. k + 1) o)
    at true o e = refl
    at false None e = e
    at false (Some k) e = e ∙ ap (slice_get (x ∷ xs)) (let next : suc k ≡ k + 1 = omega arith in next)

-- what is handed over, by places
pub over-placed : (a b : Net) (inputs : List Level) →
    map (λ place. level_or_x (level_by_place inputs place)) (places_among (handed_names b) (handed_names a)) ≡ handed_over a b inputs
over-placed a b inputs = lines (filter (λ l. is_handed l.port) b.nets)
  where
    lines : (ls : List NetLine) → map (λ place. level_or_x (level_by_place inputs place)) (places_among (map (λ l. l.name) ls) (handed_names a)) ≡ map (λ l. by_port a inputs l.name) ls
    lines [] = refl
    lines (l ∷ ls) =
        ap (λ (x : Level). x ∷ map (λ place. level_or_x (level_by_place inputs place)) (places_among (map (λ l. l.name) ls) (handed_names a))) (ap level_or_x (sym (shown-placed (handed_names a) inputs l.name)))
        ∙ ap (λ (xs : List Level). by_port a inputs l.name ∷ xs) (lines ls)

any-at : {T : Type 0} (p : T → Bool) (xs : List T) (i : ℕ) (x : T) → list_any p xs ≡ false → slice_get xs i ≡ Some x → p x ≡ false
any-at p [] i x none e = cc
any-at {T} p (y ∷ ys) zero x none e = let parts = or_parts (p y) (list_any p ys) none in here e parts.0
  where
    here : Some y ≡ Some x → p y ≡ false → p x ≡ false
    here e h = ap (λ (o : Option T). if_some o) (sym e) ∙ h
      where
        if_some : Option T → Bool
        if_some None = false
        if_some (Some z) = p z
any-at p (y ∷ ys) (suc i) x none e = any-at p ys i x (or_parts (p y) (list_any p ys) none).1 e

some-is : {T : Type 0} (x y : T) → Some x ≡ Some y → x ≡ y
some-is x y e = cc

-- where names are distinct, the level by the name at a place is the one at that place
pub shown-own : (names : List (List ℕ)) (levels : List Level) (i : ℕ) (name : List ℕ) → are_distinct bytes_eq names ≡ true → slice_get names i ≡ Some name → shown_at names levels name ≡ slice_get levels i
shown-own [] levels i name d e = cc
shown-own (n ∷ ns) [] i name d e = refl
shown-own (n ∷ ns) (x ∷ xs) zero name d e =
    let same : bytes_eq name n ≡ true = subst (λ (w : List ℕ). bytes_eq name w ≡ true) (sym (some-is n name e)) (same-refl bytes-equal name) in
    ap (λ (b : Bool). if b then Some x else shown_at ns xs name) same
shown-own (n ∷ ns) (x ∷ xs) (suc i) name d e =
    let parts = and_parts (not (list_any (bytes_eq n) ns)) (are_distinct bytes_eq ns) d in
    let other : bytes_eq name n ≡ false = same-sym bytes-equal name n ∙ any-at (bytes_eq n) ns i name (not-true (list_any (bytes_eq n) ns) parts.0) e in
    ap (λ (b : Bool). if b then Some x else shown_at ns xs name) other ∙ shown-own ns xs i name parts.1 e

-- names of some of the lines are distinct where all are
filtered-distinct : (p : NetLine → Bool) (ls : List NetLine) → are_distinct bytes_eq (map (λ l. l.name) ls) ≡ true → are_distinct bytes_eq (map (λ l. l.name) (filter p ls)) ≡ true
filtered-distinct p [] d = refl
filtered-distinct p (l ∷ ls) d =
    let parts = and_parts (not (list_any (bytes_eq l.name) (map (λ l. l.name) ls))) (are_distinct bytes_eq (map (λ l. l.name) ls)) d in
    at (p l) (ap not (fewer ls (not-true (list_any (bytes_eq l.name) (map (λ l. l.name) ls)) parts.0))) (filtered-distinct p ls parts.1)
  where
    fewer : (ks : List NetLine) → list_any (bytes_eq l.name) (map (λ l. l.name) ks) ≡ false → list_any (bytes_eq l.name) (map (λ l. l.name) (filter p ks)) ≡ false
    fewer [] none = refl
    fewer (k ∷ ks) none = let parts = or_parts (bytes_eq l.name k.name) (list_any (bytes_eq l.name) (map (λ l. l.name) ks)) none in by (p k) parts.0 (fewer ks parts.1)
      where
        by : (b : Bool) → bytes_eq l.name k.name ≡ false → list_any (bytes_eq l.name) (map (λ l. l.name) (filter p ks)) ≡ false →
            list_any (bytes_eq l.name) (map (λ l. l.name) (cond b (k ∷ filter p ks) (filter p ks))) ≡ false
        by true h rest = ap (λ (b : Bool). b || list_any (bytes_eq l.name) (map (λ l. l.name) (filter p ks))) h ∙ rest
        by false h rest = rest

    at : (b : Bool) → not (list_any (bytes_eq l.name) (map (λ l. l.name) (filter p ls))) ≡ true → are_distinct bytes_eq (map (λ l. l.name) (filter p ls)) ≡ true →
        are_distinct bytes_eq (map (λ l. l.name) (cond b (l ∷ filter p ls) (filter p ls))) ≡ true
    at true new rest = and_from (not (list_any (bytes_eq l.name) (map (λ l. l.name) (filter p ls)))) (are_distinct bytes_eq (map (λ l. l.name) (filter p ls))) new rest
    at false new rest = rest

lines-distinct : (net : Net) → IsWritable net → are_distinct bytes_eq (map (λ l. l.name) net.nets) ≡ true
lines-distinct net w = distinct-behind bytes_eq (codes "GND" ∷ codes "VCC" ∷ []) (map (λ (l : NetLine). l.name) net.nets) w.distinct_nets

pub ports-distinct : (net : Net) → IsWritable net → are_distinct bytes_eq (port_names net) ≡ true
ports-distinct net w = filtered-distinct is_port net.nets (lines-distinct net w)

pub handed-distinct : (net : Net) → IsWritable net → are_distinct bytes_eq (handed_names net) ≡ true
handed-distinct net w = filtered-distinct (λ l. is_handed l.port) net.nets (lines-distinct net w)

-- levels that are handed by name stay as they are on their own board
pub own-inputs : (net : Net) (inputs : List Level) → IsWritable net → length inputs ≡ length (handed_names net) → handed_levels net (by_port net inputs) ≡ inputs
own-inputs net inputs w long =
    from (filter (λ l. is_handed l.port) net.nets) inputs 0 (λ j. ap (slice_get (handed_names net)) (let e : j ≡ 0 + j = omega arith in e)) (λ j. ap (slice_get inputs) (let e : j ≡ 0 + j = omega arith in e))
    (long ∙ length-map (filter (λ l. is_handed l.port) net.nets) (λ l. l.name))
  where
    from : (ls : List NetLine) (rest : List Level) (i : ℕ) → ((j : ℕ) → slice_get (map (λ l. l.name) ls) j ≡ slice_get (handed_names net) (i + j)) → ((j : ℕ) → slice_get rest j ≡ slice_get inputs (i + j)) →
        length rest ≡ length ls → map (λ l. by_port net inputs l.name) ls ≡ rest
    from [] [] i names levels e = refl
    from [] (x ∷ xs) i names levels e = absurd (omega arith)
    from (l ∷ ls) [] i names levels e = absurd (omega arith)
    from (l ∷ ls) (x ∷ xs) i names levels e =
        let here : shown_at (handed_names net) inputs l.name ≡ Some x = shown-own (handed_names net) inputs (i + 0) l.name (handed-distinct net w) (sym (names 0)) ∙ sym (levels 0) in
        let next : (j : ℕ) → i + suc j ≡ (i + 1) + j = λ j. omega arith in
        ap (λ (y : Level). y ∷ map (λ l. by_port net inputs l.name) ls) (ap level_or_x here)
        ∙ ap (λ (ys : List Level). x ∷ ys)
        (from ls xs (i + 1) (λ j. names (suc j) ∙ ap (slice_get (handed_names net)) (next j)) (λ j. levels (suc j) ∙ ap (slice_get inputs) (next j)) (let f : length xs ≡ length ls = omega arith in f))

-- a name that is among others has a place there
pub named-place : (name : List ℕ) (names : List (List ℕ)) → Among name names → (k : ℕ) × (place_named name names ≡ Some k) × (k < length names)
named-place name [] a = absurd a
named-place name (n ∷ ns) (inl e) = (
  0,
  ap (λ (b : Bool). if b then Some 0 else option_map (λ k. k + 1) (place_named name ns)) (subst (λ (w : List ℕ). bytes_eq name w ≡ true) e (same-refl bytes-equal name)),
  omega arith,
)
named-place name (n ∷ ns) (inr a) = at (bytes_eq name n) (named-place name ns a)
  where
    at : (b : Bool) → (k : ℕ) × (place_named name ns ≡ Some k) × (k < length ns) →
        (k : ℕ) × ((if b then Some 0 else option_map (λ k. k + 1) (place_named name ns)) ≡ Some k) × (k < length (n ∷ ns))
    at true h = (0, refl, omega arith)
    at false h = (h.0 + 1, ap (option_map (λ k. k + 1)) h.1, omega (arith, h.2))

-- a port by its place has a direction
port-there : (ls : List NetLine) (i : ℕ) (name : List ℕ) → slice_get (map (λ l. l.name) ls) i ≡ Some name →
    (dir : Port) × Among {T = List ℕ × Port} (name, dir) (map (λ l. (l.name, l.port)) ls)
port-there [] i name e = cc
port-there (l ∷ ls) zero name e = let same : name ≡ l.name = sym (some-is l.name name e) in (l.port, inl (ap (λ (w : List ℕ). let s : List ℕ × Port = (w, l.port) in s) same))
port-there (l ∷ ls) (suc i) name e = let h = port-there ls i name e in (h.0, inr h.1)

among-names : (ls : List NetLine) (name : List ℕ) (dir : Port) → Among {T = List ℕ × Port} (name, dir) (map (λ l. (l.name, l.port)) ls) → Among name (map (λ l. l.name) ls)
among-names [] name dir a = absurd a
among-names (l ∷ ls) name dir (inl e) = inl (ap (λ (s : List ℕ × Port). s.0) e)
among-names (l ∷ ls) name dir (inr a) = inr (among-names ls name dir a)

-- each port of the first board has a place on the second
pub other-place : (a b : Net) (i : ℕ) (name : List ℕ) → SamePorts a b → port_name a i ≡ Some name → (k : ℕ) × (place_named name (port_names b) ≡ Some k) × (k < length (port_names b))
other-place a b i name ports e =
    let h = port-there (filter is_port a.nets) i name e in
    named-place name (port_names b) (among-names (filter is_port b.nets) name h.0 (ports.left name h.0 h.1))

-- the place of a name stands in the list of places
pub place-of-name : (names others : List (List ℕ)) (i : ℕ) (name : List ℕ) → slice_get names i ≡ Some name → slice_index_or (places_among names others) i None ≡ place_named name others
place-of-name names others i name e =
    get_or_from_slice_get (places_among names others) i (place_named name others) None (slice_get-map (λ (w : List ℕ). place_named w others) names i ∙ ap (option_map (λ (w : List ℕ). place_named w others)) e)
