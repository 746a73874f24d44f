-- The lines of the kept nets: each is one of the old ones, and they have different names.
use Rattle.std.proofs.Common.{ℕ, zero, suc, ◌≡◌, ◌+◌, ◌-◌, ◌≤◌, Bool, true, false, not, List, [], ◌∷◌, map, length, Option, Some, refl, sym, ap, ◌∙◌, inl, inr, ◌⊎◌, arith}
use Rattle.std.specs.Prelude.{codes}
use Rattle.std.specs.List.{list_any, list_all, filter, filter_map, cons_option, slice_get}
use Rattle.std.specs.Option.{option_map}
use Rattle.std.specs.Str.{bytes_eq}
use Rattle.std.proofs.lemmas.Bool.{and_parts, and_from, or_from, or_parts, not-true, false_from_ne_true}
use Rattle.std.proofs.lemmas.Option.{same_Some, slice_get-map}
use Rattle.mig_base.specs.declared.nets.Net.{Net}
use Rattle.mig_base.specs.declared.nets.NetLine.{NetLine}
use Rattle.mig_base.specs.Among.{Among}
use Rattle.mig_base.specs.BoardText.{net_names}
use Rattle.mig_base.specs.Boards.{places_from, is_port}
use Rattle.mig_base.specs.WrittenBoard.{are_distinct}
use Rattle.mig_base.proofs.Distinct.{bytes-equal, same-sym, distinct-behind}
use Rattle.mig_base.proofs.Amongs.{among-split, among-get, map-among, among-map, among-any, any-among, among-all, pass-all}
use Rattle.new_board.proofs.BuiltNets.{constants-apart, old-distinct}
use Rattle.new_board.specs.NewFiles.{kept_numbers, new_net, stands_on}
use Rattle.new_board.specs.declared.types.FittedChip.{FittedChip}
use Rattle.new_board.proofs.Items.{all-pass, among-unfilter, among-unfilter_map}
use Rattle.new_board.proofs.KeptNets.{AreDifferent, places-get, places-different, filter-different, append-different, filter_map-length}
use Rattle.new_board.proofs.KeptNumbers.{pick, port_places, IsLine}
use Rattle.new_wirings.proofs.KeptFew.{kept-few}

-- the old inner nets on which a new chip has a pin
abbrev pub inner_kept : Net → List FittedChip → List ℕ
inner_kept net chips = filter (λ n. list_any (stands_on n) chips) (places_from (λ l. not (is_port l)) 2 net.nets)

port-line : (net : Net) (n : ℕ) → Among n (port_places net) → (l : IsLine net n) × (is_port l.line ≡ true)
port-line net n a = let r = places-get is_port 2 net.nets n a in (record { line = r.0; found = r.1; named = r.3 }, r.2)

inner-line : (net : Net) (chips : List FittedChip) (n : ℕ) → Among n (inner_kept net chips) → (l : IsLine net n) × (is_port l.line ≡ false)
inner-line net chips n a =
    let kept = among-unfilter (λ n. list_any (stands_on n) chips) n (places_from (λ l. not (is_port l)) 2 net.nets) a in
    let r = places-get (λ l. not (is_port l)) 2 net.nets n kept.0 in
    (record { line = r.0; found = r.1; named = r.3 }, no_port (is_port r.0) r.2)
  where
    no_port : (q : Bool) → not q ≡ true → q ≡ false
    no_port true e = sym e
    no_port false e = refl

pub line-kept : (net : Net) (chips : List FittedChip) (n : ℕ) → Among n (kept_numbers net chips) → IsLine net n
line-kept net chips n a = at (among-split n (port_places net) (inner_kept net chips) a)
  where
    at : Among n (port_places net) ⊎ Among n (inner_kept net chips) → IsLine net n
    at (inl h) = (port-line net n h).0
    at (inr h) = (inner-line net chips n h).0

different-kept : (net : Net) (chips : List FittedChip) → AreDifferent (kept_numbers net chips)
different-kept net chips = append-different (port_places net) (inner_kept net chips) (places-different is_port 2 net.nets)
    (filter-different (λ n. list_any (stands_on n) chips) (places_from (λ l. not (is_port l)) 2 net.nets) (places-different (λ l. not (is_port l)) 2 net.nets))
    (λ n m a c e.
    let p = port-line net n a in
    let q = inner-line net chips m c in
    let same : p.0.line ≡ q.0.line = same_Some p.0.line q.0.line (sym p.0.found ∙ ap (pick net) (sym e) ∙ q.0.found) in
    let wrong : true ≡ false = sym p.1 ∙ ap is_port same ∙ q.1 in
    cc)

pub lines-length : (net : Net) (chips : List FittedChip) → length (new_net net chips).nets ≡ length (kept_numbers net chips)
lines-length net chips = filter_map-length (pick net) (kept_numbers net chips) (λ n a. let l = line-kept net chips n a in (l.line, l.found))

pub lines-few : (net : Net) (chips : List FittedChip) → length (new_net net chips).nets ≤ length net.nets
lines-few net chips = let few = kept-few net chips in let long = lines-length net chips in omega arith

-- each is one of the old ones
line-old : (net : Net) (chips : List FittedChip) (l : NetLine) → Among l (new_net net chips).nets → Among l net.nets
line-old net chips l a = let n = among-unfilter_map (pick net) l (kept_numbers net chips) a in among-get net.nets (n.0 - 2) l n.2

-- what all old nets pass, the kept ones pass
pub lines-pass : (net : Net) (chips : List FittedChip) (test : NetLine → Bool) → list_all test net.nets ≡ true → list_all test (new_net net chips).nets ≡ true
lines-pass net chips test h = pass-all test (new_net net chips).nets (λ l a. all-pass test l net.nets h (line-old net chips l a))

-- items of a list without equal ones are at one place where they are equal
distinct-place : {T : Type 0} (same : T → T → Bool) → ((x y : T) → same x y ≡ same y x) → (xs : List T) (i j : ℕ) (x y : T) → are_distinct same xs ≡ true → slice_get xs i ≡ Some x → slice_get xs j ≡ Some y → same x y ≡ true → i ≡ j
distinct-place same turn [] i j x y d e f s = cc
distinct-place same turn (z ∷ zs) zero zero x y d e f s = refl
distinct-place {T} same turn (z ∷ zs) zero (suc j) x y d e f s =
    let none = not-true _ (and_parts (not (list_any (same z) zs)) (are_distinct same zs) d).0 in
    let some : list_any (same z) zs ≡ true = among-any (same z) y zs (among-get zs j y f) (ap (λ (w : T). same w y) (same_Some z x e) ∙ s) in
    let wrong : true ≡ false = sym some ∙ none in
    cc
distinct-place {T} same turn (z ∷ zs) (suc i) zero x y d e f s =
    let none = not-true _ (and_parts (not (list_any (same z) zs)) (are_distinct same zs) d).0 in
    let some : list_any (same z) zs ≡ true = among-any (same z) x zs (among-get zs i x e) (ap (λ (w : T). same w x) (same_Some z y f) ∙ turn y x ∙ s) in
    let wrong : true ≡ false = sym some ∙ none in
    cc
distinct-place same turn (z ∷ zs) (suc i) (suc j) x y d e f s = ap suc (distinct-place same turn zs i j x y (and_parts (not (list_any (same z) zs)) (are_distinct same zs) d).1 e f s)

-- different places have different names
names-apart : (net : Net) (ns : List ℕ) → are_distinct bytes_eq (map (λ (l : NetLine). l.name) net.nets) ≡ true → AreDifferent ns → ((n : ℕ) → Among n ns → (l : NetLine) × (pick net n ≡ Some l) × (2 ≤ n)) →
    are_distinct bytes_eq (map (λ (l : NetLine). l.name) (filter_map (pick net) ns)) ≡ true
names-apart net [] d apart found = refl
names-apart net (n ∷ ns) d apart found =
    let l = found n (inl refl) in
    let rest = map (λ (m : NetLine). m.name) (filter_map (pick net) ns) in
    let other : list_any (bytes_eq l.0.name) rest ≡ false = false_from_ne_true (list_any (bytes_eq l.0.name) rest) (λ e.
    let name = any-among (bytes_eq l.0.name) rest e in
    let line = among-map (λ (m : NetLine). m.name) name.0 (filter_map (pick net) ns) name.1 in
    let k = among-unfilter_map (pick net) line.0 ns line.1 in
    let low : 2 ≤ n = l.2 in
    let high : 2 ≤ k.0 = (found k.0 (inr k.1)).2 in
    let same : n - 2 ≡ k.0 - 2 = distinct-place bytes_eq (same-sym bytes-equal) (map (λ (m : NetLine). m.name) net.nets) (n - 2) (k.0 - 2) l.0.name line.0.name d
    (slice_get-map (λ (m : NetLine). m.name) net.nets (n - 2) ∙ ap (option_map (λ (m : NetLine). m.name)) l.1)
    (slice_get-map (λ (m : NetLine). m.name) net.nets (k.0 - 2) ∙ ap (option_map (λ (m : NetLine). m.name)) k.2)
    (ap (bytes_eq l.0.name) (sym line.2) ∙ name.2) in
    let equal : k.0 ≡ n = omega arith in
    among-all (λ m. m ≡ n → ⊥) k.0 ns apart.0 k.1 equal) in
    ap (λ (o : Option NetLine). are_distinct bytes_eq (map (λ (m : NetLine). m.name) (cons_option o (filter_map (pick net) ns)))) l.1
    ∙ and_from (not (list_any (bytes_eq l.0.name) rest)) (are_distinct bytes_eq rest) (ap (λ (q : Bool). not q) other) (names-apart net ns d apart.1 (λ m a. found m (inr a)))

-- a name that no old net has, no kept net has
none-kept : (net : Net) (chips : List FittedChip) (test : List ℕ → Bool) → list_any test (map (λ (l : NetLine). l.name) net.nets) ≡ false →
    list_any test (map (λ (l : NetLine). l.name) (new_net net chips).nets) ≡ false
none-kept net chips test none = false_from_ne_true _ (λ e.
    let name = any-among test (map (λ (l : NetLine). l.name) (new_net net chips).nets) e in
    let line = among-map (λ (l : NetLine). l.name) name.0 (new_net net chips).nets name.1 in
    let there : list_any test (map (λ (l : NetLine). l.name) net.nets) ≡ true =
    among-any test line.0.name (map (λ (l : NetLine). l.name) net.nets) (map-among (λ (l : NetLine). l.name) line.0 net.nets (line-old net chips line.0 line.1)) (ap test (sym line.2) ∙ name.2) in
    let wrong : true ≡ false = sym there ∙ none in
    cc)

-- the kept nets have different names
pub lines-distinct : (net : Net) (chips : List FittedChip) → are_distinct bytes_eq (net_names net.nets) ≡ true → are_distinct bytes_eq (net_names (new_net net chips).nets) ≡ true
lines-distinct net chips d =
    constants-apart bytes_eq (codes "GND") (codes "VCC") (map (λ (l : NetLine). l.name) net.nets) (map (λ (l : NetLine). l.name) (new_net net chips).nets) d
    (names-apart net (kept_numbers net chips) (old-distinct bytes_eq (codes "GND") (codes "VCC") (map (λ (l : NetLine). l.name) net.nets) d) (different-kept net chips)
    (λ n a. let l = line-kept net chips n a in (l.line, l.found, l.named)))
    (none-kept net chips)
