-- The nets that a rebuilt board keeps: no more than the old ones, and with different names.
use Rattle.std.proofs.Common.{ℕ, zero, suc, ◌≡◌, ◌+◌, ◌-◌, ◌≤◌, Bool, true, false, not, List, [], ◌∷◌, map, length, Option, Some, refl, sym, ap, ◌∙◌, inl, inr, arith}
use Rattle.std.specs.Prelude.{codes}
use Rattle.std.specs.List.{list_any, list_all, filter_map, cons_option, slice_get}
use Rattle.std.specs.Option.{option_map}
use Rattle.std.specs.Str.{bytes_eq}
use Rattle.std.proofs.lemmas.Bool.{and_parts, and_from, or_from, or_parts, not-true, false_from_ne_true}
use Rattle.std.proofs.lemmas.List.{length-append}
use Rattle.std.proofs.lemmas.Option.{same_Some, slice_get-map}
use Rattle.mig_base.specs.declared.nets.NetLine.{NetLine}
use Rattle.mig_base.specs.Among.{Among}
use Rattle.mig_base.specs.BoardText.{net_names}
use Rattle.mig_base.specs.Boards.{places_from, is_port}
use Rattle.mig_base.specs.WrittenBoard.{are_distinct}
use Rattle.mig_base.proofs.Distinct.{bytes-equal, same-sym, distinct-behind}
use Rattle.mig_base.proofs.PlaceLaws.{places-count}
use Rattle.mig_base.proofs.Amongs.{among-get, map-among, among-map, among-any, any-among, among-all, pass-all}
use Rattle.new_board.specs.NewChip.{OldBoard, NewChip}
use Rattle.new_board.specs.NewFiles.{stands_on, fitted}
use Rattle.new_board.proofs.Items.{all-pass, among-unfilter_map}
use Rattle.new_board.proofs.NewWiring.{rebuilt_net, kept_of}
use Rattle.new_board.proofs.KeptNets.{AreDifferent}
use Rattle.new_board.proofs.KeptNumbers.{pick, port_places, inner_places, kept-line, kept-different, nets-length}
use Rattle.new_board.proofs.BuiltRows.{filter-short}

pub nets-few : (b : OldBoard) (news : List NewChip) → length (rebuilt_net b news).nets ≤ length b.net.nets
nets-few b news =
    let long : length (rebuilt_net b news).nets ≡ length (kept_of b news) = nets-length b news in
    let parts : length (kept_of b news) ≡ length (port_places b.net) + length (inner_places b news) = length-append (port_places b.net) (inner_places b news) in
    let few : length (inner_places b news) ≤ length (places_from (λ l. not (is_port l)) 2 b.net.nets) =
    filter-short (λ n. list_any (stands_on n) (map (fitted b) news)) (places_from (λ l. not (is_port l)) 2 b.net.nets) in
    let all : length (port_places b.net) + length (places_from (λ l. not (is_port l)) 2 b.net.nets) ≡ length b.net.nets = places-count is_port 2 b.net.nets in
    omega arith

-- each is one of the old ones
net-old : (b : OldBoard) (news : List NewChip) (l : NetLine) → Among l (rebuilt_net b news).nets → Among l b.net.nets
net-old b news l a = let n = among-unfilter_map (pick b.net) l (kept_of b news) a in among-get b.net.nets (n.0 - 2) l n.2

-- what all old nets pass, the kept ones pass
pub nets-named : (b : OldBoard) (news : List NewChip) (test : NetLine → Bool) → list_all test b.net.nets ≡ true → list_all test (rebuilt_net b news).nets ≡ true
nets-named b news test h = pass-all test (rebuilt_net b news).nets (λ l a. all-pass test l b.net.nets h (net-old b news l a))

-- items of a list without equal ones are at one place where they are equal
distinct-place : {T : Type 0} (same : T → T → Bool) → ((x y : T) → same x y ≡ same y x) → (xs : List T) (i j : ℕ) (x y : T) → are_distinct same xs ≡ true → slice_get xs i ≡ Some x → slice_get xs j ≡ Some y → same x y ≡ true → i ≡ j
distinct-place same turn [] i j x y d e f s = cc
distinct-place same turn (z ∷ zs) zero zero x y d e f s = refl
distinct-place {T} same turn (z ∷ zs) zero (suc j) x y d e f s =
    let none = not-true _ (and_parts (not (list_any (same z) zs)) (are_distinct same zs) d).0 in
    let some : list_any (same z) zs ≡ true = among-any (same z) y zs (among-get zs j y f) (ap (λ (w : T). same w y) (same_Some z x e) ∙ s) in
    let wrong : true ≡ false = sym some ∙ none in
    cc
distinct-place {T} same turn (z ∷ zs) (suc i) zero x y d e f s =
    let none = not-true _ (and_parts (not (list_any (same z) zs)) (are_distinct same zs) d).0 in
    let some : list_any (same z) zs ≡ true = among-any (same z) x zs (among-get zs i x e) (ap (λ (w : T). same w x) (same_Some z y f) ∙ turn y x ∙ s) in
    let wrong : true ≡ false = sym some ∙ none in
    cc
distinct-place same turn (z ∷ zs) (suc i) (suc j) x y d e f s = ap suc (distinct-place same turn zs i j x y (and_parts (not (list_any (same z) zs)) (are_distinct same zs) d).1 e f s)

-- different places have different names
names-apart : (b : OldBoard) (ns : List ℕ) → are_distinct bytes_eq (map (λ (l : NetLine). l.name) b.net.nets) ≡ true → AreDifferent ns → ((n : ℕ) → Among n ns → (l : NetLine) × (pick b.net n ≡ Some l) × (2 ≤ n)) →
    are_distinct bytes_eq (map (λ (l : NetLine). l.name) (filter_map (pick b.net) ns)) ≡ true
names-apart b [] d apart found = refl
names-apart b (n ∷ ns) d apart found =
    let l = found n (inl refl) in
    let rest = map (λ (m : NetLine). m.name) (filter_map (pick b.net) ns) in
    let other : list_any (bytes_eq l.0.name) rest ≡ false = false_from_ne_true (list_any (bytes_eq l.0.name) rest) (λ e.
    let name = any-among (bytes_eq l.0.name) rest e in
    let line = among-map (λ (m : NetLine). m.name) name.0 (filter_map (pick b.net) ns) name.1 in
    let k = among-unfilter_map (pick b.net) line.0 ns line.1 in
    let low : 2 ≤ n = l.2 in
    let high : 2 ≤ k.0 = (found k.0 (inr k.1)).2 in
    let same : n - 2 ≡ k.0 - 2 = distinct-place bytes_eq (same-sym bytes-equal) (map (λ (m : NetLine). m.name) b.net.nets) (n - 2) (k.0 - 2) l.0.name line.0.name d
    (slice_get-map (λ (m : NetLine). m.name) b.net.nets (n - 2) ∙ ap (option_map (λ (m : NetLine). m.name)) l.1)
    (slice_get-map (λ (m : NetLine). m.name) b.net.nets (k.0 - 2) ∙ ap (option_map (λ (m : NetLine). m.name)) k.2)
    (ap (bytes_eq l.0.name) (sym line.2) ∙ name.2) in
    let equal : k.0 ≡ n = omega arith in
    among-all (λ m. m ≡ n → ⊥) k.0 ns apart.0 k.1 equal) in
    ap (λ (o : Option NetLine). are_distinct bytes_eq (map (λ (m : NetLine). m.name) (cons_option o (filter_map (pick b.net) ns)))) l.1
    ∙ and_from (not (list_any (bytes_eq l.0.name) rest)) (are_distinct bytes_eq rest) (ap (λ (q : Bool). not q) other) (names-apart b ns d apart.1 (λ m a. found m (inr a)))

-- a name that no old net has, no kept net has
none-kept : (b : OldBoard) (news : List NewChip) (test : List ℕ → Bool) → list_any test (map (λ (l : NetLine). l.name) b.net.nets) ≡ false →
    list_any test (map (λ (l : NetLine). l.name) (rebuilt_net b news).nets) ≡ false
none-kept b news test none = false_from_ne_true _ (λ e.
    let name = any-among test (map (λ (l : NetLine). l.name) (rebuilt_net b news).nets) e in
    let line = among-map (λ (l : NetLine). l.name) name.0 (rebuilt_net b news).nets name.1 in
    let there : list_any test (map (λ (l : NetLine). l.name) b.net.nets) ≡ true =
    among-any test line.0.name (map (λ (l : NetLine). l.name) b.net.nets) (map-among (λ (l : NetLine). l.name) line.0 b.net.nets (net-old b news line.0 line.1)) (ap test (sym line.2) ∙ name.2) in
    let wrong : true ≡ false = sym there ∙ none in
    cc)

-- two constants before names
pub constants-apart : (same : List ℕ → List ℕ → Bool) (g v : List ℕ) (old new : List (List ℕ)) → are_distinct same (g ∷ v ∷ old) ≡ true → are_distinct same new ≡ true →
    ((test : List ℕ → Bool) → list_any test old ≡ false → list_any test new ≡ false) → are_distinct same (g ∷ v ∷ new) ≡ true
constants-apart same g v old new d e none =
    let first = and_parts (not (list_any (same g) (v ∷ old))) (are_distinct same (v ∷ old)) d in
    let second = and_parts (not (list_any (same v) old)) (are_distinct same old) first.1 in
    let ground = or_parts (same g v) (list_any (same g) old) (not-true _ first.0) in
    and_from (not (list_any (same g) (v ∷ new))) (are_distinct same (v ∷ new)) (ap (λ (q : Bool). not q) (or_from (same g v) (list_any (same g) new) ground.0 (none (same g) ground.1)))
    (and_from (not (list_any (same v) new)) (are_distinct same new) (ap (λ (q : Bool). not q) (none (same v) (not-true _ second.0))) e)

pub old-distinct : (same : List ℕ → List ℕ → Bool) (g v : List ℕ) (old : List (List ℕ)) → are_distinct same (g ∷ v ∷ old) ≡ true → are_distinct same old ≡ true
old-distinct same g v old d = distinct-behind same (g ∷ v ∷ []) old d

-- the kept nets have different names
pub nets-distinct : (b : OldBoard) (news : List NewChip) → are_distinct bytes_eq (net_names b.net.nets) ≡ true → are_distinct bytes_eq (net_names (rebuilt_net b news).nets) ≡ true
nets-distinct b news d =
    constants-apart bytes_eq (codes "GND") (codes "VCC") (map (λ (l : NetLine). l.name) b.net.nets) (map (λ (l : NetLine). l.name) (rebuilt_net b news).nets) d
    (names-apart b (kept_of b news) (old-distinct bytes_eq (codes "GND") (codes "VCC") (map (λ (l : NetLine). l.name) b.net.nets) d) (kept-different b news)
    (λ n a. let l = kept-line b news n a in (l.line, l.found, l.named)))
    (none-kept b news)
