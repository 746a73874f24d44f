-- The numbers of the nets that a rebuilt board keeps.
use Rattle.std.proofs.Common.{ℕ, zero, suc, ◌≡◌, ◌+◌, ◌-◌, ◌<◌, ◌≤◌, Bool, true, false, not, cond, List, [], ◌∷◌, ◌++◌, map, length, Option, Some, None, refl, sym, ap, ◌∙◌, subst, inl, inr, ◌⊎◌, eqb, eq-eqb, ltb, lt-ltb, le-ltb, arith, append-nil}
use Rattle.std.specs.Prelude.{option_and_then}
use Rattle.std.specs.List.{list_any, filter, filter_map, slice_get}
use Rattle.std.specs.Option.{option_map}
use Rattle.std.proofs.lemmas.Bool.{cases_lt}
use Rattle.std.proofs.lemmas.Option.{same_Some, slice_get_within, slice_get-map}
use Rattle.std.proofs.lemmas.List.Elements.{filter-append, filter_map-append}
use Rattle.mig_base.specs.declared.nets.Net.{Net}
use Rattle.mig_base.specs.declared.nets.NetLine.{NetLine}
use Rattle.mig_base.specs.declared.nets.Port.{Port}
use Rattle.mig_base.specs.declared.nets.Port.TheVariants.{Inner, Input, Output, Both}
use Rattle.mig_base.specs.declared.nets.Pull.{Pull}
use Rattle.mig_base.specs.declared.circuit.NetKind.{NetKind}
use Rattle.mig_base.specs.First.{made_from}
use Rattle.mig_base.specs.Among.{Among}
use Rattle.mig_base.specs.DeviceTables.{ordinary_pins}
use Rattle.mig_base.specs.Boards.{places_from, is_port, is_port_kind, kind_at, kinds_from, kinds_of, privates}
use Rattle.mig_base.proofs.ListLaws.{item-at}
use Rattle.mig_base.proofs.Amongs.{among-split, among-left, among-right, among-any, among-get}
use Rattle.mig_base.proofs.PlaceLaws.{length-kinds_from}
use Rattle.new_board.specs.NewChip.{OldBoard, NewChip, private_from}
use Rattle.new_board.specs.InputPins.{pin_net}
use Rattle.new_board.specs.NewFiles.{wire_at, stands_on, number_in, new_number, new_wires, fitted}
use Rattle.new_board.specs.declared.types.PinNet.{PinNet}
use Rattle.new_board.proofs.Items.{filter-all, filter-none, among-filter, among-unfilter, among-filter_map, among-unfilter_map}
use Rattle.new_board.proofs.Wiring.{inner_kind, get-left, get-right}
use Rattle.new_board.proofs.NewWiring.{rebuilt_net, kept_of, IsNumbered, NumbersFit}
use Rattle.new_board.proofs.KeptNets.{AreDifferent, places-get, get-places, places-different, filter-different, append-different, number-get, get-number, number-below, filter_map-get, filter_map-length, filter_map-places, handed_before, kind_line, kinds-get, ports-handed}

abbrev pub pick : Net → ℕ → Option NetLine
pick net n = slice_get net.nets (n - 2)

abbrev pub port_places : Net → List ℕ
port_places net = places_from is_port 2 net.nets

abbrev pub inner_places : OldBoard → List NewChip → List ℕ
inner_places b news = filter (λ n. list_any (stands_on n) (map (fitted b) news)) (places_from (λ l. not (is_port l)) 2 b.net.nets)

abbrev or_zero : Option ℕ → ℕ
or_zero None = 0
or_zero (Some n) = n

-- the old number of a constant or a kept net
abbrev pub old_kept : List ℕ → ℕ → ℕ
old_kept kept n = cond (ltb n 2) n (or_zero (slice_get kept (n - 2)))

-- a kept net is a named one
pub record IsLine (net : Net) (n : ℕ) : Type 0 where
  pub line : NetLine
  pub found : pick net n ≡ Some line
  pub named : 2 ≤ n

port-line : (net : Net) (n : ℕ) → Among n (port_places net) → (l : IsLine net n) × (is_port l.line ≡ true)
port-line net n a = let r = places-get is_port 2 net.nets n a in (record { line = r.0; found = r.1; named = r.3 }, r.2)

inner-line : (b : OldBoard) (news : List NewChip) (n : ℕ) → Among n (inner_places b news) → (l : IsLine b.net n) × (is_port l.line ≡ false)
inner-line b news n a =
    let kept = among-unfilter (λ n. list_any (stands_on n) (map (fitted b) news)) n (places_from (λ l. not (is_port l)) 2 b.net.nets) a in
    let r = places-get (λ l. not (is_port l)) 2 b.net.nets n kept.0 in
    (record { line = r.0; found = r.1; named = r.3 }, no_port (is_port r.0) r.2)
  where
    no_port : (q : Bool) → not q ≡ true → q ≡ false
    no_port true e = sym e
    no_port false e = refl

pub kept-line : (b : OldBoard) (news : List NewChip) (n : ℕ) → Among n (kept_of b news) → IsLine b.net n
kept-line b news n a = at (among-split n (port_places b.net) (inner_places b news) a)
  where
    at : Among n (port_places b.net) ⊎ Among n (inner_places b news) → IsLine b.net n
    at (inl h) = (port-line b.net n h).0
    at (inr h) = (inner-line b news n h).0

pub kept-different : (b : OldBoard) (news : List NewChip) → AreDifferent (kept_of b news)
kept-different b news = append-different (port_places b.net) (inner_places b news) (places-different is_port 2 b.net.nets)
    (filter-different (λ n. list_any (stands_on n) (map (fitted b) news)) (places_from (λ l. not (is_port l)) 2 b.net.nets) (places-different (λ l. not (is_port l)) 2 b.net.nets))
    (λ n m a c e.
    let p = port-line b.net n a in
    let q = inner-line b news m c in
    let same : p.0.line ≡ q.0.line = same_Some p.0.line q.0.line (sym p.0.found ∙ ap (pick b.net) (sym e) ∙ q.0.found) in
    let wrong : true ≡ false = sym p.1 ∙ ap is_port same ∙ q.1 in
    cc)

pub nets-length : (b : OldBoard) (news : List NewChip) → length (rebuilt_net b news).nets ≡ length (kept_of b news)
nets-length b news = filter_map-length (pick b.net) (kept_of b news) (λ n a. let l = kept-line b news n a in (l.line, l.found))

nets-get : (b : OldBoard) (news : List NewChip) (i : ℕ) → slice_get (rebuilt_net b news).nets i ≡ option_and_then (pick b.net) (slice_get (kept_of b news) i)
nets-get b news i = filter_map-get (pick b.net) (kept_of b news) (λ n a. let l = kept-line b news n a in (l.line, l.found)) i

-- what stands at a number of the new board
record IsKeptAt (b : OldBoard) (news : List NewChip) (i : ℕ) : Type 0 where
  old : ℕ
  found : slice_get (kept_of b news) i ≡ Some old
  line : IsLine b.net old

kept-at : (b : OldBoard) (news : List NewChip) (i : ℕ) → suc (suc i) < private_from (rebuilt_net b news) → IsKeptAt b news i
kept-at b news i h =
    let long : length (rebuilt_net b news).nets ≡ length (kept_of b news) = nets-length b news in
    let n = item-at (kept_of b news) i (omega arith) in
    record { old = n.0; found = n.1; line = kept-line b news n.0 (among-get (kept_of b news) i n.0 n.1) }

old-at : (kept : List ℕ) (i n : ℕ) → slice_get kept i ≡ Some n → old_kept kept (suc (suc i)) ≡ n
old-at kept i n e =
    let high : 2 ≤ suc (suc i) = omega arith in
    let back : suc (suc i) - 2 ≡ i = omega arith in
    ap (λ (q : Bool). cond q (suc (suc i)) (or_zero (slice_get kept (suc (suc i) - 2)))) (le-ltb (suc (suc i)) 2 high)
    ∙ ap (λ (k : ℕ). or_zero (slice_get kept k)) back ∙ ap or_zero e

new-at : (kept : List ℕ) (i n : ℕ) → AreDifferent kept → slice_get kept i ≡ Some n → 2 ≤ n → new_number kept n ≡ suc (suc i)
new-at kept i n d e h =
    let number : number_in kept n ≡ i = get-number kept i n d e in
    ap (λ (q : Bool). cond q n (2 + number_in kept n)) (le-ltb n 2 h) ∙ omega (arith, number)

-- a named net on which a pin of a new chip stands is kept
kept-among : (b : OldBoard) (news : List NewChip) (j : ℕ) (chip : NewChip) (pin n : ℕ) → slice_get news j ≡ Some chip → Among pin (ordinary_pins chip.kind) → pin_net b chip pin ≡ Some n →
    n < private_from b.net → 2 ≤ n → Among n (kept_of b news)
kept-among b news j chip pin n found ordinary net_is low named = at (is_port line.0) refl
  where
    line : (l : NetLine) × (slice_get b.net.nets (n - 2) ≡ Some l)
    line = item-at b.net.nets (n - 2) (omega arith)

    number : n ≡ 2 + (n - 2)
    number = omega arith

    wire : Among {T = PinNet} (record { pin = pin; net = n }) (new_wires b chip)
    wire = among-filter_map (λ p. wire_at b p (pin_net b chip p)) pin (record { pin = pin; net = n }) (ordinary_pins chip.kind) ordinary
        (ap (wire_at b pin) net_is ∙ ap (λ (q : Bool). cond q (Some (record { pin = pin; net = n })) None) (lt-ltb n (private_from b.net) low))

    stands : list_any (stands_on n) (map (fitted b) news) ≡ true
    stands = among-any (stands_on n) (fitted b chip) (map (fitted b) news)
        (among-get (map (fitted b) news) j (fitted b chip) (slice_get-map (fitted b) news j ∙ ap (option_map (fitted b)) found))
        (among-any (λ w. eqb w.net n) (record { pin = pin; net = n }) (new_wires b chip) wire (eq-eqb n n refl))

    at : (q : Bool) → is_port line.0 ≡ q → Among n (kept_of b news)
    at true e = among-left n (port_places b.net) (inner_places b news) (get-places is_port 2 (n - 2) n b.net.nets line.0 line.1 e number)
    at false e = among-right n (port_places b.net) (inner_places b news)
        (among-filter (λ n. list_any (stands_on n) (map (fitted b) news)) n (places_from (λ l. not (is_port l)) 2 b.net.nets)
        (get-places (λ l. not (is_port l)) 2 (n - 2) n b.net.nets line.0 line.1 (ap (λ (q : Bool). not q) e) number) stands)

kept-numbered : (b : OldBoard) (news : List NewChip) (j : ℕ) (chip : NewChip) (pin n : ℕ) → slice_get news j ≡ Some chip → Among pin (ordinary_pins chip.kind) → pin_net b chip pin ≡ Some n →
    n < private_from b.net → IsNumbered b news (old_kept (kept_of b news)) n
kept-numbered b news j chip pin n found ordinary net_is low = at (cases_lt n 2)
  where
    at : (n < 2) ⊎ (2 ≤ n) → IsNumbered b news (old_kept (kept_of b news)) n
    at (inl h) =
        let kept = kept_of b news in
        let new : new_number kept n ≡ n = ap (λ (q : Bool). cond q n (2 + number_in kept n)) (lt-ltb n 2 h) in
        record {
          below = omega arith;
          back = ap (old_kept kept) new ∙ ap (λ (q : Bool). cond q n (or_zero (slice_get kept (n - 2)))) (lt-ltb n 2 h);
        }
    at (inr h) =
        let kept = kept_of b news in
        let a : Among n kept = kept-among b news j chip pin n found ordinary net_is low h in
        let k : number_in kept n < length kept = number-below kept n a in
        let long : length (rebuilt_net b news).nets ≡ length kept = nets-length b news in
        let new : new_number kept n ≡ suc (suc (number_in kept n)) = new-at kept (number_in kept n) n (kept-different b news) (number-get kept n a) h in
        record { below = omega arith; back = ap (old_kept kept) new ∙ old-at kept (number_in kept n) n (number-get kept n a) }

-- the number of the old net
back-number : (b : OldBoard) (news : List NewChip) (n : ℕ) → n < private_from (rebuilt_net b news) → new_number (kept_of b news) (old_kept (kept_of b news) n) ≡ n
back-number b news zero h = refl
back-number b news (suc zero) h = refl
back-number b news (suc (suc i)) h =
    let k = kept-at b news i h in
    ap (new_number (kept_of b news)) (old-at (kept_of b news) i k.old k.found) ∙ new-at (kept_of b news) i k.old (kept-different b news) k.found k.line.named

kept-within : (b : OldBoard) (news : List NewChip) (n : ℕ) → n < private_from (rebuilt_net b news) → old_kept (kept_of b news) n < private_from b.net
kept-within b news zero h = omega arith
kept-within b news (suc zero) h = omega arith
kept-within b news (suc (suc i)) h =
    let k = kept-at b news i h in
    let low : k.old - 2 < length b.net.nets = slice_get_within b.net.nets (k.old - 2) k.line.line k.line.found in
    let named : 2 ≤ k.old = k.line.named in
    let below : k.old < private_from b.net = omega arith in
    subst (λ (n : ℕ). n < private_from b.net) (sym (old-at (kept_of b news) i k.old k.found)) below

-- the kinds stay

ports-picked : (b : OldBoard) → filter_map (pick b.net) (port_places b.net) ≡ filter is_port b.net.nets
ports-picked b = filter_map-places (pick b.net) is_port 2 b.net.nets (λ i. let back : 2 + i - 2 ≡ i = omega arith in ap (slice_get b.net.nets) back)

nets-split : (b : OldBoard) (news : List NewChip) → (rebuilt_net b news).nets ≡ filter is_port b.net.nets ++ filter_map (pick b.net) (inner_places b news)
nets-split b news = filter_map-append (pick b.net) (port_places b.net) (inner_places b news) ∙ ap (λ (ls : List NetLine). ls ++ filter_map (pick b.net) (inner_places b news)) (ports-picked b)

inner-kind : (l : NetLine) (i k : ℕ) → is_port l ≡ false → kind_line i l ≡ kind_line k l
inner-kind l i k e = at l.port e
  where
    at : (p : Port) → is_port_kind p ≡ false → ◌≡◌ {A = NetKind × Pull} (kind_at i p, l.pull) (kind_at k p, l.pull)
    at Inner e = refl
    at Input e = cc
    at Output e = cc
    at Both e = cc

kinds-kept : (b : OldBoard) (news : List NewChip) (i : ℕ) (k : IsKeptAt b news i) → kind_line (0 + handed_before (rebuilt_net b news).nets i) k.line.line ≡ kind_line (0 + handed_before b.net.nets (k.old - 2)) k.line.line
kinds-kept b news i k = at (cases_lt i (length (port_places b.net)))
  where
    at : (i < length (port_places b.net)) ⊎ (length (port_places b.net) ≤ i) →
        kind_line (0 + handed_before (rebuilt_net b news).nets i) k.line.line ≡ kind_line (0 + handed_before b.net.nets (k.old - 2)) k.line.line
    at (inl low) =
        let port : slice_get (port_places b.net) i ≡ Some k.old = sym (get-left (port_places b.net) (inner_places b news) i low) ∙ k.found in
        ap (λ (n : ℕ). kind_line (0 + n) k.line.line)
        (ap (λ (ls : List NetLine). handed_before ls i) (nets-split b news) ∙ ports-handed 2 i k.old b.net.nets (filter_map (pick b.net) (inner_places b news)) port)
    at (inr high) =
        let place = i - length (port_places b.net) in
        let inner : slice_get (inner_places b news) place ≡ Some k.old = sym (get-right (port_places b.net) (inner_places b news) place i (omega arith)) ∙ k.found in
        let l = inner-line b news k.old (among-get (inner_places b news) place k.old inner) in
        let same : l.0.line ≡ k.line.line = same_Some l.0.line k.line.line (sym l.0.found ∙ k.line.found) in
        inner-kind k.line.line (0 + handed_before (rebuilt_net b news).nets i) (0 + handed_before b.net.nets (k.old - 2)) (ap is_port (sym same) ∙ l.1)

kinds-named_at : (net : Net) (i : ℕ) (l : NetLine) → slice_get net.nets i ≡ Some l → slice_get (kinds_of net) (suc (suc i)) ≡ Some (kind_line (0 + handed_before net.nets i) l)
kinds-named_at net i l e =
    get-left (kinds_from 0 net.nets) (map inner_kind (privates net)) i
    (let long : length (kinds_from 0 net.nets) ≡ length net.nets = length-kinds_from 0 net.nets in let low : i < length net.nets = slice_get_within net.nets i l e in omega arith)
    ∙ kinds-get 0 net.nets i ∙ ap (option_map (kind_line (0 + handed_before net.nets i))) e

kept-kinds : (b : OldBoard) (news : List NewChip) (n : ℕ) → n < private_from (rebuilt_net b news) → slice_get (kinds_of (rebuilt_net b news)) n ≡ slice_get (kinds_of b.net) (old_kept (kept_of b news) n)
kept-kinds b news zero h = refl
kept-kinds b news (suc zero) h = refl
kept-kinds b news (suc (suc i)) h =
    let k = kept-at b news i h in
    let named : 2 ≤ k.old = k.line.named in
    let number : suc (suc (k.old - 2)) ≡ k.old = omega arith in
    kinds-named_at (rebuilt_net b news) i k.line.line (nets-get b news i ∙ ap (option_and_then (pick b.net)) k.found ∙ k.line.found)
    ∙ ap (λ (x : NetKind × Pull). Some x) (kinds-kept b news i k)
    ∙ sym (kinds-named_at b.net (k.old - 2) k.line.line k.line.found)
    ∙ ap (slice_get (kinds_of b.net)) (number ∙ sym (old-at (kept_of b news) i k.old k.found))

-- the numbers of the nets that are kept
pub kept-numbers : (b : OldBoard) (news : List NewChip) → NumbersFit b news (old_kept (kept_of b news))
kept-numbers b news = record {
  wired = λ j chip pin n found ordinary net_is low. kept-numbered b news j chip pin n found ordinary net_is low;
  within = λ n h. kept-within b news n h;
  kinds = λ n h. kept-kinds b news n h;
  constants = λ n h. ap (λ (q : Bool). cond q n (or_zero (slice_get (kept_of b news) (n - 2)))) (lt-ltb n 2 h);
  apart = λ n m h k e. sym (back-number b news n h) ∙ ap (new_number (kept_of b news)) e ∙ back-number b news m k;
}

-- the ports come first, in their order

inner-lines : (b : OldBoard) (news : List NewChip) (l : NetLine) → Among l (filter_map (pick b.net) (inner_places b news)) → is_port l ≡ false
inner-lines b news l a =
    let n = among-unfilter_map (pick b.net) l (inner_places b news) a in
    let line = inner-line b news n.0 n.1 in
    ap is_port (same_Some l line.0.line (sym n.2 ∙ line.0.found)) ∙ line.1

-- the ports are the same
pub ports-same : (b : OldBoard) (news : List NewChip) → filter is_port b.net.nets ≡ filter is_port (rebuilt_net b news).nets
ports-same b news = sym (ap (filter is_port) (nets-split b news)
    ∙ filter-append is_port (filter is_port b.net.nets) (filter_map (pick b.net) (inner_places b news))
    ∙ ap (λ (ls : List NetLine). ls ++ filter is_port (filter_map (pick b.net) (inner_places b news))) (filter-all is_port (filter is_port b.net.nets) (λ l a. (among-unfilter is_port l b.net.nets a).1))
    ∙ ap (λ (ls : List NetLine). filter is_port b.net.nets ++ ls) (filter-none is_port (filter_map (pick b.net) (inner_places b news)) (λ l a. inner-lines b news l a))
    ∙ append-nil (filter is_port b.net.nets))

places-first : {T : Type 0} (test : T → Bool) (start : ℕ) (xs ys : List T) → ((x : T) → Among x xs → test x ≡ true) → ((y : T) → Among y ys → test y ≡ false) →
    places_from test start (xs ++ ys) ≡ made_from (λ n. n) start (length xs)
places-first test start [] [] h k = refl
places-first test start [] (y ∷ ys) h k = ap (λ (q : Bool). cond q (start ∷ []) [] ++ places_from test (start + 1) ys) (k y (inl refl)) ∙ places-first test (start + 1) [] ys h (λ z a. k z (inr a))
places-first test start (x ∷ xs) ys h k =
    ap (λ (q : Bool). cond q (start ∷ []) [] ++ places_from test (start + 1) (xs ++ ys)) (h x (inl refl))
    ∙ ap (λ (rest : List ℕ). start ∷ rest) (places-first test (start + 1) xs ys (λ z a. h z (inr a)) k)

map-made : (f : ℕ → ℕ) (start : ℕ) (xs : List ℕ) → ((i x : ℕ) → slice_get xs i ≡ Some x → f (start + i) ≡ x) → map f (made_from (λ n. n) start (length xs)) ≡ xs
map-made f start [] h = refl
map-made f start (x ∷ xs) h =
    let here : start ≡ start + 0 = omega arith in
    ap (λ (y : ℕ). y ∷ map f (made_from (λ n. n) (start + 1) (length xs))) (ap f here ∙ h 0 x refl)
    ∙ ap (λ (rest : List ℕ). x ∷ rest) (map-made f (start + 1) xs (λ i y e. let there : start + 1 + i ≡ start + suc i = omega arith in ap f there ∙ h (suc i) y e))

pub kept-ports : (b : OldBoard) (news : List NewChip) → places_from is_port 2 b.net.nets ≡ map (old_kept (kept_of b news)) (places_from is_port 2 (rebuilt_net b news).nets)
kept-ports b news =
    let count : length (filter is_port b.net.nets) ≡ length (port_places b.net) =
    ap length (sym (ports-picked b)) ∙ filter_map-length (pick b.net) (port_places b.net) (λ n a. let l = (port-line b.net n a).0 in (l.line, l.found)) in
    sym (ap (map (old_kept (kept_of b news))) (ap (places_from is_port 2) (nets-split b news)
    ∙ places-first is_port 2 (filter is_port b.net.nets) (filter_map (pick b.net) (inner_places b news)) (λ l a. (among-unfilter is_port l b.net.nets a).1) (λ l a. inner-lines b news l a)
    ∙ ap (made_from (λ n. n) 2) count)
    ∙ map-made (old_kept (kept_of b news)) 2 (port_places b.net) (λ i n e.
    let number : 2 + i ≡ suc (suc i) = omega arith in
    ap (old_kept (kept_of b news)) number
    ∙ old-at (kept_of b news) i n (get-left (port_places b.net) (inner_places b news) i (slice_get_within (port_places b.net) i n e) ∙ e)))
