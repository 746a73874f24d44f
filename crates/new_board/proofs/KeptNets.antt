-- The named nets that a rebuilt board keeps: all ports, and the inner nets that stand on a new pin.
use Rattle.std.proofs.Common.{ℕ, zero, suc, ◌≡◌, ◌+◌, ◌-◌, ◌<◌, ◌≤◌, Bool, true, false, cond, List, [], ◌∷◌, ◌++◌, length, Option, Some, refl, sym, ap, ◌∙◌, subst, inl, inr, ◌⊎◌, eqb, eqb-true, eq-eqb, ne_eqb, arith}
use Rattle.std.specs.Prelude.{option_and_then}
use Rattle.std.specs.List.{filter, filter_map, cons_option, slice_get, AllByRecursion}
use Rattle.std.specs.Option.{option_map}
use Rattle.std.proofs.lemmas.Option.{same_Some, slice_get_within}
use Rattle.mig_base.specs.declared.nets.NetLine.{NetLine}
use Rattle.mig_base.specs.declared.nets.Port.{Port}
use Rattle.mig_base.specs.declared.nets.Port.TheVariants.{Inner, Input, Output, Both}
use Rattle.mig_base.specs.declared.nets.Pull.{Pull}
use Rattle.mig_base.specs.declared.circuit.NetKind.{NetKind}
use Rattle.mig_base.specs.Among.{Among}
use Rattle.mig_base.specs.Boards.{places_from, is_port, is_port_kind, is_handed, kind_at, kinds_from}
use Rattle.mig_base.proofs.Amongs.{among-split, among-left, among-right, among-get, all-among}
use Rattle.new_board.specs.NewFiles.{number_in}
use Rattle.new_board.proofs.Items.{all-filter}

-- the places of what passes

pub places-get : {T : Type 0} (test : T → Bool) (start : ℕ) (xs : List T) (n : ℕ) → Among n (places_from test start xs) →
    (x : T) × (slice_get xs (n - start) ≡ Some x) × (test x ≡ true) × (start ≤ n)
places-get test start [] n a = absurd a
places-get {T} test start (x ∷ xs) n a = at (among-split n (cond (test x) (start ∷ []) []) (places_from test (start + 1) xs) a) (places-get test (start + 1) xs n)
  where
    first : (q : Bool) → test x ≡ q → Among n (cond q (start ∷ []) []) → (n ≡ start) × (test x ≡ true)
    first true e (inl same) = (same, e)
    first true e (inr a) = absurd a
    first false e a = absurd a

    at : Among n (cond (test x) (start ∷ []) []) ⊎ Among n (places_from test (start + 1) xs) →
        (Among n (places_from test (start + 1) xs) → (y : T) × (slice_get xs (n - (start + 1)) ≡ Some y) × (test y ≡ true) × (start + 1 ≤ n)) →
        (y : T) × (slice_get (x ∷ xs) (n - start) ≡ Some y) × (test y ≡ true) × (start ≤ n)
    at (inl h) rest =
        let f = first (test x) refl h in
        let same : n ≡ start = f.0 in
        let here : n - start ≡ 0 = omega arith in
        (x, ap (slice_get (x ∷ xs)) here, f.1, omega arith)
    at (inr h) rest =
        let r = rest h in
        let low : start + 1 ≤ n = r.3 in
        let next : n - start ≡ suc (n - (start + 1)) = omega arith in
        (r.0, ap (slice_get (x ∷ xs)) next ∙ r.1, r.2, omega arith)

pub get-places : {T : Type 0} (test : T → Bool) (start i n : ℕ) (xs : List T) (x : T) → slice_get xs i ≡ Some x → test x ≡ true → n ≡ start + i → Among n (places_from test start xs)
get-places test start i n [] x e h at = cc
get-places test start zero n (y ∷ ys) x e h at =
    let same : start ≡ n = omega arith in
    subst (λ (k : ℕ). Among k (places_from test start (y ∷ ys))) same
    (among-left start (cond (test y) (start ∷ []) []) (places_from test (start + 1) ys) (subst (λ (q : Bool). Among start (cond q (start ∷ []) [])) (sym (ap test (same_Some y x e) ∙ h)) (inl refl)))
get-places test start (suc i) n (y ∷ ys) x e h at =
    among-right n (cond (test y) (start ∷ []) []) (places_from test (start + 1) ys) (get-places test (start + 1) i n ys x e h (omega arith))

-- numbers of which no two are the same

abbrev pub AreDifferent : List ℕ → Type 0
AreDifferent [] = Unit {0}
AreDifferent (n ∷ ns) = AllByRecursion (λ m. m ≡ n → ⊥) ns × AreDifferent ns

pub places-different : {T : Type 0} (test : T → Bool) (start : ℕ) (xs : List T) → AreDifferent (places_from test start xs)
places-different test start [] = tt
places-different test start (x ∷ xs) = at (test x) (places-different test (start + 1) xs)
  where
    later : (n : ℕ) → Among n (places_from test (start + 1) xs) → n ≡ start → ⊥
    later n a e = let low : start + 1 ≤ n = (places-get test (start + 1) xs n a).3 in omega arith

    at : (q : Bool) → AreDifferent (places_from test (start + 1) xs) → AreDifferent (cond q (start ∷ []) [] ++ places_from test (start + 1) xs)
    at true rest = (all-among (λ m. m ≡ start → ⊥) (places_from test (start + 1) xs) later, rest)
    at false rest = rest

pub filter-different : (test : ℕ → Bool) (ns : List ℕ) → AreDifferent ns → AreDifferent (filter test ns)
filter-different test [] h = tt
filter-different test (n ∷ ns) h = at (test n) (filter-different test ns h.1)
  where
    at : (q : Bool) → AreDifferent (filter test ns) → AreDifferent (cond q (n ∷ filter test ns) (filter test ns))
    at true rest = (all-filter (λ m. m ≡ n → ⊥) test ns h.0, rest)
    at false rest = rest

pub append-different : (xs ys : List ℕ) → AreDifferent xs → AreDifferent ys → ((x y : ℕ) → Among x xs → Among y ys → y ≡ x → ⊥) → AreDifferent (xs ++ ys)
append-different [] ys h k apart = k
append-different (x ∷ xs) ys h k apart = (at xs h.0, append-different xs ys h.1 k (λ z y a. apart z y (inr a)))
  where
    at : (zs : List ℕ) → AllByRecursion (λ m. m ≡ x → ⊥) zs → AllByRecursion (λ m. m ≡ x → ⊥) (zs ++ ys)
    at [] g = all-among (λ m. m ≡ x → ⊥) ys (λ y a. apart x y (inl refl) a)
    at (z ∷ zs) g = (g.0, at zs g.1)

-- the number of what is there, and what is there at a number

pub number-get : (ns : List ℕ) (n : ℕ) → Among n ns → slice_get ns (number_in ns n) ≡ Some n
number-get [] n a = absurd a
number-get (m ∷ ms) n a = at (eqb m n) refl a (number-get ms n)
  where
    at : (q : Bool) → eqb m n ≡ q → Among n (m ∷ ms) → (Among n ms → slice_get ms (number_in ms n) ≡ Some n) → slice_get (m ∷ ms) (cond q 0 (number_in ms n + 1)) ≡ Some n
    at true e a rest = ap (λ (k : ℕ). Some k) (eqb-true m n e)
    at false e (inl same) rest = let no_ : true ≡ false = sym (eq-eqb m n (sym same)) ∙ e in cc
    at false e (inr a) rest = let next : number_in ms n + 1 ≡ suc (number_in ms n) = omega arith in ap (slice_get (m ∷ ms)) next ∙ rest a

pub get-number : (ns : List ℕ) (i n : ℕ) → AreDifferent ns → slice_get ns i ≡ Some n → number_in ns n ≡ i
get-number [] i n d e = cc
get-number (m ∷ ms) zero n d e = ap (λ (q : Bool). cond q 0 (number_in ms n + 1)) (eq-eqb m n (same_Some m n e))
get-number (m ∷ ms) (suc i) n d e =
    let apart : m ≡ n → ⊥ = λ same. all-at (λ k. k ≡ m → ⊥) ms n d.0 (among-get ms i n e) (sym same) in
    let rest : number_in ms n ≡ i = get-number ms i n d.1 e in
    ap (λ (q : Bool). cond q 0 (number_in ms n + 1)) (ne_eqb m n apart) ∙ omega (arith, rest)
  where
    all-at : (P : ℕ → Type 0) (xs : List ℕ) (x : ℕ) → AllByRecursion P xs → Among x xs → P x
    all-at P [] x h a = absurd a
    all-at P (y ∷ ys) x h (inl same) = subst P (sym same) h.0
    all-at P (y ∷ ys) x h (inr a) = all-at P ys x h.1 a

pub number-below : (ns : List ℕ) (n : ℕ) → Among n ns → number_in ns n < length ns
number-below ns n a = slice_get_within ns (number_in ns n) n (number-get ns n a)

-- a list that is picked from another

pub filter_map-get : {T : Type 0} (g : ℕ → Option T) (ns : List ℕ) → ((n : ℕ) → Among n ns → (x : T) × (g n ≡ Some x)) → (i : ℕ) → slice_get (filter_map g ns) i ≡ option_and_then g (slice_get ns i)
filter_map-get g [] h i = refl
filter_map-get {T} g (n ∷ ns) h zero =
    let x = h n (inl refl) in
    ap (λ (o : Option T). slice_get (cons_option o (filter_map g ns)) 0) x.1 ∙ sym x.1
filter_map-get {T} g (n ∷ ns) h (suc i) =
    let x = h n (inl refl) in
    ap (λ (o : Option T). slice_get (cons_option o (filter_map g ns)) (suc i)) x.1 ∙ filter_map-get g ns (λ m a. h m (inr a)) i

pub filter_map-length : {T : Type 0} (g : ℕ → Option T) (ns : List ℕ) → ((n : ℕ) → Among n ns → (x : T) × (g n ≡ Some x)) → length (filter_map g ns) ≡ length ns
filter_map-length g [] h = refl
filter_map-length {T} g (n ∷ ns) h =
    ap (λ (o : Option T). length (cons_option o (filter_map g ns))) (h n (inl refl)).1 ∙ ap suc (filter_map-length g ns (λ m a. h m (inr a)))

pub filter_map-places : {T : Type 0} (g : ℕ → Option T) (test : T → Bool) (start : ℕ) (xs : List T) → ((i : ℕ) → g (start + i) ≡ slice_get xs i) → filter_map g (places_from test start xs) ≡ filter test xs
filter_map-places g test start [] h = refl
filter_map-places {T} g test start (x ∷ xs) h = at (test x) (filter_map-places g test (start + 1) xs (λ i. let there : start + 1 + i ≡ start + suc i = omega arith in ap g there ∙ h (suc i)))
  where
    here : g start ≡ Some x
    here = let same : start ≡ start + 0 = omega arith in ap g same ∙ h 0

    at : (q : Bool) → filter_map g (places_from test (start + 1) xs) ≡ filter test xs → filter_map g (cond q (start ∷ []) [] ++ places_from test (start + 1) xs) ≡ cond q (x ∷ filter test xs) (filter test xs)
    at true rest = ap (λ (o : Option T). cons_option o (filter_map g (places_from test (start + 1) xs))) here ∙ ap (λ (ys : List T). x ∷ ys) rest
    at false rest = rest

-- the kinds of named nets

abbrev pub handed_here : Bool → ℕ → ℕ
handed_here q k = cond q (k + 1) k

-- how many of the first nets are handed a level
abbrev pub handed_before : List NetLine → ℕ → ℕ
handed_before [] i = 0
handed_before (l ∷ ls) zero = 0
handed_before (l ∷ ls) (suc i) = handed_here (is_handed l.port) (handed_before ls i)

abbrev pub kind_line : ℕ → NetLine → NetKind × Pull
kind_line place l = (kind_at place l.port, l.pull)

pub kinds-get : (place : ℕ) (ls : List NetLine) (i : ℕ) → slice_get (kinds_from place ls) i ≡ option_map (kind_line (place + handed_before ls i)) (slice_get ls i)
kinds-get place [] i = refl
kinds-get place (l ∷ ls) zero = let same : place ≡ place + 0 = omega arith in ap (λ (k : ℕ). Some (kind_line k l)) same
kinds-get place (l ∷ ls) (suc i) = kinds-get (cond (is_handed l.port) (place + 1) place) ls i ∙ ap (λ (k : ℕ). option_map (kind_line k) (slice_get ls i)) (at (is_handed l.port))
  where
    at : (q : Bool) → cond q (place + 1) place + handed_before ls i ≡ place + handed_here q (handed_before ls i)
    at true = omega arith
    at false = refl

port-handed : (l : NetLine) → is_port l ≡ false → is_handed l.port ≡ false
port-handed l e = at l.port refl e
  where
    at : (p : Port) → l.port ≡ p → is_port_kind p ≡ false → is_handed p ≡ false
    at Inner is e = refl
    at Input is e = cc
    at Output is e = cc
    at Both is e = cc

-- the ports keep their places among the handed levels
pub ports-handed : (start i n : ℕ) (ls rest : List NetLine) → slice_get (places_from is_port start ls) i ≡ Some n → handed_before (filter is_port ls ++ rest) i ≡ handed_before ls (n - start)
ports-handed start i n [] rest e = cc
ports-handed start i n (l ∷ ls) rest e = at (is_port l) refl i e (λ k f. ports-handed (start + 1) k n ls rest f)
  where
    next : (k : ℕ) → slice_get (places_from is_port (start + 1) ls) k ≡ Some n → n - start ≡ suc (n - (start + 1))
    next k f = let low : start + 1 ≤ n = (places-get is_port (start + 1) ls n (among-get (places_from is_port (start + 1) ls) k n f)).3 in omega arith

    at : (q : Bool) → is_port l ≡ q → (i : ℕ) → slice_get (cond q (start ∷ []) [] ++ places_from is_port (start + 1) ls) i ≡ Some n →
        ((k : ℕ) → slice_get (places_from is_port (start + 1) ls) k ≡ Some n → handed_before (filter is_port ls ++ rest) k ≡ handed_before ls (n - (start + 1))) →
        handed_before (cond q (l ∷ filter is_port ls) (filter is_port ls) ++ rest) i ≡ handed_before (l ∷ ls) (n - start)
    at true is zero e go = let same : start ≡ n = same_Some start n e in let here : 0 ≡ n - start = omega arith in ap (handed_before (l ∷ ls)) here
    at true is (suc k) e go = ap (handed_here (is_handed l.port)) (go k e) ∙ ap (handed_before (l ∷ ls)) (sym (next k e))
    at false is i e go =
        go i e ∙ ap (λ (q : Bool). handed_here q (handed_before ls (n - (start + 1)))) (sym (port-handed l is)) ∙ ap (handed_before (l ∷ ls)) (sym (next i e))
