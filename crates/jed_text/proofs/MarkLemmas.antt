-- The marks of fuses, and how the fields list them.
use Rattle.std.proofs.Common.{ℕ, zero, suc, ◌≡◌, ◌<◌, ◌≤◌, ◌+◌, ◌-◌, Bool, true, false, cond, ◌&&◌, ◌||◌, List, [], ◌∷◌, ◌++◌, map, length, set, Option, Some, None, eqb, leb, ltb, refl, sym, ap, ◌∙◌, arith, add-zero, zero-add, append_assoc, append-nil}
use Rattle.std.specs.Prelude.{not, ◌⊎◌, Result, Ok, replicate, position, slice_get}
use Rattle.std.specs.List.{filter, position_or_len}
use Rattle.std.specs.Option.{option_map}
use Rattle.std.proofs.Common.{inl, inr}
use Rattle.std.proofs.lemmas.Bool.{cases_lt, le-leb, lt-leb, leb-true, eqb-true}
use Rattle.std.proofs.lemmas.Bool.Decides.{nat_tests}
use Rattle.std.proofs.lemmas.List.Folds.{list_any-append}
use Rattle.mig_base.specs.declared.jedec.JedError.{JedError}
use Rattle.mig_base.specs.declared.jedec.JedError.TheVariants.{Address}
use Rattle.mig_base.specs.First.{first_refusal, or_else, unless, made_from, least_from}
use Rattle.mig_base.specs.Bools.{same_bool}
use Rattle.mig_base.specs.FuseText.{Said, Count, Default, Listing, FuseSum, Kept, Other, Formless, Statement, says_state, is_state_at, lists, listed, states_of, is_state, address_refusal, address_refusal_by}
use Rattle.mig_base.proofs.ListLaws.{length-made_from, get_or-made_from}
use Rattle.std.proofs.lemmas.List.{length-map}
use Rattle.std.proofs.lemmas.List.Sums.{length-filter}
use Rattle.std.specs.Prelude.{count_by}
use Rattle.std.proofs.Math.Bool.{or-false, or-true}
use Rattle.jed_text.specs.declared.marks.Mark.{Mark}
use Rattle.jed_text.specs.Marks.{unlisted, with_state, marked, marked_by, marked_in, mark_of, marks_in}

-- lists made of equal values are equal
pub made-same : {T : Type 0} (f g : ℕ → T) (a n : ℕ) → ((j : ℕ) → a ≤ j → f j ≡ g j) → made_from f a n ≡ made_from g a n
made-same f g a zero h = refl
made-same f g a (suc n) h =
    ap (λ x. x ∷ made_from f (a + 1) n) (h a (omega arith))
    ∙ ap (λ xs. g a ∷ xs) (made-same f g (a + 1) n (λ j le. h j (omega arith)))

pub made-map : {T S : Type 0} (f : T → S) (g : ℕ → T) (a n : ℕ) → map f (made_from g a n) ≡ made_from (λ j. f (g j)) a n
made-map f g a zero = refl
made-map f g a (suc n) = ap (λ xs. f (g a) ∷ xs) (made-map f g (a + 1) n)

-- one value of a made list is set
pub made-set : {T : Type 0} (f : ℕ → T) (a n k p : ℕ) (v : T) → p ≡ a + k → k < n → set (made_from f a n) k v ≡ made_from (λ j. cond (eqb j p) v (f j)) a n
made-set f a zero k p v e lt = absurd (omega arith)
made-set f a (suc n) zero p v e lt =
    let here : eqb a p ≡ true = grind (arith, nat_tests) in
    ap (λ x. x ∷ made_from f (a + 1) n) (sym (ap (λ b. cond b v (f a)) here))
    ∙ ap (λ xs. cond (eqb a p) v (f a) ∷ xs) (made-same f (λ j. cond (eqb j p) v (f j)) (a + 1) n (λ j le. sym (ap (λ b. cond b v (f j)) (other j le))))
  where
    other : (j : ℕ) → a + 1 ≤ j → eqb j p ≡ false
    other j le = let ep : p ≡ a = omega arith in grind (arith, nat_tests)
made-set f a (suc n) (suc k) p v e lt =
    let other : eqb a p ≡ false = grind (arith, nat_tests) in
    ap (λ xs. f a ∷ xs) (made-set f (a + 1) n k p v (omega arith) (omega arith))
    ∙ ap (λ x. x ∷ made_from (λ j. cond (eqb j p) v (f j)) (a + 1) n) (sym (ap (λ b. cond b v (f a)) other))

ltb-suc : (a b : ℕ) → ltb (1 + a) (suc b) ≡ ltb a b
ltb-suc a b = at (cases_lt a b)
  where
    at : (a < b) ⊎ (b ≤ a) → ltb (1 + a) (suc b) ≡ ltb a b
    at (inl h) = let e : ltb (1 + a) (suc b) ≡ true = grind (arith, nat_tests) in let f : ltb a b ≡ true = grind (arith, nat_tests) in e ∙ sym f
    at (inr h) = let e : ltb (1 + a) (suc b) ≡ false = grind (arith, nat_tests) in let f : ltb a b ≡ false = grind (arith, nat_tests) in e ∙ sym f

position-cons : {T : Type 0} (p : T → Bool) (x : T) (xs : List T) → position p (x ∷ xs) ≡ cond (p x) (Some 0) (option_map (λ k. 1 + k) (position p xs))
position-cons p x xs = at (p x)
  where
    m : ℕ
    m = position_or_len p xs

    later : (b : Bool) → cond b (Some (1 + m)) None ≡ option_map (λ k. 1 + k) (cond b (Some m) None)
    later true = refl
    later false = refl

    at : (b : Bool) → cond (ltb (cond (not b) (1 + m) 0) (suc (length xs))) (Some (cond (not b) (1 + m) 0)) None ≡ cond b (Some 0) (option_map (λ k. 1 + k) (cond (ltb m (length xs)) (Some m) None))
    at true = let e : ltb 0 (suc (length xs)) ≡ true = grind (arith, nat_tests) in ap (λ b. cond b (Some 0) None) e
    at false = ap (λ b. cond b (Some (1 + m)) None) (ltb-suc m (length xs)) ∙ later (ltb m (length xs))

-- the least number that passes is the place of its value
least-position : {T : Type 0} (p : T → Bool) (f : ℕ → T) (a n : ℕ) → least_from (λ j. p (f j)) a n ≡ option_map (λ k. a + k) (position p (made_from f a n))
least-position p f a zero = refl
least-position p f a (suc n) = at (p (f a)) (least-position p f (a + 1) n) ∙ sym (ap (option_map (λ k. a + k)) (position-cons p (f a) (made_from f (a + 1) n)))
  where
    step : (o : Option ℕ) → option_map (λ k. a + 1 + k) o ≡ option_map (λ k. a + k) (option_map (λ k. 1 + k) o)
    step None = refl
    step (Some k) = let e : a + 1 + k ≡ a + (1 + k) = omega arith in ap Some e

    at : (b : Bool) → least_from (λ j. p (f j)) (a + 1) n ≡ option_map (λ k. a + 1 + k) (position p (made_from f (a + 1) n)) →
        cond b (Some a) (least_from (λ j. p (f j)) (a + 1) n) ≡ option_map (λ k. a + k) (cond b (Some 0) (option_map (λ k. 1 + k) (position p (made_from f (a + 1) n))))
    at true later = ap Some (sym (add-zero a))
    at false later = later ∙ step (position p (made_from f (a + 1) n))

pub made-position : {T : Type 0} (p : T → Bool) (f : ℕ → T) (n : ℕ) → position p (made_from f 0 n) ≡ least_from (λ j. p (f j)) 0 n
made-position p f n = sym (least-position p f 0 n ∙ same (position p (made_from f 0 n)))
  where
    same : (o : Option ℕ) → option_map (λ k. 0 + k) o ≡ o
    same None = refl
    same (Some k) = ap Some (zero-add k)

-- a fuse as it is listed by a field besides
abbrev pub listed_by : Said → ℕ → Mark → Mark
listed_by said j m = record { intact = m.intact || says_state j false said; blown = m.blown || says_state j true said }

-- the first state of a listing is that of its first fuse
says-first : (j first : ℕ) (t s : Bool) (ss : List Bool) → says_state j t (Listing first (s ∷ ss)) ≡ cond (eqb j first) (same_bool t s) (says_state j t (Listing (first + 1) ss))
says-first j first t s ss = at (cases_lt j first) (cases_lt first j)
  where
    whole : Bool → Bool → Bool → ℕ → Type 0
    whole l e m k = (l && is_state_at t (slice_get (s ∷ ss) k)) ≡ cond e (same_bool t s) (m && is_state_at t (slice_get ss (j - (first + 1))))

    by : (l e m : Bool) (k : ℕ) → leb first j ≡ l → eqb j first ≡ e → leb (first + 1) j ≡ m → j - first ≡ k →
        (l && is_state_at t (slice_get (s ∷ ss) k)) ≡ cond e (same_bool t s) (m && is_state_at t (slice_get ss (j - (first + 1)))) →
        says_state j t (Listing first (s ∷ ss)) ≡ cond (eqb j first) (same_bool t s) (says_state j t (Listing (first + 1) ss))
    by l e m k el ee em ek h =
        ap (λ b. b && is_state_at t (slice_get (s ∷ ss) (j - first))) el ∙ ap (λ n. l && is_state_at t (slice_get (s ∷ ss) n)) ek ∙ h
        ∙ sym (ap (λ b. cond b (same_bool t s) (says_state j t (Listing (first + 1) ss))) ee ∙ ap (λ b. cond e (same_bool t s) (b && is_state_at t (slice_get ss (j - (first + 1))))) em)

    at : (j < first) ⊎ (first ≤ j) → (first < j) ⊎ (j ≤ first) → says_state j t (Listing first (s ∷ ss)) ≡ cond (eqb j first) (same_bool t s) (says_state j t (Listing (first + 1) ss))
    at (inl lt) c = by false false false (j - first) (lt-leb first j lt) (grind (arith, nat_tests)) (lt-leb (first + 1) j (omega arith)) refl refl
    at (inr ge) (inl lt) = by true false true (suc (j - (first + 1))) (le-leb first j ge) (grind (arith, nat_tests)) (le-leb (first + 1) j (omega arith)) (omega arith) refl
    at (inr ge) (inr le) = by true true (leb (first + 1) j) 0 (le-leb first j ge) (grind (arith, nat_tests)) refl (omega arith) refl

says-later : (first : ℕ) (t : Bool) (ss : List Bool) → says_state first t (Listing (first + 1) ss) ≡ false
says-later first t ss = let e : leb (first + 1) first ≡ false = lt-leb (first + 1) first (omega arith) in ap (λ b. b && is_state_at t (slice_get ss (first - (first + 1)))) e

says-none : (j first : ℕ) (t : Bool) → says_state j t (Listing first []) ≡ false
says-none j first t = at (leb first j)
  where
    at : (b : Bool) → (b && false) ≡ false
    at true = refl
    at false = refl

mark-same : (m : Mark) (a b : Bool) → m.intact ≡ a → m.blown ≡ b → m ≡ record { intact = a; blown = b }
mark-same m a b ea eb = ap (λ x. let n : Mark = record { intact = x; blown = m.blown } in n) ea ∙ ap (λ y. let n : Mark = record { intact = a; blown = y } in n) eb

listed-none : (m : Mark) (a b : Bool) → a ≡ false → b ≡ false → m ≡ record { intact = m.intact || a; blown = m.blown || b }
listed-none m a b ea eb = mark-same m (m.intact || a) (m.blown || b) (sym (ap (λ x. m.intact || x) ea ∙ or-false m.intact)) (sym (ap (λ x. m.blown || x) eb ∙ or-false m.blown))

-- a mark after the first state and then the others
listed-first : (f : ℕ → Mark) (first : ℕ) (s : Bool) (ss : List Bool) (j : ℕ) →
    listed_by (Listing (first + 1) ss) j (cond (eqb j first) (with_state s (f first)) (f j)) ≡ listed_by (Listing first (s ∷ ss)) j (f j)
listed-first f first s ss j =
    at (eqb j first) refl
    ∙ sym (ap (λ x. let n : Mark = record { intact = (f j).intact || x; blown = (f j).blown || says_state j true (Listing first (s ∷ ss)) } in n) (says-first j first false s ss)
    ∙ ap (λ y. let n : Mark = record { intact = (f j).intact || cond (eqb j first) (same_bool false s) (says_state j false (Listing (first + 1) ss)); blown = (f j).blown || y } in n) (says-first j first true s ss))
  where
    here : (s : Bool) (m : Mark) → with_state s m ≡ record { intact = m.intact || same_bool false s; blown = m.blown || same_bool true s }
    here true m = mark-same (with_state true m) (m.intact || false) (m.blown || true) (sym (or-false m.intact)) (sym (or-true m.blown))
    here false m = mark-same (with_state false m) (m.intact || true) (m.blown || false) (sym (or-true m.intact)) (sym (or-false m.blown))

    at : (b : Bool) → eqb j first ≡ b → listed_by (Listing (first + 1) ss) j (cond b (with_state s (f first)) (f j)) ≡ record {
      intact = (f j).intact || cond b (same_bool false s) (says_state j false (Listing (first + 1) ss));
      blown = (f j).blown || cond b (same_bool true s) (says_state j true (Listing (first + 1) ss));
    }
    at false e = refl
    at true e =
        let same : j ≡ first = eqb-true j first e in
        sym (listed-none (with_state s (f first)) (says_state j false (Listing (first + 1) ss)) (says_state j true (Listing (first + 1) ss))
        (ap (λ k. says_state k false (Listing (first + 1) ss)) same ∙ says-later first false ss) (ap (λ k. says_state k true (Listing (first + 1) ss)) same ∙ says-later first true ss))
        ∙ ap (λ k. with_state s (f k)) (sym same) ∙ here s (f j)

-- the marks when fuses are listed from one on
pub made-marked : (f : ℕ → Mark) (n first : ℕ) (ss : List Bool) → first + length ss ≤ n → marked (made_from f 0 n) first ss ≡ made_from (λ j. listed_by (Listing first ss) j (f j)) 0 n
made-marked f n first [] fits =
    made-same f (λ j. listed_by (Listing first []) j (f j)) 0 n (λ j le. listed-none (f j) (says_state j false (Listing first [])) (says_state j true (Listing first [])) (says-none j first false) (says-none j first true))
made-marked f n first (s ∷ ss) fits =
    ap (λ v. marked (set (made_from f 0 n) first (with_state s v)) (first + 1) ss) (get_or-made_from f 0 n first unlisted (omega arith) ∙ ap f (zero-add first))
    ∙ ap (λ ms. marked ms (first + 1) ss) (made-set f 0 n first first (with_state s (f first)) (omega arith) (omega arith))
    ∙ made-marked (λ j. cond (eqb j first) (with_state s (f first)) (f j)) n (first + 1) ss (omega arith)
    ∙ made-same (λ j. listed_by (Listing (first + 1) ss) j (cond (eqb j first) (with_state s (f first)) (f j))) (λ j. listed_by (Listing first (s ∷ ss)) j (f j)) 0 n (λ j le. listed-first f first s ss j)

lists-more : (fields : List Statement) (f : Statement) (j : ℕ) → mark_of (fields ++ f ∷ []) j ≡ listed_by f.says j (mark_of fields j)
lists-more fields f j = mark-same (mark_of (fields ++ f ∷ []) j) ((mark_of fields j).intact || says_state j false f.says) ((mark_of fields j).blown || says_state j true f.says) (more false) (more true)
  where
    more : (t : Bool) → listed (fields ++ f ∷ []) j t ≡ (listed fields j t || says_state j t f.says)
    more t = list_any-append (lists j t) fields (f ∷ []) ∙ ap (λ b. listed fields j t || b) (or-false (says_state j t f.says))

cond-none : (b : Bool) (e : JedError) → cond b None (Some e) ≡ None → b ≡ true
cond-none true e h = refl
cond-none false e h = cc

-- the marks when one more field is counted in
by-said : (f : ℕ → Mark) (n place : ℕ) (said : Said) → address_refusal_by n place said ≡ None → marked_by (made_from f 0 n) said ≡ made_from (λ j. listed_by said j (f j)) 0 n
by-said f n place (Listing first states) h = made-marked f n first states (leb-true (first + length states) n (cond-none (leb (first + length states) n) (Address place) h))
by-said f n place (Count m) h = made-same f (λ j. listed_by (Count m) j (f j)) 0 n (λ j le. listed-none (f j) false false refl refl)
by-said f n place (Default s) h = made-same f (λ j. listed_by (Default s) j (f j)) 0 n (λ j le. listed-none (f j) false false refl refl)
by-said f n place (FuseSum m) h = made-same f (λ j. listed_by (FuseSum m) j (f j)) 0 n (λ j le. listed-none (f j) false false refl refl)
by-said f n place Kept h = made-same f (λ j. listed_by Kept j (f j)) 0 n (λ j le. listed-none (f j) false false refl refl)
by-said f n place Other h = made-same f (λ j. listed_by Other j (f j)) 0 n (λ j le. listed-none (f j) false false refl refl)
by-said f n place Formless h = made-same f (λ j. listed_by Formless j (f j)) 0 n (λ j le. listed-none (f j) false false refl refl)

pub marks-more : (fields : List Statement) (f : Statement) (n : ℕ) → address_refusal n f ≡ None → marked_by (marks_in fields n) f.says ≡ marks_in (fields ++ f ∷ []) n
marks-more fields f n h =
    by-said (mark_of fields) n f.at f.says h
    ∙ made-same (λ j. listed_by f.says j (mark_of fields j)) (mark_of (fields ++ f ∷ [])) 0 n (λ j le. sym (lists-more fields f j))

pub marks-start : (n : ℕ) → replicate n unlisted ≡ marks_in [] n
marks-start n = from 0 n
  where
    from : (a n : ℕ) → replicate n unlisted ≡ made_from (mark_of []) a n
    from a zero = refl
    from a (suc n) = ap (λ ms. unlisted ∷ ms) (from (a + 1) n)

-- the marks with those of these fields besides, unless one goes past the fuses
abbrev pub marked_on : ℕ → List Mark → List Statement → Result (List Mark) JedError
marked_on count marks [] = Ok marks
marked_on count marks (f ∷ fs) = unless (address_refusal count f) (marked_on count (marked_by marks f.says) fs)

-- the marks of some fields, and then of the others
marked_rest : (count : ℕ) (before fields : List Statement) →
    marked_on count (marks_in before count) fields ≡ unless (first_refusal (λ b f. address_refusal count f) before fields) (Ok (marks_in (before ++ fields) count))
marked_rest count before [] = ap (λ fs. let r : Result (List Mark) JedError = Ok (marks_in fs count) in r) (sym (append-nil before))
marked_rest count before (f ∷ fs) = at (address_refusal count f) refl (marked_rest count (before ++ f ∷ []) fs)
  where
    later : Option JedError
    later = first_refusal (λ b g. address_refusal count g) (before ++ f ∷ []) fs

    at : (o : Option JedError) → address_refusal count f ≡ o →
        marked_on count (marks_in (before ++ f ∷ []) count) fs ≡ unless later (Ok (marks_in ((before ++ f ∷ []) ++ fs) count)) →
        unless o (marked_on count (marked_by (marks_in before count) f.says) fs) ≡ unless (or_else o later) (Ok (marks_in (before ++ f ∷ fs) count))
    at (Some e) h rest = refl
    at None h rest =
        ap (λ marks. marked_on count marks fs) (marks-more before f count h) ∙ rest
        ∙ ap (λ all. unless later (let r : Result (List Mark) JedError = Ok (marks_in all count) in r)) (append_assoc before (f ∷ []) fs)

-- the marks that a loop begins with
pub marked-start : (count : ℕ) (fields : List Statement) → marked_on count (replicate count unlisted) fields ≡ marked_in count fields
marked-start count fields = ap (λ marks. marked_on count marks fields) (marks-start count) ∙ marked_rest count [] fields

-- the end of a listing that is no longer than the fuses
pub end-within : (first states count : ℕ) → states ≤ count → leb first (count - states) ≡ leb (first + states) count
end-within first states count h = at (cases_lt count (first + states))
  where
    at : (count < first + states) ⊎ (first + states ≤ count) → leb first (count - states) ≡ leb (first + states) count
    at (inl lt) = lt-leb first (count - states) (omega arith) ∙ sym (lt-leb (first + states) count lt)
    at (inr le) = le-leb first (count - states) (omega arith) ∙ sym (le-leb (first + states) count le)

pub states-count : (text : List ℕ) → length (states_of text) ≡ count_by is_state text
states-count text = length-map (filter is_state text) (λ b. eqb b 49) ∙ length-filter is_state text

pub marks-length : (fields : List Statement) (n : ℕ) → length (marks_in fields n) ≡ n
marks-length fields n = length-made_from (mark_of fields) 0 n
