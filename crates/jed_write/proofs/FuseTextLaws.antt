-- What is written is read back.
use Rattle.std.proofs.Common.{ℕ, zero, suc, ◌≡◌, ◌<◌, ◌≤◌, ◌+◌, ◌-◌, ◌/◌, ◌%◌, Bool, true, false, cond, ◌&&◌, ◌||◌, List, [], ◌∷◌, ◌++◌, map, length, Option, Some, None, leb, refl, sym, ap, ◌∙◌, arith, append_assoc}
use Rattle.std.specs.Prelude.{if◌then◌else◌}
use Rattle.std.specs.List.{flat_map, AllByRecursion, slice_get, list_all, list_any}
use Rattle.std.proofs.lemmas.Option.{slice_get_past}
use Rattle.std.specs.Prelude.{◌⊎◌}
use Rattle.std.proofs.Common.{inl, inr, zero-add}
use Rattle.std.proofs.lemmas.Bool.{cases_lt}
use Rattle.std.proofs.lemmas.List.Folds.{list_any-append}
use Rattle.std.proofs.lemmas.Bool.Decides.{nat_tests}
use Rattle.mig_base.specs.FuseText.{Lacks, is_blank, skip_blanks, cut_at, with_front, pieces, Said, Listing, Formless, or_formless, is_state, states_of, listing_after, said_by, fields_from, is_state_at, says_state, statement_of}
use Rattle.mig_base.specs.Numbers.{digit_value, digits_on, digits_of, in_base, number_at}
use Rattle.mig_base.specs.WrittenFuses.{four_digits, state_digit, Group, listing_line, states_of_groups, written_line}

pub cut_at-append : (b : ℕ) (front rest : List ℕ) → Lacks b front → cut_at b (front ++ b ∷ rest) ≡ Some (front, rest)
cut_at-append b [] rest h = grind (arith, nat_tests)
cut_at-append b (x ∷ xs) rest h = rw (h.0, cut_at-append b xs rest h.1) refl

pub pieces-append : (front rest : List ℕ) → Lacks 42 front → pieces (front ++ 42 ∷ rest) ≡ front ∷ pieces rest
pieces-append [] rest h = refl
pieces-append (x ∷ xs) rest h = rw (h.0, pieces-append xs rest h.1) refl

-- the pieces of written lines begin with LF, but for the first
abbrev pub after_line : List (List ℕ) → List (List ℕ)
after_line [] = (10 ∷ []) ∷ []
after_line (l ∷ ls) = (10 ∷ l) ∷ after_line ls

pub pieces-lines : (lines : List (List ℕ)) → AllByRecursion (Lacks 42) lines → pieces (10 ∷ flat_map written_line lines) ≡ after_line lines
pieces-lines [] h = refl
pieces-lines (l ∷ ls) h = ap (λ t. with_front 10 (pieces t)) (append_assoc l (42 ∷ 10 ∷ []) (flat_map written_line ls))
    ∙ ap (with_front 10) (pieces-append l (10 ∷ flat_map written_line ls) h.0)
    ∙ ap (λ ps. (10 ∷ l) ∷ ps) (pieces-lines ls h.1)

-- a number of four digits is read back
pub four-digits : (n : ℕ) → n < 10000 → in_base 10 0 ((n / 1000 % 10) ∷ (n / 100 % 10) ∷ (n / 10 % 10) ∷ (n % 10) ∷ []) ≡ n
four-digits n h = omega arith

pub digit-value : (d : ℕ) → d < 10 → digit_value (48 + d) ≡ Some d
digit-value d h = grind (arith, nat_tests)

-- a line begins with what is no blank
pub record Begins (line : List ℕ) : Type 0 where
  pub skipped : skip_blanks line ≡ line

pub fields-lines : (at : ℕ) (lines : List (List ℕ)) → AllByRecursion Begins lines → map (λ f. f.says) (map statement_of (fields_from at (after_line lines))) ≡ map said_by lines
fields-lines at [] h = refl
fields-lines at (l ∷ []) h = ap (λ t. said_by t ∷ []) h.0.skipped
fields-lines at (l ∷ m ∷ ms) h =
    ap (λ t. said_by t ∷ map (λ f. f.says) (map statement_of (fields_from (at + length (10 ∷ l) + 1) (after_line (m ∷ ms))))) h.0.skipped
    ∙ ap (λ rest. said_by l ∷ rest) (fields-lines (at + length (10 ∷ l) + 1) (m ∷ ms) h.1)

-- what the written groups say
abbrev pub group_says : ℕ → List Group → List Said
group_says first [] = []
group_says first (g ∷ gs) =
    (if g.always || list_any (λ s. s) g.states then Listing first g.states ∷ [] else []) ++ group_says (first + length g.states) gs

pub states-digits : (states : List Bool) → states_of (map state_digit states) ≡ states
states-digits [] = refl
states-digits (true ∷ ss) = ap (λ rest. true ∷ rest) (states-digits ss)
states-digits (false ∷ ss) = ap (λ rest. false ∷ rest) (states-digits ss)

pub all-digits : (states : List Bool) → list_all (λ c. is_blank c || is_state c) (map state_digit states) ≡ true
all-digits [] = refl
all-digits (true ∷ ss) = all-digits ss
all-digits (false ∷ ss) = all-digits ss

pub digits-step : (d : ℕ) (bs ds rest : List ℕ) → d < 10 → digits_of digit_value bs ≡ (ds, rest) → digits_of digit_value ((48 + d) ∷ bs) ≡ (d ∷ ds, rest)
digits-step d bs ds rest h f =
    ap (λ o. digits_on o (48 + d) bs (digits_of digit_value bs)) (digit-value d h) ∙ ap (digits_on (Some d) (48 + d) bs) f

pub digits-four : (n : ℕ) (rest : List ℕ) → digits_of digit_value rest ≡ ([], rest) →
    digits_of digit_value (four_digits n ++ rest) ≡ ((n / 1000 % 10) ∷ (n / 100 % 10) ∷ (n / 10 % 10) ∷ (n % 10) ∷ [], rest)
digits-four n rest e =
    let a = n / 1000 % 10 in
    let b = n / 100 % 10 in
    let c = n / 10 % 10 in
    let d = n % 10 in
    digits-step a ((48 + b) ∷ (48 + c) ∷ (48 + d) ∷ rest) (b ∷ c ∷ d ∷ []) rest (omega arith)
    (digits-step b ((48 + c) ∷ (48 + d) ∷ rest) (c ∷ d ∷ []) rest (omega arith)
    (digits-step c ((48 + d) ∷ rest) (d ∷ []) rest (omega arith)
    (digits-step d rest [] rest (omega arith) e)))

pub number-four : (n : ℕ) (rest : List ℕ) → n < 10000 → digits_of digit_value rest ≡ ([], rest) → number_at digit_value 10 9 (four_digits n ++ rest) ≡ Some (n, rest)
number-four n rest h e = ap read (digits-four n rest e) ∙ ap (λ m. Some (m, rest)) (four-digits n h)
  where
    read : List ℕ × List ℕ → Option (ℕ × List ℕ)
    read ds = if leb 1 (length ds.0) && leb (length ds.0) 9 then Some (in_base 10 0 ds.0, ds.1) else None

pub digit-no_blank : (d : ℕ) → is_blank (48 + d) ≡ false
digit-no_blank d = grind (arith, nat_tests)

pub skip-digits : (n : ℕ) (rest : List ℕ) → skip_blanks (four_digits n ++ rest) ≡ four_digits n ++ rest
skip-digits n rest = rw digit-no_blank refl

pub said-listing : (first : ℕ) (states : List Bool) → first < 10000 → said_by (listing_line first states) ≡ Listing first states
said-listing first states h =
    ap (λ t. or_formless (λ n. listing_after n.0 n.1) (number_at digit_value 10 9 t)) (skip-digits first (32 ∷ map state_digit states))
    ∙ ap (or_formless (λ n. listing_after n.0 n.1)) (number-four first (32 ∷ map state_digit states) h refl)
    ∙ ap (λ b. cond b (Listing first (states_of (map state_digit states))) Formless) (all-digits states)
    ∙ ap (Listing first) (states-digits states)

-- where a listing isn't of this fuse
pub says-outside : (k first : ℕ) (state : Bool) (states : List Bool) → (k < first) ⊎ (first + length states ≤ k) →
    says_state k state (Listing first states) ≡ false
says-outside k first state states (inl h) = let e : leb first k ≡ false = grind (arith, nat_tests) in rw e refl
says-outside k first state states (inr h) =
    ap (λ o. leb first k && is_state_at state o) (slice_get_past states (k - first) (omega arith)) ∙ and-false (leb first k)
  where
    and-false : (b : Bool) → (b && false) ≡ false
    and-false true = refl
    and-false false = refl

pub says-inside : (i first : ℕ) (state : Bool) (states : List Bool) → says_state (first + i) state (Listing first states) ≡ is_state_at state (slice_get states i)
says-inside i first state states =
    let le : leb first (first + i) ≡ true = grind (arith, nat_tests) in
    let same : first + i - first ≡ i = omega arith in
    ap (λ b. b && is_state_at state (slice_get states (first + i - first))) le ∙ ap (λ j. is_state_at state (slice_get states j)) same

abbrev pub any_says : ℕ → Bool → List Said → Bool
any_says k state ss = list_any (says_state k state) ss

-- no group that begins behind a fuse lists it
pub groups-outside : (k first : ℕ) (state : Bool) (gs : List Group) → k < first → any_says k state (group_says first gs) ≡ false
groups-outside k first state [] h = refl
groups-outside k first state (g ∷ gs) h =
    list_any-append (says_state k state) (if g.always || list_any (λ s. s) g.states then Listing first g.states ∷ [] else []) (group_says (first + length g.states) gs)
    ∙ ap (λ b. b || any_says k state (group_says (first + length g.states) gs)) (here (g.always || list_any (λ s. s) g.states))
    ∙ groups-outside k (first + length g.states) state gs (omega arith)
  where
    here : (b : Bool) → any_says k state (if b then Listing first g.states ∷ [] else []) ≡ false
    here true = ap (λ b. b || false) (says-outside k first state g.states (inl h))
    here false = refl

pub none-set : (states : List Bool) (i : ℕ) → list_any (λ s. s) states ≡ false → is_state_at true (slice_get states i) ≡ false
none-set [] i h = refl
none-set (true ∷ ss) i h = cc
none-set (false ∷ ss) zero h = refl
none-set (false ∷ ss) (suc i) h = none-set ss i h

pub slice_get-append-left : (xs ys : List Bool) (i : ℕ) → i < length xs → slice_get (xs ++ ys) i ≡ slice_get xs i
slice_get-append-left [] ys i h = absurd (omega arith)
slice_get-append-left (x ∷ xs) ys zero h = refl
slice_get-append-left (x ∷ xs) ys (suc i) h = slice_get-append-left xs ys i (omega arith)

pub slice_get-append-right : (xs ys : List Bool) (i : ℕ) → slice_get (xs ++ ys) (length xs + i) ≡ slice_get ys i
slice_get-append-right [] ys i = ap (slice_get ys) (zero-add i)
slice_get-append-right (x ∷ xs) ys i = let e : length (x ∷ xs) + i ≡ suc (length xs + i) = omega arith in
    ap (slice_get (x ∷ xs ++ ys)) e ∙ slice_get-append-right xs ys i

-- the groups list a fuse as set exactly where it is set
pub groups-set : (i first : ℕ) (gs : List Group) → any_says (first + i) true (group_says first gs) ≡ is_state_at true (slice_get (states_of_groups gs) i)
groups-set i first [] = refl
groups-set i first (g ∷ gs) =
    list_any-append (says_state (first + i) true) (if g.always || list_any (λ s. s) g.states then Listing first g.states ∷ [] else []) (group_says (first + length g.states) gs)
    ∙ elim-lt (λ j. groups-set j (first + length g.states) gs) (cases_lt i (length g.states))
  where
    rest : List Said
    rest = group_says (first + length g.states) gs

    written : Bool → List Said
    written b = if b then Listing first g.states ∷ [] else []

    or-false : (b : Bool) → (b || false) ≡ b
    or-false true = refl
    or-false false = refl

    here : (b : Bool) → b ≡ (g.always || list_any (λ s. s) g.states) → any_says (first + i) true (written b) ≡ is_state_at true (slice_get g.states i)
    here true e = or-false _ ∙ says-inside i first true g.states
    here false e = sym (none-set g.states i (second g.always (list_any (λ s. s) g.states) (sym e)))
      where
        second : (a b : Bool) → (a || b) ≡ false → b ≡ false
        second true b e = cc
        second false b e = e

    elim-lt : ((j : ℕ) → any_says (first + length g.states + j) true rest ≡ is_state_at true (slice_get (states_of_groups gs) j)) → (i < length g.states) ⊎ (length g.states ≤ i) →
        (any_says (first + i) true (written (g.always || list_any (λ s. s) g.states)) || any_says (first + i) true rest) ≡ is_state_at true (slice_get (g.states ++ states_of_groups gs) i)
    elim-lt later (inl h) =
        ap (λ b. any_says (first + i) true (written (g.always || list_any (λ s. s) g.states)) || b) (groups-outside (first + i) (first + length g.states) true gs (omega arith))
        ∙ or-false _ ∙ here (g.always || list_any (λ s. s) g.states) refl
        ∙ sym (ap (is_state_at true) (slice_get-append-left g.states (states_of_groups gs) i h))
    elim-lt later (inr h) =
        let past : slice_get g.states i ≡ None = slice_get_past g.states i h in
        let j : length g.states + (i - length g.states) ≡ i = omega arith in
        let k : first + length g.states + (i - length g.states) ≡ first + i = omega arith in
        ap (λ b. b || any_says (first + i) true rest) (here (g.always || list_any (λ s. s) g.states) refl ∙ ap (is_state_at true) past)
        ∙ sym (ap (λ q. any_says q true rest) k) ∙ later (i - length g.states)
        ∙ sym (ap (is_state_at true) (ap (slice_get (g.states ++ states_of_groups gs)) (sym j) ∙ slice_get-append-right g.states (states_of_groups gs) (i - length g.states)))
