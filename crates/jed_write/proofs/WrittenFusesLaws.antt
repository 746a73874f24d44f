-- The fuses_of_text of a written text are those that were written.
use Rattle.std.proofs.Common.{ℕ, zero, suc, ◌≡◌, ◌<◌, ◌≤◌, ◌+◌, ◌-◌, ◌/◌, ◌%◌, Bool, true, false, cond, ◌&&◌, ◌||◌, List, [], ◌∷◌, ◌++◌, map, length, sum, Option, Some, None, Result, Ok, eqb, leb, refl, sym, ap, ◌∙◌, arith, append_assoc}
use Rattle.std.specs.Prelude.{unwrap_or, if◌then◌else◌}
use Rattle.std.specs.List.{flat_map, AllByRecursion, slice_get, list_any}
use Rattle.std.specs.Option.{option_map}
use Rattle.std.specs.Prelude.{◌⊎◌}
use Rattle.std.proofs.Common.{inl, inr, zero-add, add-zero}
use Rattle.std.proofs.lemmas.Bool.{cases_lt}
use Rattle.std.proofs.lemmas.List.Folds.{list_any-append}
use Rattle.std.proofs.lemmas.Bool.Decides.{nat_tests}
use Rattle.mig_base.specs.FuseText.{Lacks, is_blank, skip_blanks, cut_at, pieces, Said, Count, Default, Listing, FuseSum, Kept, Other, Formless, or_formless, said_by, Statement, fields_from, fields_of, counts, defaults, any_before, field_refusal_by, field_refusal, count_or, count_in, default_or, default_in, listed, address_refusal_by, address_refusal, is_state_at, says_state, fuse_sum, sum_refusal_by, sum_refusal, state_of, states_in, checked_sum, fuses_in, twice_refusal, unset_refusal, fuses_of_count, tail_refusal, fuses_between, fuses_of_text, loose_from, loose_of, statement_of}
use Rattle.mig_base.specs.Numbers.{digit_value, hex_value, digits_on, digits_of, in_base, number_at}
use Rattle.mig_base.specs.WrittenFuses.{four_digits, hex_digit, four_hex, state_digit, Group, listing_line, group_lines, states_of_groups, written_line, written_body, written_text}
use Rattle.std.proofs.lemmas.Bool.{le-leb}
use Rattle.std.proofs.Common.{length-append, eq-eqb}
use Rattle.std.specs.Prelude.{codes}
use Rattle.std.proofs.Math.Bool.{or-false}
use Rattle.std.proofs.lemmas.List.{map-append}
use Rattle.mig_base.specs.FuseText.{if_blank, if_four, said_refusal}
use Rattle.mig_base.specs.declared.jedec.JedError.TheVariants.{BadSum}
use Rattle.mig_base.specs.declared.jedec.JedError.{JedError}
use Rattle.mig_base.specs.declared.jedec.JedError.TheVariants.{Address, BadFuseSum, CountTwice, CountOver, DefaultTwice, FuseTwice, NoCount, NoStx, NoEtx}
use Rattle.mig_base.specs.First.{or_else, first_refusal, unless, needed, least_from, made_from}
use Rattle.mig_base.proofs.ListLaws.{all-append}
use Rattle.jed_write.proofs.FuseTextLaws.{cut_at-append, pieces-append, after_line, pieces-lines, Begins, fields-lines, group_says, said-listing, number-four, skip-digits, says-outside, says-inside, any_says, groups-outside, groups-set, slice_get-append-left, slice_get-append-right}

listed-says : (k : ℕ) (state : Bool) (fs : List Statement) → listed fs k state ≡ any_says k state (map (λ f. f.says) fs)
listed-says k state [] = refl
listed-says k state (f ∷ fs) = ap (λ b. says_state k state f.says || b) (listed-says k state fs)

clear-at : (o : Option Bool) → is_state_at false o ≡ true → is_state_at true o ≡ false
clear-at None h = refl
clear-at (Some true) h = cc
clear-at (Some false) h = refl

-- where a group lists a fuse as 0, it is 0
groups-clear : (i first : ℕ) (gs : List Group) → any_says (first + i) false (group_says first gs) ≡ true → is_state_at true (slice_get (states_of_groups gs) i) ≡ false
groups-clear i first [] h = refl
groups-clear i first (g ∷ gs) h =
    step (λ j. groups-clear j (first + length g.states) gs) (cases_lt i (length g.states))
    (sym (list_any-append (says_state (first + i) false) (written (g.always || list_any (λ s. s) g.states)) (group_says (first + length g.states) gs)) ∙ h)
  where
    written : Bool → List Said
    written b = if b then Listing first g.states ∷ [] else []

    none : (b : Bool) → (any_says (first + i) false (if b then Listing first g.states ∷ [] else [])) ≡ true → is_state_at false (slice_get g.states i) ≡ true
    none true e = sym (says-inside i first false g.states) ∙ sym (or-false (says_state (first + i) false (Listing first g.states))) ∙ e
    none false e = cc

    step : ((j : ℕ) → any_says (first + length g.states + j) false (group_says (first + length g.states) gs) ≡ true → is_state_at true (slice_get (states_of_groups gs) j) ≡ false) →
        (i < length g.states) ⊎ (length g.states ≤ i) →
        (any_says (first + i) false (written (g.always || list_any (λ s. s) g.states)) || any_says (first + i) false (group_says (first + length g.states) gs)) ≡ true →
        is_state_at true (slice_get (g.states ++ states_of_groups gs) i) ≡ false
    step later (inl lt) e =
        let out : any_says (first + i) false (group_says (first + length g.states) gs) ≡ false = groups-outside (first + i) (first + length g.states) false gs (omega arith) in
        let here : any_says (first + i) false (written (g.always || list_any (λ s. s) g.states)) ≡ true =
        sym (or-false (any_says (first + i) false (written (g.always || list_any (λ s. s) g.states)))) ∙ sym (ap (λ b. any_says (first + i) false (written (g.always || list_any (λ s. s) g.states)) || b) out) ∙ e in
        ap (is_state_at true) (slice_get-append-left g.states (states_of_groups gs) i lt) ∙ clear-at (slice_get g.states i) (none (g.always || list_any (λ s. s) g.states) here)
    step later (inr ge) e =
        let j : length g.states + (i - length g.states) ≡ i = omega arith in
        let k : first + length g.states + (i - length g.states) ≡ first + i = omega arith in
        ap (is_state_at true) (ap (slice_get (g.states ++ states_of_groups gs)) (sym j) ∙ slice_get-append-right g.states (states_of_groups gs) (i - length g.states))
        ∙ later (i - length g.states) (ap (λ q. any_says q false (group_says (first + length g.states) gs)) k ∙ rest (g.always || list_any (λ s. s) g.states) e)
      where
        out : (b : Bool) → any_says (first + i) false (if b then Listing first g.states ∷ [] else []) ≡ false
        out true = or-false (says_state (first + i) false (Listing first g.states)) ∙ says-outside (first + i) first false g.states (inr (omega arith))
        out false = refl

        rest : (b : Bool) → (any_says (first + i) false (if b then Listing first g.states ∷ [] else []) || any_says (first + i) false (group_says (first + length g.states) gs)) ≡ true →
            any_says (first + i) false (group_says (first + length g.states) gs) ≡ true
        rest b e = sym (ap (λ a. a || any_says (first + i) false (group_says (first + length g.states) gs)) (out b)) ∙ e

-- what the fields of a written text say
abbrev pub written_says : ℕ → ℕ → List Group → List Said
written_says n v gs = Other ∷ Count n ∷ Other ∷ Default false ∷ group_says 0 gs ++ FuseSum v ∷ []

any-written : (n v k : ℕ) (state : Bool) (gs : List Group) → any_says k state (written_says n v gs) ≡ any_says k state (group_says 0 gs)
any-written n v k state gs = list_any-append (says_state k state) (group_says 0 gs) (FuseSum v ∷ []) ∙ or-false (any_says k state (group_says 0 gs))

set-written : (n v k : ℕ) (gs : List Group) → any_says k true (written_says n v gs) ≡ is_state_at true (slice_get (states_of_groups gs) k)
set-written n v k gs = any-written n v k true gs ∙ ap (λ q. any_says q true (group_says 0 gs)) (sym (zero-add k)) ∙ groups-set k 0 gs

both-written : (n v k : ℕ) (gs : List Group) → (any_says k true (written_says n v gs) && any_says k false (written_says n v gs)) ≡ false
both-written n v k gs = at (any_says k false (written_says n v gs)) refl
  where
    and-false : (b : Bool) → (b && false) ≡ false
    and-false true = refl
    and-false false = refl

    at : (b : Bool) → any_says k false (written_says n v gs) ≡ b → (any_says k true (written_says n v gs) && b) ≡ false
    at false e = and-false _
    at true e = ap (λ a. a && true) (set-written n v k gs ∙ groups-clear k 0 gs (ap (λ q. any_says q false (group_says 0 gs)) (zero-add k) ∙ sym (any-written n v k false gs) ∙ e))

made-states : (f : ℕ → Bool) (start : ℕ) (bits : List Bool) → ((i : ℕ) → i < length bits → f (start + i) ≡ is_state_at true (slice_get bits i)) → made_from f start (length bits) ≡ bits
made-states f start [] h = refl
made-states f start (b ∷ bs) h =
    ap (λ a. a ∷ made_from f (start + 1) (length bs)) (ap f (sym (add-zero start)) ∙ h 0 (omega arith))
    ∙ ap (λ rest. b ∷ rest) (made-states f (start + 1) bs (λ i lt. let e : start + 1 + i ≡ start + suc i = omega arith in ap f e ∙ h (suc i) (omega arith)))

least-none : (test : ℕ → Bool) → ((k : ℕ) → test k ≡ false) → (start n : ℕ) → least_from test start n ≡ None
least-none test h start zero = refl
least-none test h start (suc n) = ap (λ b. cond b (Some start) (least_from test (start + 1) n)) (h start) ∙ least-none test h (start + 1) n

or-none : {E : Type 0} (a b : Option E) → a ≡ None → b ≡ None → or_else a b ≡ None
or-none a b ea eb = ap (λ q. or_else q b) ea ∙ eb

-- nothing is refused where each field says what can't be refused
says-none : (judge : ℕ → Said → Option JedError) (fs : List Statement) (ss : List Said) (before : List Statement) → map (λ f. f.says) fs ≡ ss →
    AllByRecursion (λ s. (at : ℕ) → judge at s ≡ None) ss → first_refusal (λ before f. judge f.at f.says) before fs ≡ None
says-none judge [] ss before e h = refl
says-none judge (f ∷ fs) [] before e h = cc
says-none judge (f ∷ fs) (s ∷ ss) before e h =
    let here : f.says ≡ s = cc in
    let rest : map (λ f. f.says) fs ≡ ss = cc in
    or-none _ _ (ap (judge f.at) here ∙ h.0 f.at) (says-none judge fs ss (before ++ f ∷ []) rest h.1)

abbrev pub IsQuiet : Said → Type 0
IsQuiet (Listing first states) = Unit {0}
IsQuiet (FuseSum v) = Unit {0}
IsQuiet _ = ⊥

quiet-none : (s : Said) → IsQuiet s → (counted defaulted : Bool) (at : ℕ) → field_refusal_by counted defaulted at s ≡ None
quiet-none (Listing first states) h counted defaulted at = refl
quiet-none (FuseSum v) h counted defaulted at = refl
quiet-none (Count n) h counted defaulted at = absurd h
quiet-none (Default s) h counted defaulted at = absurd h
quiet-none Kept h counted defaulted at = absurd h
quiet-none Other h counted defaulted at = absurd h
quiet-none Formless h counted defaulted at = absurd h

quiet-fields : (fs : List Statement) (ss : List Said) (before : List Statement) → map (λ f. f.says) fs ≡ ss → AllByRecursion IsQuiet ss → first_refusal field_refusal before fs ≡ None
quiet-fields [] ss before e h = refl
quiet-fields (f ∷ fs) [] before e h = cc
quiet-fields (f ∷ fs) (s ∷ ss) before e h =
    let here : f.says ≡ s = cc in
    let rest : map (λ f. f.says) fs ≡ ss = cc in
    or-none _ _ (ap (field_refusal_by (any_before counts before) (any_before defaults before) f.at) here ∙ quiet-none s h.0 (any_before counts before) (any_before defaults before) f.at) (quiet-fields fs ss (before ++ f ∷ []) rest h.1)

groups-quiet : (first v : ℕ) (gs : List Group) → AllByRecursion IsQuiet (group_says first gs ++ FuseSum v ∷ [])
groups-quiet first v [] = (tt, tt)
groups-quiet first v (g ∷ gs) = at (g.always || list_any (λ s. s) g.states) (groups-quiet (first + length g.states) v gs)
  where
    at : (b : Bool) → AllByRecursion IsQuiet (group_says (first + length g.states) gs ++ FuseSum v ∷ []) →
        AllByRecursion IsQuiet ((if b then Listing first g.states ∷ [] else []) ++ group_says (first + length g.states) gs ++ FuseSum v ∷ [])
    at true h = (tt, h)
    at false h = h

groups-fit : (n first v : ℕ) (gs : List Group) → first + length (states_of_groups gs) ≤ n →
    AllByRecursion (λ s. (at : ℕ) → address_refusal_by n at s ≡ None) (group_says first gs ++ FuseSum v ∷ [])
groups-fit n first v [] h = ((λ at. refl), tt)
groups-fit n first v (g ∷ gs) h =
    at (g.always || list_any (λ s. s) g.states) (groups-fit n (first + length g.states) v gs (omega (arith, length-append g.states (states_of_groups gs))))
  where
    le : leb (first + length g.states) n ≡ true
    le = le-leb (first + length g.states) n (omega (arith, length-append g.states (states_of_groups gs)))

    at : (b : Bool) → AllByRecursion (λ s. (at : ℕ) → address_refusal_by n at s ≡ None) (group_says (first + length g.states) gs ++ FuseSum v ∷ []) →
        AllByRecursion (λ s. (at : ℕ) → address_refusal_by n at s ≡ None) ((if b then Listing first g.states ∷ [] else []) ++ group_says (first + length g.states) gs ++ FuseSum v ∷ [])
    at true rest = ((λ place. ap (λ b. cond b None (Some (Address place))) le), rest)
    at false rest = rest

groups-no_sum : (found first : ℕ) (gs : List Group) → AllByRecursion (λ s. ℕ → sum_refusal_by found s ≡ None) (group_says first gs ++ FuseSum found ∷ [])
groups-no_sum found first [] = ((λ at. ap (λ b. cond b None (Some (BadFuseSum found found))) (eq-eqb found found refl)), tt)
groups-no_sum found first (g ∷ gs) = at (g.always || list_any (λ s. s) g.states) (groups-no_sum found (first + length g.states) gs)
  where
    at : (b : Bool) → AllByRecursion (λ s. ℕ → sum_refusal_by found s ≡ None) (group_says (first + length g.states) gs ++ FuseSum found ∷ []) →
        AllByRecursion (λ s. ℕ → sum_refusal_by found s ≡ None) ((if b then Listing first g.states ∷ [] else []) ++ group_says (first + length g.states) gs ++ FuseSum found ∷ [])
    at true rest = ((λ place. refl), rest)
    at false rest = rest

head-none : (n v : ℕ) (gs : List Group) → n ≤ 8192 → (a b c d : Statement) (fs : List Statement) → map (λ f. f.says) (a ∷ b ∷ c ∷ d ∷ fs) ≡ written_says n v gs →
    (first_refusal field_refusal [] (a ∷ b ∷ c ∷ d ∷ fs) ≡ None) × (count_in (a ∷ b ∷ c ∷ d ∷ fs) ≡ Some n) × (default_in (a ∷ b ∷ c ∷ d ∷ fs) ≡ Some false)
head-none n v gs few a b c d fs e = (
  or-none _ _ ra (or-none _ _ rb (or-none _ _ rc (or-none _ _ rd rest))),
  ap (λ s. count_or s (count_or b.says (count_or c.says (count_or d.says (count_in fs))))) ea ∙ ap (λ s. count_or s (count_or c.says (count_or d.says (count_in fs)))) eb,
  ap (λ s. default_or s (default_or b.says (default_or c.says (default_or d.says (default_in fs))))) ea
      ∙ ap (λ s. default_or s (default_or c.says (default_or d.says (default_in fs)))) eb
      ∙ ap (λ s. default_or s (default_or d.says (default_in fs))) ec ∙ ap (λ s. default_or s (default_in fs)) ed,
)
  where
    ea : a.says ≡ Other
    ea = cc

    eb : b.says ≡ Count n
    eb = cc

    ec : c.says ≡ Other
    ec = cc

    ed : d.says ≡ Default false
    ed = cc

    ef : map (λ f. f.says) fs ≡ group_says 0 gs ++ FuseSum v ∷ []
    ef = cc

    ra : field_refusal_by (any_before counts []) (any_before defaults []) a.at a.says ≡ None
    ra = ap (field_refusal_by (any_before counts []) (any_before defaults []) a.at) ea

    rb : field_refusal_by (any_before counts (a ∷ [])) (any_before defaults (a ∷ [])) b.at b.says ≡ None
    rb = ap (field_refusal_by (any_before counts (a ∷ [])) (any_before defaults (a ∷ [])) b.at) eb
        ∙ ap (λ s. cond (counts s || false) (Some (CountTwice b.at)) (cond (leb n 8192) None (Some (CountOver n)))) ea
        ∙ ap (λ q. cond q None (Some (CountOver n))) (le-leb n 8192 few)

    rc : field_refusal_by (any_before counts (a ∷ b ∷ [])) (any_before defaults (a ∷ b ∷ [])) c.at c.says ≡ None
    rc = ap (field_refusal_by (any_before counts (a ∷ b ∷ [])) (any_before defaults (a ∷ b ∷ [])) c.at) ec

    rd : field_refusal_by (any_before counts (a ∷ b ∷ c ∷ [])) (any_before defaults (a ∷ b ∷ c ∷ [])) d.at d.says ≡ None
    rd = ap (field_refusal_by (any_before counts (a ∷ b ∷ c ∷ [])) (any_before defaults (a ∷ b ∷ c ∷ [])) d.at) ed
        ∙ ap (λ s. cond (defaults s || (defaults b.says || (defaults c.says || false))) (Some (DefaultTwice d.at)) None) ea
        ∙ ap (λ s. cond (defaults s || (defaults c.says || false)) (Some (DefaultTwice d.at)) None) eb
        ∙ ap (λ s. cond (defaults s || false) (Some (DefaultTwice d.at)) None) ec

    rest : first_refusal field_refusal (a ∷ b ∷ c ∷ d ∷ []) fs ≡ None
    rest = quiet-fields fs (group_says 0 gs ++ FuseSum v ∷ []) (a ∷ b ∷ c ∷ d ∷ []) ef (groups-quiet 0 v gs)

head-of : (n v : ℕ) (gs : List Group) → n ≤ 8192 → (fs : List Statement) → map (λ f. f.says) fs ≡ written_says n v gs →
    (first_refusal field_refusal [] fs ≡ None) × (count_in fs ≡ Some n) × (default_in fs ≡ Some false)
head-of n v gs few [] e = cc
head-of n v gs few (a ∷ []) e = cc
head-of n v gs few (a ∷ b ∷ []) e = cc
head-of n v gs few (a ∷ b ∷ c ∷ []) e = cc
head-of n v gs few (a ∷ b ∷ c ∷ d ∷ fs) e = head-none n v gs few a b c d fs e

-- fields that say what is written give the states of the groups
pub fuses_in-written : (fs : List Statement) (gs : List Group) → length (states_of_groups gs) ≤ 8192 →
    map (λ f. f.says) fs ≡ written_says (length (states_of_groups gs)) (fuse_sum (states_of_groups gs)) gs → fuses_in fs None ≡ Ok (states_of_groups gs)
fuses_in-written fs gs few e =
    ap (λ o. unless o (needed NoCount (count_in fs) (fuses_of_count fs))) head.0
    ∙ ap (λ o. needed NoCount o (fuses_of_count fs)) head.1
    ∙ ap (λ o. unless o (unless (twice_refusal fs n) (unless (unset_refusal fs (default_in fs) n) (checked_sum fs (states_in fs n))))) addresses
    ∙ ap (λ o. unless (option_map FuseTwice o) (unless (unset_refusal fs (default_in fs) n) (checked_sum fs (states_in fs n)))) (least-none (λ k. listed fs k true && listed fs k false) none-twice 0 n)
    ∙ ap (λ o. unless (unset_refusal fs o n) (checked_sum fs (states_in fs n))) head.2
    ∙ ap (checked_sum fs) states
    ∙ ap (λ o. unless o (Ok (states_of_groups gs))) sums
  where
    n : ℕ
    n = length (states_of_groups gs)

    head : (first_refusal field_refusal [] fs ≡ None) × (count_in fs ≡ Some (length (states_of_groups gs))) × (default_in fs ≡ Some false)
    head = head-of (length (states_of_groups gs)) (fuse_sum (states_of_groups gs)) gs few fs e

    addresses : first_refusal (λ before f. address_refusal (length (states_of_groups gs)) f) [] fs ≡ None
    addresses = says-none (address_refusal_by (length (states_of_groups gs))) fs (written_says (length (states_of_groups gs)) (fuse_sum (states_of_groups gs)) gs) [] e
        ((λ at. refl), ((λ at. refl), ((λ at. refl), ((λ at. refl), groups-fit (length (states_of_groups gs)) 0 (fuse_sum (states_of_groups gs)) gs (omega arith)))))

    none-twice : (k : ℕ) → (listed fs k true && listed fs k false) ≡ false
    none-twice k = ap (λ a. a && listed fs k false) (listed-says k true fs ∙ ap (any_says k true) e)
        ∙ ap (λ b. any_says k true (written_says (length (states_of_groups gs)) (fuse_sum (states_of_groups gs)) gs) && b) (listed-says k false fs ∙ ap (any_says k false) e)
        ∙ both-written (length (states_of_groups gs)) (fuse_sum (states_of_groups gs)) k gs

    by-set : (a b : Bool) → cond a true (cond b false false) ≡ a
    by-set true b = refl
    by-set false true = refl
    by-set false false = refl

    states : states_in fs (length (states_of_groups gs)) ≡ states_of_groups gs
    states = ap (λ o. made_from (state_of fs (unwrap_or o false)) 0 (length (states_of_groups gs))) head.2
        ∙ made-states (state_of fs false) 0 (states_of_groups gs) (λ i lt. ap (state_of fs false) (zero-add i) ∙ by-set (listed fs i true) (listed fs i false)
        ∙ listed-says i true fs ∙ ap (any_says i true) e ∙ set-written (length (states_of_groups gs)) (fuse_sum (states_of_groups gs)) i gs)

    sums : first_refusal (λ before f. sum_refusal (fuse_sum (states_of_groups gs)) f) [] fs ≡ None
    sums = says-none (λ at s. sum_refusal_by (fuse_sum (states_of_groups gs)) s) fs (written_says (length (states_of_groups gs)) (fuse_sum (states_of_groups gs)) gs) [] e
        ((λ at. refl), ((λ at. refl), ((λ at. refl), ((λ at. refl), groups-no_sum (fuse_sum (states_of_groups gs)) 0 gs))))

hex-value : (d : ℕ) → d < 16 → hex_value (hex_digit d) ≡ Some d
hex-value d h = at (cases_lt d 10)
  where
    at : (d < 10) ⊎ (10 ≤ d) → hex_value (hex_digit d) ≡ Some d
    at (inl lt) = let e : hex_digit d ≡ 48 + d = grind (arith, nat_tests) in ap hex_value e ∙ grind (arith, nat_tests)
    at (inr ge) = let e : hex_digit d ≡ 55 + d = grind (arith, nat_tests) in ap hex_value e ∙ grind (arith, nat_tests)

hex-no_blank : (d : ℕ) → is_blank (hex_digit d) ≡ false
hex-no_blank d = at (cases_lt d 10)
  where
    at : (d < 10) ⊎ (10 ≤ d) → is_blank (hex_digit d) ≡ false
    at (inl lt) = let e : hex_digit d ≡ 48 + d = grind (arith, nat_tests) in ap is_blank e ∙ grind (arith, nat_tests)
    at (inr ge) = let e : hex_digit d ≡ 55 + d = grind (arith, nat_tests) in ap is_blank e ∙ grind (arith, nat_tests)

hex-other : (d b : ℕ) → b < 48 → eqb (hex_digit d) b ≡ false
hex-other d b h = at (cases_lt d 10)
  where
    at : (d < 10) ⊎ (10 ≤ d) → eqb (hex_digit d) b ≡ false
    at (inl lt) = let e : hex_digit d ≡ 48 + d = grind (arith, nat_tests) in ap (λ q. eqb q b) e ∙ grind (arith, nat_tests)
    at (inr ge) = let e : hex_digit d ≡ 55 + d = grind (arith, nat_tests) in ap (λ q. eqb q b) e ∙ grind (arith, nat_tests)

hex-step : (d : ℕ) (bs ds rest : List ℕ) → d < 16 → digits_of hex_value bs ≡ (ds, rest) → digits_of hex_value (hex_digit d ∷ bs) ≡ (d ∷ ds, rest)
hex-step d bs ds rest h f =
    ap (λ o. digits_on o (hex_digit d) bs (digits_of hex_value bs)) (hex-value d h) ∙ ap (digits_on (Some d) (hex_digit d) bs) f

number-hex : (n : ℕ) → n < 65536 → number_at hex_value 16 4 (four_hex n) ≡ Some (n, [])
number-hex n h = ap read digits ∙ ap (λ (m : ℕ). Some (m, [])) value
  where
    read : List ℕ × List ℕ → Option (ℕ × List ℕ)
    read ds = if leb 1 (length ds.0) && leb (length ds.0) 4 then Some (in_base 16 0 ds.0, ds.1) else None

    value : in_base 16 0 ((n / 4096 % 16) ∷ (n / 256 % 16) ∷ (n / 16 % 16) ∷ (n % 16) ∷ []) ≡ n
    value = omega arith

    digits : digits_of hex_value (four_hex n) ≡ ((n / 4096 % 16) ∷ (n / 256 % 16) ∷ (n / 16 % 16) ∷ (n % 16) ∷ [], [])
    digits =
        hex-step (n / 4096 % 16) (hex_digit (n / 256 % 16) ∷ hex_digit (n / 16 % 16) ∷ hex_digit (n % 16) ∷ []) ((n / 256 % 16) ∷ (n / 16 % 16) ∷ (n % 16) ∷ []) [] (omega arith)
        (hex-step (n / 256 % 16) (hex_digit (n / 16 % 16) ∷ hex_digit (n % 16) ∷ []) ((n / 16 % 16) ∷ (n % 16) ∷ []) [] (omega arith)
        (hex-step (n / 16 % 16) (hex_digit (n % 16) ∷ []) ((n % 16) ∷ []) [] (omega arith)
        (hex-step (n % 16) [] [] [] (omega arith) refl)))

skip-hex : (n : ℕ) (rest : List ℕ) → skip_blanks (four_hex n ++ rest) ≡ four_hex n ++ rest
skip-hex n rest = ap (λ b. cond b (skip_blanks (hex_digit (n / 256 % 16) ∷ hex_digit (n / 16 % 16) ∷ hex_digit (n % 16) ∷ rest)) (four_hex n ++ rest)) (hex-no_blank (n / 4096 % 16))

tail-none : (n : ℕ) → n < 65536 → tail_refusal n (skip_blanks (four_hex n ++ 10 ∷ [])) ≡ None
tail-none n h = ap (tail_refusal n) (skip-hex n (10 ∷ [])) ∙ ap (λ o. said_refusal n (if_four 5 o)) (number-hex n h)
    ∙ ap (λ b. cond b None (Some (BadSum n n))) (or-true (eqb n 0) (eqb n n) (eq-eqb n n refl))
  where
    or-true : (a b : Bool) → b ≡ true → (a || b) ≡ true
    or-true true b e = refl
    or-true false b e = e

said-sum : (n : ℕ) → n < 65536 → said_by (67 ∷ four_hex n) ≡ FuseSum n
said-sum n h = ap (λ t. or_formless FuseSum (if_blank (number_at hex_value 16 4 t))) (skip-hex n []) ∙ ap (λ o. or_formless FuseSum (if_blank o)) (number-hex n h)

said-count : (n : ℕ) → n < 10000 → said_by (codes "QF" ++ four_digits n) ≡ Count n
said-count n h = ap (λ t. or_formless Count (if_blank (number_at digit_value 10 9 t))) (skip-digits n []) ∙ ap (λ o. or_formless Count (if_blank o)) (number-four n [] h refl)

groups-said : (first : ℕ) (gs : List Group) → first + length (states_of_groups gs) < 10000 → map said_by (group_lines first gs) ≡ group_says first gs
groups-said first [] h = refl
groups-said first (g ∷ gs) h =
    map-append said_by (if g.always || list_any (λ s. s) g.states then listing_line first g.states ∷ [] else []) (group_lines (first + length g.states) gs)
    ∙ ap (λ ls. ls ++ map said_by (group_lines (first + length g.states) gs)) (here (g.always || list_any (λ s. s) g.states))
    ∙ ap (λ rest. (if g.always || list_any (λ s. s) g.states then Listing first g.states ∷ [] else []) ++ rest)
    (groups-said (first + length g.states) gs (omega (arith, length-append g.states (states_of_groups gs))))
  where
    here : (b : Bool) → map said_by (if b then listing_line first g.states ∷ [] else []) ≡ (if b then Listing first g.states ∷ [] else [])
    here true = ap (λ s. s ∷ []) (said-listing first g.states (omega (arith, length-append g.states (states_of_groups gs))))
    here false = refl

pub lacks-append : (b : ℕ) (xs ys : List ℕ) → Lacks b xs → Lacks b ys → Lacks b (xs ++ ys)
lacks-append b [] ys hx hy = hy
lacks-append b (x ∷ xs) ys hx hy = (hx.0, lacks-append b xs ys hx.1 hy)

digit-other : (d b : ℕ) → b < 48 → eqb (48 + d) b ≡ false
digit-other d b h = grind (arith, nat_tests)

lacks-states : (b : ℕ) → b < 48 → (states : List Bool) → Lacks b (map state_digit states)
lacks-states b h [] = tt
lacks-states b h (true ∷ ss) = (grind (arith, nat_tests), lacks-states b h ss)
lacks-states b h (false ∷ ss) = (grind (arith, nat_tests), lacks-states b h ss)

lacks-four : (b : ℕ) → b < 48 → (n : ℕ) → Lacks b (four_digits n)
lacks-four b h n = (digit-other (n / 1000 % 10) b h, (digit-other (n / 100 % 10) b h, (digit-other (n / 10 % 10) b h, (digit-other (n % 10) b h, tt))))

lacks-hex : (b : ℕ) → b < 48 → (n : ℕ) → Lacks b (four_hex n)
lacks-hex b h n = (hex-other (n / 4096 % 16) b h, (hex-other (n / 256 % 16) b h, (hex-other (n / 16 % 16) b h, (hex-other (n % 16) b h, tt))))

-- a byte that no written line has, but for the design and the pins
pub record IsOutside (b : ℕ) (design pins : List ℕ) : Type 0 where
  pub low : b < 48
  pub blank : eqb 32 b ≡ false
  pub in_design : Lacks b design
  pub in_pins : Lacks b pins

lacks-listing : (b first : ℕ) (states : List Bool) → b < 48 → eqb 32 b ≡ false → Lacks b (listing_line first states)
lacks-listing b first states h blank =
    (grind (arith, nat_tests), lacks-append b (four_digits first) (32 ∷ map state_digit states) (lacks-four b h first) (blank, lacks-states b h states))

AllLack : ℕ → List (List ℕ) → Type 0
AllLack b lines = AllByRecursion (Lacks b) lines

lacks-groups : (b first : ℕ) (gs : List Group) → b < 48 → eqb 32 b ≡ false → AllByRecursion (Lacks b) (group_lines first gs)
lacks-groups b first [] h blank = tt
lacks-groups b first (g ∷ gs) h blank =
    all-append (Lacks b) (if g.always || list_any (λ s. s) g.states then listing_line first g.states ∷ [] else []) (group_lines (first + length g.states) gs)
    (here (g.always || list_any (λ s. s) g.states)) (lacks-groups b (first + length g.states) gs h blank)
  where
    here : (w : Bool) → AllByRecursion (Lacks b) (if w then listing_line first g.states ∷ [] else [])
    here true = (lacks-listing b first g.states h blank, tt)
    here false = tt

begins-groups : (first : ℕ) (gs : List Group) → AllByRecursion Begins (group_lines first gs)
begins-groups first [] = tt
begins-groups first (g ∷ gs) =
    all-append Begins (if g.always || list_any (λ s. s) g.states then listing_line first g.states ∷ [] else []) (group_lines (first + length g.states) gs)
    (here (g.always || list_any (λ s. s) g.states)) (begins-groups (first + length g.states) gs)
  where
    here : (w : Bool) → AllByRecursion Begins (if w then listing_line first g.states ∷ [] else [])
    here true = (record { skipped = refl }, tt)
    here false = tt

-- the lines behind the design
abbrev lines_of : List ℕ → List Group → List (List ℕ)
lines_of pins gs = (codes "QP" ++ pins) ∷ (codes "QF" ++ four_digits (length (states_of_groups gs))) ∷ codes "G0" ∷ codes "F0"
    ∷ group_lines 0 gs ++ (67 ∷ four_hex (fuse_sum (states_of_groups gs))) ∷ []

lacks-lines : (b : ℕ) (design pins : List ℕ) (gs : List Group) → IsOutside b design pins → AllByRecursion (Lacks b) (lines_of pins gs)
lacks-lines b design pins gs out = (
  lacks-append b (codes "QP") pins (upper 81 (omega arith), (upper 80 (omega arith), tt)) out.in_pins,
  (
    lacks-append b (codes "QF") (four_digits (length (states_of_groups gs))) (upper 81 (omega arith), (upper 70 (omega arith), tt)) (lacks-four b out.low (length (states_of_groups gs))),
    (
      (upper 71 (omega arith), (upper 48 (omega arith), tt)),
      (
        (upper 70 (omega arith), (upper 48 (omega arith), tt)),
        all-append (Lacks b) (group_lines 0 gs) ((67 ∷ four_hex (fuse_sum (states_of_groups gs))) ∷ []) (lacks-groups b 0 gs out.low out.blank)
            ((upper 67 (omega arith), lacks-hex b out.low (fuse_sum (states_of_groups gs))), tt),
      ),
    ),
  ),
)
  where
    upper : (c : ℕ) → 48 ≤ c → eqb c b ≡ false
    upper c h = let low : b < 48 = out.low in grind (arith, nat_tests)

begins-lines : (pins : List ℕ) (gs : List Group) → AllByRecursion Begins (lines_of pins gs)
begins-lines pins gs = (
  record { skipped = refl },
  (
    record { skipped = refl },
    (
      record { skipped = refl },
      (
        record { skipped = refl },
        all-append Begins (group_lines 0 gs) ((67 ∷ four_hex (fuse_sum (states_of_groups gs))) ∷ []) (begins-groups 0 gs) (record { skipped = refl }, tt),
      ),
    ),
  ),
)

sum-fits : (states : List Bool) → fuse_sum states < 65536
sum-fits states = omega arith

lines-said : (pins : List ℕ) (gs : List Group) → length (states_of_groups gs) < 10000 →
    map said_by (lines_of pins gs) ≡ written_says (length (states_of_groups gs)) (fuse_sum (states_of_groups gs)) gs
lines-said pins gs few =
    ap (λ s. Other ∷ s ∷ Other ∷ Default false ∷ map said_by (group_lines 0 gs ++ (67 ∷ four_hex (fuse_sum (states_of_groups gs))) ∷ [])) (said-count (length (states_of_groups gs)) few)
    ∙ ap (λ rest. Other ∷ Count (length (states_of_groups gs)) ∷ Other ∷ Default false ∷ rest)
    (map-append said_by (group_lines 0 gs) ((67 ∷ four_hex (fuse_sum (states_of_groups gs))) ∷ [])
    ∙ ap (λ ss. ss ++ said_by (67 ∷ four_hex (fuse_sum (states_of_groups gs))) ∷ []) (groups-said 0 gs (omega arith))
    ∙ ap (λ s. group_says 0 gs ++ s ∷ []) (said-sum (fuse_sum (states_of_groups gs)) (sum-fits (states_of_groups gs))))

lacks-flat : (b : ℕ) (lines : List (List ℕ)) → eqb 42 b ≡ false → eqb 10 b ≡ false → AllByRecursion (Lacks b) lines → Lacks b (flat_map written_line lines)
lacks-flat b [] star lf h = tt
lacks-flat b (l ∷ ls) star lf h = lacks-append b (l ++ 42 ∷ 10 ∷ []) (flat_map written_line ls) (lacks-append b l (42 ∷ 10 ∷ []) h.0 (star, (lf, tt))) (lacks-flat b ls star lf h.1)

-- nothing stands behind the last line
after-last : (at : ℕ) (lines : List (List ℕ)) → loose_from at (after_line lines) ≡ None
after-last at [] = refl
after-last at (l ∷ []) = refl
after-last at (l ∷ m ∷ ms) = after-last (at + length (10 ∷ l) + 1) (m ∷ ms)

loose-lines : (at : ℕ) (lines : List (List ℕ)) (design : List ℕ) → loose_of (at + 1) (design ∷ after_line lines) ≡ None
loose-lines at [] design = refl
loose-lines at (l ∷ ls) design = after-last (at + 1 + length design + 1) (l ∷ ls)

-- What is written is read back, whatever stands before it but STX.
pub read_back : (before design pins : List ℕ) (gs : List Group) → Lacks 2 before → IsOutside 3 design pins → IsOutside 42 design pins →
    length (states_of_groups gs) ≤ 8192 → fuses_of_text (before ++ written_text design pins gs) ≡ Ok (states_of_groups gs)
read_back before design pins gs front etx star few =
    ap fuses_of_text shape
    ∙ ap (λ o. needed NoStx o framed) (cut_at-append 2 before (body ++ 3 ∷ tail) front)
    ∙ ap (λ o. needed NoEtx o (λ ended. fuses_between (length before + 1) ended.0 ended.1)) (cut_at-append 3 body tail (lacks-flat 3 (design ∷ lines_of pins gs) refl refl (etx.in_design, lacks-lines 3 design pins gs etx)))
    ∙ ap (λ o. unless o (fuses_in (map statement_of (fields_of (length before + 1) (pieces body))) (loose_of (length before + 1) (pieces body)))) (tail-none ((5 + sum body) % 65536) (omega arith))
    ∙ ap (λ ps. fuses_in (map statement_of (fields_of (length before + 1) ps)) (loose_of (length before + 1) ps)) cut
    ∙ ap (fuses_in (map statement_of (fields_from (length before + 1 + length design + 1) (after_line (lines_of pins gs))))) (loose-lines (length before) (lines_of pins gs) design)
    ∙ fuses_in-written (map statement_of (fields_from (length before + 1 + length design + 1) (after_line (lines_of pins gs)))) gs few
    (fields-lines (length before + 1 + length design + 1) (lines_of pins gs) (begins-lines pins gs) ∙ lines-said pins gs (omega arith))
  where
    body : List ℕ
    body = written_body design pins gs

    tail : List ℕ
    tail = four_hex ((5 + sum (written_body design pins gs)) % 65536) ++ 10 ∷ []

    framed : List ℕ × List ℕ → Result (List Bool) JedError
    framed begun = needed NoEtx (cut_at 3 begun.1) (λ ended. fuses_between (length begun.0 + 1) ended.0 ended.1)

    shape : before ++ written_text design pins gs ≡ before ++ 2 ∷ (written_body design pins gs ++ 3 ∷ (four_hex ((5 + sum (written_body design pins gs)) % 65536) ++ 10 ∷ []))
    shape = ap (λ t. before ++ 2 ∷ t) (append_assoc (written_body design pins gs) (3 ∷ four_hex ((5 + sum (written_body design pins gs)) % 65536)) (10 ∷ []))

    cut : pieces (written_body design pins gs) ≡ design ∷ after_line (lines_of pins gs)
    cut = ap pieces (append_assoc design (42 ∷ 10 ∷ []) (flat_map written_line (lines_of pins gs)))
        ∙ pieces-append design (10 ∷ flat_map written_line (lines_of pins gs)) star.in_design
        ∙ ap (λ ps. design ∷ ps) (pieces-lines (lines_of pins gs) (lacks-lines 42 design pins gs star))
