-- A fuse text in the parts in which it is written.
use Rattle.std.proofs.Common.{ℕ, zero, suc, ◌≡◌, ◌<◌, ◌≤◌, ◌+◌, ◌-◌, ◌*◌, ◌%◌, Bool, true, false, List, [], ◌∷◌, ◌++◌, length, take, drop, sum, length-append, add-zero, refl, sym, ap, ◌∙◌, arith, append_assoc, get_or}
use Rattle.std.specs.Prelude.{IsTrue}
use Rattle.std.specs.List.{flat_map}
use Rattle.std.proofs.lemmas.Grind.{flat_map-append}
use Rattle.std.proofs.lemmas.List.{length-drop, length-take, drop-drop}
use Rattle.std.proofs.lemmas.List.Folds.{sum_by-replicate}
use Rattle.std.proofs.lemmas.List.Sums.{sum_by-cons, sum_by-append}
use Rattle.mig_base.specs.declared.kinds.Kind.{Kind}
use Rattle.mig_base.specs.DeviceTables.{array_width, has_count}
use Rattle.mig_base.specs.FuseText.{fuse_sum}
use Rattle.mig_base.specs.WrittenFuses.{Group, four_hex, lines_of_group, group_lines, states_of_groups, written_line, head_lines, written_body, groups_by, array_rows, row_sizes, tail_sizes, written_groups, design_of, pins_digits}
use Rattle.jed_write.proofs.WrittenKinds.{is_count, groups_by-states, written-states}

pub drop_one : (sizes : List ℕ) (i : ℕ) → i < length sizes → drop i sizes ≡ get_or sizes i 0 ∷ drop (i + 1) sizes
drop_one [] i lt = absurd (omega arith)
drop_one (b ∷ bs) zero lt = refl
drop_one (b ∷ bs) (suc i) lt = let e : suc i + 1 ≡ suc (i + 1) = omega arith in drop_one bs i (omega arith) ∙ ap (λ (k : ℕ). get_or bs i 0 ∷ drop k (b ∷ bs)) (sym e)

-- the text of these groups
abbrev pub groups_text : ℕ → List Group → List ℕ
groups_text first gs = flat_map written_line (group_lines first gs)

pub groups-cons : (first : ℕ) (g : Group) (gs : List Group) → groups_text first (g ∷ gs) ≡ flat_map written_line (lines_of_group first g) ++ groups_text (first + length g.states) gs
groups-cons first g gs = flat_map-append written_line (lines_of_group first g) (group_lines (first + length g.states) gs)

pub groups-append : (first : ℕ) (xs ys : List Group) → groups_text first (xs ++ ys) ≡ groups_text first xs ++ groups_text (first + length (states_of_groups xs)) ys
groups-append first [] ys = ap (λ n. groups_text n ys) (sym (add-zero first))
groups-append first (x ∷ xs) ys =
    groups-cons first x (xs ++ ys)
    ∙ ap (λ rest. flat_map written_line (lines_of_group first x) ++ rest) (groups-append (first + length x.states) xs ys)
    ∙ ap (λ n. flat_map written_line (lines_of_group first x) ++ (groups_text (first + length x.states) xs ++ groups_text n ys)) place
    ∙ sym (append_assoc (flat_map written_line (lines_of_group first x)) (groups_text (first + length x.states) xs) (groups_text (first + length (states_of_groups (x ∷ xs))) ys))
    ∙ ap (λ front. front ++ groups_text (first + length (states_of_groups (x ∷ xs))) ys) (sym (groups-cons first x xs))
  where
    place : first + length x.states + length (states_of_groups xs) ≡ first + length (states_of_groups (x ∷ xs))
    place = omega (arith, length-append x.states (states_of_groups xs))

-- the groups from the size i on: one of that size, and the others
pub groups-step : (always : Bool) (sizes : List ℕ) (states : List Bool) (first at i m : ℕ) → i < length sizes → at + get_or sizes i 0 ≤ length states → m ≡ get_or sizes i 0 →
    groups_text (first + at) (groups_by always (drop i sizes) (drop at states))
    ≡ flat_map written_line (lines_of_group (first + at) (record { always = always; states = take m (drop at states) }))
    ++ groups_text (first + (at + get_or sizes i 0)) (groups_by always (drop (i + 1) sizes) (drop (at + get_or sizes i 0) states))
groups-step always sizes states first at i m lt fits e =
    ap (λ ss. groups_text (first + at) (groups_by always ss (drop at states))) (drop_one sizes i lt)
    ∙ groups-cons (first + at) (record { always = always; states = take n (drop at states) }) (groups_by always (drop (i + 1) sizes) (drop n (drop at states)))
    ∙ ap (λ k. flat_map written_line (lines_of_group (first + at) (record { always = always; states = take k (drop at states) })) ++ groups_text (first + at + length (take n (drop at states))) (groups_by always (drop (i + 1) sizes) (drop n (drop at states)))) (sym e)
    ∙ ap (λ k. flat_map written_line (lines_of_group (first + at) (record { always = always; states = take m (drop at states) })) ++ groups_text k (groups_by always (drop (i + 1) sizes) (drop n (drop at states)))) place
    ∙ ap (λ ss. flat_map written_line (lines_of_group (first + at) (record { always = always; states = take m (drop at states) })) ++ groups_text (first + (at + n)) (groups_by always (drop (i + 1) sizes) ss)) (drop-drop n at states)
  where
    n : ℕ
    n = get_or sizes i 0

    place : first + at + length (take (get_or sizes i 0) (drop at states)) ≡ first + (at + get_or sizes i 0)
    place = omega (arith, length-take (get_or sizes i 0) (drop at states), length-drop at states)

pub sum-step : (sizes : List ℕ) (i : ℕ) → i < length sizes → sum (drop i sizes) ≡ get_or sizes i 0 + sum (drop (i + 1) sizes)
sum-step sizes i lt = ap sum (drop_one sizes i lt) ∙ sum_by-cons (λ n. n) (get_or sizes i 0) (drop (i + 1) sizes)

-- the rows fit the fuses, and so do the groups behind them
pub record Fits (k : Kind) (states : List Bool) : Type 0 where
  pub array : array_rows k * array_width k ≤ length states
  pub rows : sum (row_sizes k) ≡ array_rows k * array_width k
  pub behind : sum (tail_sizes k (length states)) ≡ length states - array_rows k * array_width k
  pub few : length states ≤ 5892
  pub whole : states_of_groups (written_groups k states) ≡ states

pub fits : (k : Kind) (states : List Bool) → IsTrue (has_count k (length states)) → Fits k states
fits k states h =
    let whole : array_rows k * array_width k + sum (tail_sizes k (length states)) ≡ length states = (is_count k (length states) h).whole in
    record {
      array = omega arith;
      rows = sum_by-replicate (λ n. n) (array_rows k) (array_width k);
      behind = omega arith;
      few = (is_count k (length states) h).few;
      whole = written-states k states (is_count k (length states) h);
    }

-- the text of the fuses of a chip: that of its rows, and that of the groups behind them
pub fuses-parts : (k : Kind) (states : List Bool) → Fits k states →
    groups_text 0 (written_groups k states)
    ≡ groups_text 0 (groups_by false (row_sizes k) (take (array_rows k * array_width k) states))
    ++ groups_text (array_rows k * array_width k) (groups_by true (tail_sizes k (length states)) (drop (array_rows k * array_width k) states))
fuses-parts k states h =
    groups-append 0 rows behind ∙ ap (λ n. groups_text 0 rows ++ groups_text n behind) place
  where
    rows : List Group
    rows = groups_by false (row_sizes k) (take (array_rows k * array_width k) states)

    behind : List Group
    behind = groups_by true (tail_sizes k (length states)) (drop (array_rows k * array_width k) states)

    place : 0 + length (states_of_groups (groups_by false (row_sizes k) (take (array_rows k * array_width k) states))) ≡ array_rows k * array_width k
    place = let fits : array_rows k * array_width k ≤ length states = h.array in let sizes : sum (row_sizes k) ≡ array_rows k * array_width k = h.rows in
        omega (
          arith,
          ap length (groups_by-states false (row_sizes k) (take (array_rows k * array_width k) states)),
          length-take (sum (row_sizes k)) (take (array_rows k * array_width k) states),
          length-take (array_rows k * array_width k) states,
        )

-- the same of what the rows and groups are found to be, behind anything
pub fuses-written : (k : Kind) (states : List Bool) → Fits k states → (old : List ℕ) (mid : ℕ) (sizes tails : List ℕ) (front behind : List Bool) →
    mid ≡ array_rows k * array_width k → sizes ≡ row_sizes k → tails ≡ tail_sizes k (length states) → front ≡ take mid states → behind ≡ drop mid states →
    (old ++ groups_text 0 (groups_by false sizes front)) ++ groups_text mid (groups_by true tails behind) ≡ old ++ groups_text 0 (written_groups k states)
fuses-written k states h old mid sizes tails front behind em es et ef eb =
    ap (λ ss. (old ++ groups_text 0 (groups_by false ss front)) ++ groups_text mid (groups_by true tails behind)) es
    ∙ ap (λ ss. (old ++ groups_text 0 (groups_by false (row_sizes k) front)) ++ groups_text mid (groups_by true ss behind)) et
    ∙ ap (λ ss. (old ++ groups_text 0 (groups_by false (row_sizes k) ss)) ++ groups_text mid (groups_by true (tail_sizes k (length states)) behind)) ef
    ∙ ap (λ ss. (old ++ groups_text 0 (groups_by false (row_sizes k) (take mid states))) ++ groups_text mid (groups_by true (tail_sizes k (length states)) ss)) eb
    ∙ ap (λ m. (old ++ groups_text 0 (groups_by false (row_sizes k) (take m states))) ++ groups_text m (groups_by true (tail_sizes k (length states)) (drop m states))) em
    ∙ append_assoc old (groups_text 0 (groups_by false (row_sizes k) (take (array_rows k * array_width k) states))) (groups_text (array_rows k * array_width k) (groups_by true (tail_sizes k (length states)) (drop (array_rows k * array_width k) states)))
    ∙ ap (λ rest. old ++ rest) (sym (fuses-parts k states h))

-- the body of a text in its three parts, behind anything
pub body-parts : (old design pins : List ℕ) (gs : List Group) →
    ((old ++ flat_map written_line (head_lines design pins (length (states_of_groups gs)))) ++ groups_text 0 gs) ++ written_line (67 ∷ four_hex (fuse_sum (states_of_groups gs)))
    ≡ old ++ written_body design pins gs
body-parts old design pins gs =
    append_assoc (old ++ head) (groups_text 0 gs) sum_line
    ∙ append_assoc old head (groups_text 0 gs ++ sum_line)
    ∙ ap (λ rest. old ++ rest) (sym (append_assoc head (groups_text 0 gs) sum_line))
    ∙ ap (λ rest. old ++ ((head ++ groups_text 0 gs) ++ rest)) (sym last)
    ∙ ap (λ rest. old ++ (rest ++ flat_map written_line (fuses ∷ []))) (sym (flat_map-append written_line (head_lines design pins n) (group_lines 0 gs)))
    ∙ ap (λ rest. old ++ rest) (sym (flat_map-append written_line (head_lines design pins n ++ group_lines 0 gs) (fuses ∷ [])))
  where
    n : ℕ
    n = length (states_of_groups gs)

    head : List ℕ
    head = flat_map written_line (head_lines design pins (length (states_of_groups gs)))

    fuses : List ℕ
    fuses = 67 ∷ four_hex (fuse_sum (states_of_groups gs))

    sum_line : List ℕ
    sum_line = written_line (67 ∷ four_hex (fuse_sum (states_of_groups gs)))

    last : flat_map written_line (fuses ∷ []) ≡ sum_line
    last = refl

-- the body of a text of a kind, written with the fuses themselves
pub kind-parts : (old : List ℕ) (k : Kind) (states : List Bool) → states_of_groups (written_groups k states) ≡ states →
    ((old ++ flat_map written_line (head_lines (design_of k) (pins_digits k) (length states))) ++ groups_text 0 (written_groups k states)) ++ written_line (67 ∷ four_hex (fuse_sum states))
    ≡ old ++ written_body (design_of k) (pins_digits k) (written_groups k states)
kind-parts old k states e =
    ap (λ ss. ((old ++ flat_map written_line (head_lines (design_of k) (pins_digits k) (length ss))) ++ groups_text 0 (written_groups k states)) ++ written_line (67 ∷ four_hex (fuse_sum ss))) (sym e)
    ∙ body-parts old (design_of k) (pins_digits k) (written_groups k states)

-- the sum of a transmission from STX to ETX
pub framed-sum : (body : List ℕ) → sum ((2 ∷ body) ++ 3 ∷ []) ≡ 5 + sum body
framed-sum body = omega (arith, sum_by-append (λ n. n) (2 ∷ body) (3 ∷ []), sum_by-cons (λ n. n) 2 body)

-- a text: its frame, and the sum of what stands before
pub framed : (body : List ℕ) → (((2 ∷ body) ++ 3 ∷ []) ++ four_hex (sum ((2 ∷ body) ++ 3 ∷ []) % 65536)) ++ 10 ∷ [] ≡ 2 ∷ body ++ 3 ∷ four_hex ((5 + sum body) % 65536) ++ 10 ∷ []
framed body =
    ap (λ n. (((2 ∷ body) ++ 3 ∷ []) ++ four_hex (n % 65536)) ++ 10 ∷ []) (framed-sum body)
    ∙ ap (λ text. text ++ 10 ∷ []) (append_assoc (2 ∷ body) (3 ∷ []) (four_hex ((5 + sum body) % 65536)))
