-- The written text of each kind: it is read back, and it is short.
use Rattle.std.proofs.Common.{ℕ, suc, ◌≡◌, ◌≤◌, ◌+◌, ◌*◌, ◌%◌, Bool, true, false, ◌&&◌, ◌||◌, List, [], ◌∷◌, ◌++◌, map, length, take, drop, sum, Ok, eqb, refl, sym, ap, ◌∙◌, subst, arith, append_assoc, length-append, lit≤, lit<}
use Rattle.std.specs.Prelude.{not, ◌⊎◌, if◌then◌else◌, codes, IsTrue}
use Rattle.std.specs.List.{flat_map, list_all}
use Rattle.std.proofs.Common.{inl, inr}
use Rattle.std.proofs.lemmas.Bool.{eqb-true}
use Rattle.std.proofs.Math.Seq.{take-add, take-length}
use Rattle.std.proofs.lemmas.List.{length-replicate, length-map, length-take, length-drop, take-append-drop}
use Rattle.std.proofs.lemmas.List.Folds.{sum_by-replicate}
use Rattle.std.proofs.lemmas.Grind.{flat_map-append}
use Rattle.std.proofs.lemmas.List.Sums.{sum_by-cons}
use Rattle.mig_base.specs.declared.kinds.Kind.{Kind}
use Rattle.mig_base.specs.declared.kinds.Kind.TheVariants.{Pal16L8, Pal16R4, Pal16R6, Pal16R8, Pal20L8, Pal20R4, Pal20R6, Pal20R8, Gal16V8, Gal20V8, Gal22V10, Gal22V10Q}
use Rattle.mig_base.specs.DeviceTables.{kind_name, pins_of, array_width, is_22, is_v8, has_count}
use Rattle.mig_base.specs.FuseText.{Lacks, fuses_of_text, fuse_sum}
use Rattle.mig_base.specs.WrittenFuses.{Group, four_digits, four_hex, state_digit, listing_line, is_written, group_lines, states_of_groups, written_line, written_body, written_text, groups_by, array_rows, row_sizes, tail_sizes, tail_sizes_22, tail_sizes_v8, written_groups, design_of, pins_digits, written_fuses}
use Rattle.mig_base.proofs.KindFacts.{kind-name-length}
use Rattle.jed_write.proofs.WrittenFusesLaws.{read_back}

-- a count that a kind may have is that of its array and of the groups behind it
pub record IsCount (k : Kind) (n : ℕ) : Type 0 where
  pub whole : array_rows k * array_width k + sum (tail_sizes k n) ≡ n
  pub few : n ≤ 5892

or-cases : (a b : Bool) → (a || b) ≡ true → (a ≡ true) ⊎ (b ≡ true)
or-cases true b h = inl refl
or-cases false b h = inr h

count-22 : (n : ℕ) → (eqb n 5828 || eqb n 5892) ≡ true → (5808 + sum (tail_sizes_22 n) ≡ n) × (n ≤ 5892)
count-22 n h = at (or-cases (eqb n 5828) (eqb n 5892) h)
  where
    at : (eqb n 5828 ≡ true) ⊎ (eqb n 5892 ≡ true) → (5808 + sum (tail_sizes_22 n) ≡ n) × (n ≤ 5892)
    at (inl e) = let P : ℕ → Type 0 = λ m. (5808 + sum (tail_sizes_22 m) ≡ m) × (m ≤ 5892) in subst P (sym (eqb-true n 5828 e)) (refl, lit≤ tt)
    at (inr e) = let P : ℕ → Type 0 = λ m. (5808 + sum (tail_sizes_22 m) ≡ m) × (m ≤ 5892) in subst P (sym (eqb-true n 5892 e)) (refl, lit≤ tt)

count-one : (n m : ℕ) → eqb n m ≡ true → m ≤ 5892 → (m ≡ n) × (n ≤ 5892)
count-one n m e le = let same : n ≡ m = eqb-true n m e in (sym same, omega arith)

pub is_count : (k : Kind) (n : ℕ) → IsTrue (has_count k n) → IsCount k n
is_count Gal22V10 n h = let c = count-22 n h in record { whole = c.0; few = c.1 }
is_count Gal22V10Q n h = let c = count-22 n h in record { whole = c.0; few = c.1 }
is_count Gal16V8 n h = let c = count-one n 2194 h (lit≤ tt) in record { whole = c.0; few = c.1 }
is_count Gal20V8 n h = let c = count-one n 2706 h (lit≤ tt) in record { whole = c.0; few = c.1 }
is_count Pal16L8 n h = let c = count-one n 2048 h (lit≤ tt) in record { whole = c.0; few = c.1 }
is_count Pal16R4 n h = let c = count-one n 2048 h (lit≤ tt) in record { whole = c.0; few = c.1 }
is_count Pal16R6 n h = let c = count-one n 2048 h (lit≤ tt) in record { whole = c.0; few = c.1 }
is_count Pal16R8 n h = let c = count-one n 2048 h (lit≤ tt) in record { whole = c.0; few = c.1 }
is_count Pal20L8 n h = let c = count-one n 2560 h (lit≤ tt) in record { whole = c.0; few = c.1 }
is_count Pal20R4 n h = let c = count-one n 2560 h (lit≤ tt) in record { whole = c.0; few = c.1 }
is_count Pal20R6 n h = let c = count-one n 2560 h (lit≤ tt) in record { whole = c.0; few = c.1 }
is_count Pal20R8 n h = let c = count-one n 2560 h (lit≤ tt) in record { whole = c.0; few = c.1 }

-- groups of these sizes hold the front of the fuses
pub groups_by-states : (always : Bool) (sizes : List ℕ) (bits : List Bool) → states_of_groups (groups_by always sizes bits) ≡ take (sum sizes) bits
groups_by-states always [] bits = refl
groups_by-states always (n ∷ ns) bits =
    ap (λ rest. take n bits ++ rest) (groups_by-states always ns (drop n bits))
    ∙ sym (take-add n (sum ns) bits) ∙ ap (λ m. take m bits) (sym (sum_by-cons (λ m. m) n ns))

pub states-append : (xs ys : List Group) → states_of_groups (xs ++ ys) ≡ states_of_groups xs ++ states_of_groups ys
states-append [] ys = refl
states-append (x ∷ xs) ys = ap (λ rest. x.states ++ rest) (states-append xs ys) ∙ sym (append_assoc x.states (states_of_groups xs) (states_of_groups ys))

take-all : (n : ℕ) (bits : List Bool) → n ≡ length bits → take n bits ≡ bits
take-all n bits e = ap (λ m. take m bits) e ∙ take-length bits

-- the groups of a kind hold all its fuses
pub written-states : (k : Kind) (bits : List Bool) → IsCount k (length bits) → states_of_groups (written_groups k bits) ≡ bits
written-states k bits count =
    states-append (groups_by false (row_sizes k) (take array bits)) (groups_by true (tail_sizes k (length bits)) (drop array bits))
    ∙ ap (λ front. front ++ states_of_groups (groups_by true (tail_sizes k (length bits)) (drop array bits))) rows
    ∙ ap (λ back. take array bits ++ back) behind
    ∙ take-append-drop array bits
  where
    array : ℕ
    array = array_rows k * array_width k

    rows : states_of_groups (groups_by false (row_sizes k) (take (array_rows k * array_width k) bits)) ≡ take (array_rows k * array_width k) bits
    rows = groups_by-states false (row_sizes k) (take (array_rows k * array_width k) bits)
        ∙ take-all (sum (row_sizes k)) (take (array_rows k * array_width k) bits) (sizes ∙ sym front)
      where
        sizes : sum (row_sizes k) ≡ array_rows k * array_width k
        sizes = sum_by-replicate (λ n. n) (array_rows k) (array_width k)

        front : length (take (array_rows k * array_width k) bits) ≡ array_rows k * array_width k
        front = length-take (array_rows k * array_width k) bits ∙ omega (arith, count.whole)

    behind : states_of_groups (groups_by true (tail_sizes k (length bits)) (drop (array_rows k * array_width k) bits)) ≡ drop (array_rows k * array_width k) bits
    behind = groups_by-states true (tail_sizes k (length bits)) (drop (array_rows k * array_width k) bits)
        ∙ take-all (sum (tail_sizes k (length bits))) (drop (array_rows k * array_width k) bits)
        (let whole : array_rows k * array_width k + sum (tail_sizes k (length bits)) ≡ length bits = count.whole in omega (arith, length-drop (array_rows k * array_width k) bits))

-- a test that a byte isn't there
lacks-test : (b : ℕ) (bytes : List ℕ) → list_all (λ x. not (eqb x b)) bytes ≡ true → Lacks b bytes
lacks-test b [] h = tt
lacks-test b (x ∷ xs) h = at (eqb x b) (list_all (λ x. not (eqb x b)) xs) h (λ e. lacks-test b xs e)
  where
    at : (here rest : Bool) → (not here && rest) ≡ true → (rest ≡ true → Lacks b xs) → (here ≡ false) × Lacks b xs
    at true rest e later = cc
    at false rest e later = (refl, later e)

-- the names of kinds hold neither ETX nor an asterisk
clear-design : (k : Kind) → (list_all (λ x. not (eqb x 3)) (design_of k) ≡ true) × (list_all (λ x. not (eqb x 42)) (design_of k) ≡ true)
clear-design Pal16L8 = (refl, refl)
clear-design Pal16R4 = (refl, refl)
clear-design Pal16R6 = (refl, refl)
clear-design Pal16R8 = (refl, refl)
clear-design Pal20L8 = (refl, refl)
clear-design Pal20R4 = (refl, refl)
clear-design Pal20R6 = (refl, refl)
clear-design Pal20R8 = (refl, refl)
clear-design Gal16V8 = (refl, refl)
clear-design Gal20V8 = (refl, refl)
clear-design Gal22V10 = (refl, refl)
clear-design Gal22V10Q = (refl, refl)

clear-pins : (k : Kind) → (list_all (λ x. not (eqb x 3)) (pins_digits k) ≡ true) × (list_all (λ x. not (eqb x 42)) (pins_digits k) ≡ true)
clear-pins k = at (eqb (pins_of k) 20)
  where
    at : (b : Bool) → (list_all (λ x. not (eqb x 3)) (if b then codes "20" else codes "24") ≡ true) × (list_all (λ x. not (eqb x 42)) (if b then codes "20" else codes "24") ≡ true)
    at true = (refl, refl)
    at false = (refl, refl)

-- what is written of a kind is read back, whatever stands before it but STX
pub written-read : (k : Kind) (bits : List Bool) (before : List ℕ) → IsTrue (has_count k (length bits)) → Lacks 2 before →
    fuses_of_text (before ++ written_fuses k bits) ≡ Ok bits
written-read k bits before h front =
    read_back before (design_of k) (pins_digits k) (written_groups k bits) front
    (record { low = lit< tt; blank = refl; in_design = lacks-test 3 (design_of k) (clear-design k).0; in_pins = lacks-test 3 (pins_digits k) (clear-pins k).0 })
    (record { low = lit< tt; blank = refl; in_design = lacks-test 42 (design_of k) (clear-design k).1; in_pins = lacks-test 42 (pins_digits k) (clear-pins k).1 })
    (let n : length (states_of_groups (written_groups k bits)) ≡ length bits = ap length states in let few : length bits ≤ 5892 = count.few in omega arith)
    ∙ ap Ok states
  where
    count : IsCount k (length bits)
    count = is_count k (length bits) h

    states : states_of_groups (written_groups k bits) ≡ bits
    states = written-states k bits (is_count k (length bits) h)

-- a line of fuses is eight bytes longer than they are many
line-length : (first : ℕ) (states : List Bool) → length (written_line (listing_line first states)) ≡ length states + 8
line-length first states = omega (arith, length-append (map state_digit states) (42 ∷ 10 ∷ []), length-map states state_digit)

pub lines-length : (first : ℕ) (gs : List Group) → length (flat_map written_line (group_lines first gs)) ≤ length (states_of_groups gs) + 8 * length gs
lines-length first [] = lit≤ tt
lines-length first (g ∷ gs) = at (is_written g) (lines-length (first + length g.states) gs)
  where
    at : (b : Bool) → length (flat_map written_line (group_lines (first + length g.states) gs)) ≤ length (states_of_groups gs) + 8 * length gs →
        length (flat_map written_line ((if b then listing_line first g.states ∷ [] else []) ++ group_lines (first + length g.states) gs)) ≤ length (states_of_groups (g ∷ gs)) + 8 * length (g ∷ gs)
    at true later = omega (arith, later, line-length first g.states, length-append (written_line (listing_line first g.states)) (flat_map written_line (group_lines (first + length g.states) gs)), length-append g.states (states_of_groups gs))
    at false later = omega (arith, later, length-append g.states (states_of_groups gs))

pub groups_by-length : (always : Bool) (sizes : List ℕ) (bits : List Bool) → length (groups_by always sizes bits) ≡ length sizes
groups_by-length always [] bits = refl
groups_by-length always (n ∷ ns) bits = ap suc (groups_by-length always ns (drop n bits))

pins-length : (k : Kind) → length (pins_digits k) ≡ 2
pins-length k = at (eqb (pins_of k) 20)
  where
    at : (b : Bool) → length (if b then codes "20" else codes "24") ≡ 2
    at true = refl
    at false = refl

rows-few : (k : Kind) → array_rows k ≤ 132
rows-few k = at (is_22 k)
  where
    at : (b : Bool) → (if b then 132 else 64) ≤ 132
    at true = lit≤ tt
    at false = lit≤ tt

tails-few : (k : Kind) (n : ℕ) → length (tail_sizes k n) ≤ 6
tails-few k n = at (is_v8 k) (is_22 k) (eqb n 5892)
  where
    at : (a b c : Bool) → length (if a then tail_sizes_v8 else (if b then (if c then 20 ∷ 64 ∷ [] else 20 ∷ []) else [])) ≤ 6
    at true b c = lit≤ tt
    at false true true = lit≤ tt
    at false true false = lit≤ tt
    at false false c = lit≤ tt

groups-few : (k : Kind) (bits : List Bool) → length (written_groups k bits) ≤ 138
groups-few k bits = omega (
  arith,
  rows-few k,
  tails-few k (length bits),
  length-replicate (array_rows k) (array_width k),
  length-append (groups_by false (row_sizes k) (take (array_rows k * array_width k) bits)) (groups_by true (tail_sizes k (length bits)) (drop (array_rows k * array_width k) bits)),
  groups_by-length false (row_sizes k) (take (array_rows k * array_width k) bits),
  groups_by-length true (tail_sizes k (length bits)) (drop (array_rows k * array_width k) bits),
)

-- the text around the lines of groups
around-length : (design pins : List ℕ) (gs : List Group) →
    length (written_text design pins gs) ≡ length design + length pins + 36 + length (flat_map written_line (group_lines 0 gs))
around-length design pins gs =
    omega (
      arith,
      length-append (2 ∷ written_body design pins gs) (3 ∷ sum_digits),
      length-append ((2 ∷ written_body design pins gs) ++ 3 ∷ sum_digits) (10 ∷ []),
      length-append (design ++ 42 ∷ 10 ∷ []) behind_design,
      length-append design (42 ∷ 10 ∷ []),
      length-append (pins ++ 42 ∷ 10 ∷ []) behind_pins,
      length-append pins (42 ∷ 10 ∷ []),
      ap length (flat_map-append written_line (group_lines 0 gs) (fuses ∷ [])),
      length-append (flat_map written_line (group_lines 0 gs)) (written_line fuses),
    )
  where
    fuses : List ℕ
    fuses = 67 ∷ four_hex (fuse_sum (states_of_groups gs))

    sum_digits : List ℕ
    sum_digits = four_hex ((5 + sum (written_body design pins gs)) % 65536)

    behind_pins : List ℕ
    behind_pins = flat_map written_line ((codes "QF" ++ four_digits (length (states_of_groups gs))) ∷ codes "G0" ∷ codes "F0" ∷ group_lines 0 gs ++ fuses ∷ [])

    behind_design : List ℕ
    behind_design = flat_map written_line ((codes "QP" ++ pins) ∷ (codes "QF" ++ four_digits (length (states_of_groups gs))) ∷ codes "G0" ∷ codes "F0" ∷ group_lines 0 gs ++ fuses ∷ [])

-- what is written fits a file
pub written-short : (k : Kind) (bits : List Bool) → IsTrue (has_count k (length bits)) → length (written_fuses k bits) ≤ 1048576
written-short k bits h =
    let states : length (states_of_groups (written_groups k bits)) ≡ length bits = ap length (written-states k bits (is_count k (length bits) h)) in
    let few : length bits ≤ 5892 = (is_count k (length bits) h).few in
    omega (arith, around-length (design_of k) (pins_digits k) (written_groups k bits), lines-length 0 (written_groups k bits), groups-few k bits, kind-name-length k, pins-length k, length-append (codes "palmig ") (kind_name k))
