-- Numbers of one to nine digits, read digit by digit.
use Rattle.std.proofs.Common.{ℕ, zero, suc, ◌≡◌, ◌+◌, ◌-◌, ◌*◌, ◌^◌, ◌<◌, ◌≤◌, Bool, true, false, cond, eqb, ◌&&◌, List, [], ◌∷◌, length, take, get_or, Some, None, refl, ap, ◌∙◌, arith, add-one}
use Rattle.std.specs.Prelude.{nat_le}
use Rattle.std.specs.List.{AllByRecursion, list_all}
use Rattle.std.proofs.lemmas.Bool.{eqb-true, and_parts, and_from, leb-true, le-leb, lt-leb, and_right}
use Rattle.std.proofs.Math.Nat.{pow-le-pow_right, pow-suc}
use Rattle.mig_base.specs.Numbers.{digit_value, digits_on, digits_of, in_base}
use Rattle.mig_base.specs.Lines.{number_of, whole, is_empty}
use Rattle.text_lines.proofs.Numerals.{IsDigit, digit_values, digits-whole, in_base-push, values-push}
use Rattle.std.proofs.lemmas.List.{take_more, take_all, length-map}

abbrev pub is_digit : ℕ → Bool
is_digit b = nat_le 48 b && nat_le b 57

all-digits : (w : List ℕ) → list_all is_digit w ≡ true → AllByRecursion IsDigit w
all-digits [] h = tt
all-digits (b ∷ w) h =
    let parts : (is_digit b ≡ true) × (list_all is_digit w ≡ true) = and_parts _ _ h in
    let both : (nat_le 48 b ≡ true) × (nat_le b 57 ≡ true) = and_parts _ _ parts.0 in
    ((leb-true 48 b both.0, leb-true b 57 both.1), all-digits w parts.1)

-- where a byte is no digit, bytes are left
left-over : (w : List ℕ) → list_all is_digit w ≡ false → is_empty (digits_of digit_value w).1 ≡ false
left-over [] h = cc
left-over (b ∷ w) h = at (is_digit b) h (left-over w)
  where
    at : (t : Bool) → (t && list_all is_digit w) ≡ false → (list_all is_digit w ≡ false → is_empty (digits_of digit_value w).1 ≡ false) →
        is_empty (digits_on (cond t (Some (b - 48)) None) b w (digits_of digit_value w)).1 ≡ false
    at true k rest = rest k
    at false k rest = refl

not-whole : (t : Bool) (n : ℕ) (rest : List ℕ) → is_empty rest ≡ false → whole (cond t (Some (n, rest)) None) ≡ None
not-whole true n [] h = cc
not-whole true n (b ∷ rest) h = refl
not-whole false n rest h = refl

pub number-other : (w : List ℕ) → list_all is_digit w ≡ false → number_of w ≡ None
number-other w h = not-whole _ _ (digits_of digit_value w).1 (left-over w h)

digits-read : (w : List ℕ) → list_all is_digit w ≡ true →
    number_of w ≡ whole (cond (nat_le 1 (length (digit_values w)) && nat_le (length (digit_values w)) 9) (Some (in_base 10 0 (digit_values w), [])) None)
digits-read w h = ap (λ (p : List ℕ × List ℕ). whole (cond (nat_le 1 (length p.0) && nat_le (length p.0) 9) (Some (in_base 10 0 p.0, p.1)) None)) (digits-whole w (all-digits w h))

pub number-long : (w : List ℕ) → 9 < length w → number_of w ≡ None
number-long w long = at (list_all is_digit w) refl
  where
    at : (t : Bool) → list_all is_digit w ≡ t → number_of w ≡ None
    at false e = number-other w e
    at true e =
        digits-read w e
        ∙ ap (λ (t : Bool). whole (cond t (Some (in_base 10 0 (digit_values w), [])) None))
        (and_right (nat_le 1 (length (digit_values w))) _ (lt-leb (length (digit_values w)) 9 (let e : length (digit_values w) ≡ length w = length-map w (λ b. b - 48) in omega arith)))

pub number-digits : (w : List ℕ) → list_all is_digit w ≡ true → 1 ≤ length w → length w ≤ 9 → number_of w ≡ Some (in_base 10 0 (digit_values w))
number-digits w h some short =
    let e : length (digit_values w) ≡ length w = length-map w (λ b. b - 48) in
    digits-read w h
    ∙ ap (λ (t : Bool). whole (cond t (Some (in_base 10 0 (digit_values w), [])) None))
    (and_from _ _ (le-leb 1 (length (digit_values w)) (omega arith)) (le-leb (length (digit_values w)) 9 (omega arith)))

-- one more digit
pub value-more : (w : List ℕ) (i : ℕ) (d : ℕ) → i < length w → in_base 10 0 (digit_values (take (i + 1) w)) ≡ in_base 10 0 (digit_values (take i w)) * 10 + (get_or w i d - 48)
value-more w i d lt =
    ap (λ (x : List ℕ). in_base 10 0 (digit_values x)) (take_more w i d lt)
    ∙ ap (in_base 10 0) (values-push (take i w) (get_or w i d)) ∙ in_base-push 10 0 (digit_values (take i w)) (get_or w i d - 48)

pub digit-at : (w : List ℕ) (i : ℕ) (d : ℕ) → list_all is_digit w ≡ true → i < length w → IsDigit (get_or w i d)
digit-at w i d h lt = at w i (all-digits w h) lt
  where
    at : (xs : List ℕ) (k : ℕ) → AllByRecursion IsDigit xs → k < length xs → IsDigit (get_or xs k d)
    at [] k all le = absurd (omega arith)
    at (x ∷ xs) zero all le = all.0
    at (x ∷ xs) (suc k) all le = at xs k all.1 (omega arith)

-- at most nine digits fit
pub power-low : (i : ℕ) → i < 9 → 10 ^ i ≤ 100000000
power-low i h = pow-le-pow_right {n = 10} (omega arith) {i = i} {j = 8} (omega arith)

pub power-more : (i : ℕ) → 10 ^ (i + 1) ≡ 10 ^ i * 10
power-more i = ap (λ (k : ℕ). 10 ^ k) (add-one i) ∙ pow-suc 10 i

pub number-empty : (w : List ℕ) → eqb (length w) 0 ≡ true → number_of w ≡ None
number-empty [] h = refl
number-empty (b ∷ w) h = let e : suc (length w) ≡ 0 = eqb-true (suc (length w)) 0 h in absurd (omega arith)

pub value-all : (w : List ℕ) (i : ℕ) → length w ≤ i → in_base 10 0 (digit_values (take i w)) ≡ in_base 10 0 (digit_values w)
value-all w i h = ap (λ (x : List ℕ). in_base 10 0 (digit_values x)) (take_all i w h)

pub some-bytes : (w : List ℕ) → eqb (length w) 0 ≡ false → 1 ≤ length w
some-bytes [] h = cc
some-bytes (b ∷ w) h = omega arith
