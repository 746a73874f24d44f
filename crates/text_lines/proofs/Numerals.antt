-- A written decimal number is read back.
use Rattle.std.proofs.Common.{ℕ, suc, ◌≡◌, ◌+◌, ◌-◌, ◌*◌, ◌/◌, ◌%◌, ◌^◌, ◌<◌, ◌≤◌, Bool, true, cond, ◌&&◌, List, [], ◌∷◌, ◌++◌, map, length, Option, Some, None, refl, ap, ◌∙◌, arith}
use Rattle.std.specs.Prelude.{nat_le}
use Rattle.std.specs.List.{AllByRecursion}
use Rattle.std.specs.Fmt.{decimal}
use Rattle.std.proofs.lemmas.Fmt.{decimal_by_steps, length-decimal-le}
use Rattle.std.proofs.lemmas.Bool.{le-leb, and_from}
use Rattle.mig_base.specs.Numbers.{digit_value, digits_on, digits_of, in_base, number_at}
use Rattle.mig_base.specs.Lines.{number_of, whole}

abbrev pub IsDigit : ℕ → Type 0
IsDigit b = (48 ≤ b) × (b ≤ 57)

abbrev pub digit_values : List ℕ → List ℕ
digit_values bs = map (λ b. b - 48) bs

-- digits that spell this number
pub record Spells (n : ℕ) (word : List ℕ) : Type 0 where
  pub digits : AllByRecursion IsDigit word
  pub value : in_base 10 0 (digit_values word) ≡ n
  pub some : 1 ≤ length word

digit-is : (b : ℕ) → IsDigit b → digit_value b ≡ Some (b - 48)
digit-is b h = ap (λ (t : Bool). cond t (Some (b - 48)) None) (and_from (nat_le 48 b) (nat_le b 57) (le-leb 48 b h.0) (le-leb b 57 h.1))

pub digits-whole : (word : List ℕ) → AllByRecursion IsDigit word → digits_of digit_value word ≡ (digit_values word, [])
digits-whole [] h = refl
digits-whole (b ∷ bs) h =
    ap (λ (o : Option ℕ). digits_on o b bs (digits_of digit_value bs)) (digit-is b h.0)
    ∙ ap (λ (p : List ℕ × List ℕ). digits_on (Some (b - 48)) b bs p) (digits-whole bs h.1)

pub in_base-push : (base high : ℕ) (ds : List ℕ) (d : ℕ) → in_base base high (ds ++ d ∷ []) ≡ in_base base high ds * base + d
in_base-push base high [] d = refl
in_base-push base high (c ∷ ds) d = in_base-push base (high * base + c) ds d

all-push : (ds : List ℕ) (d : ℕ) → AllByRecursion IsDigit ds → IsDigit d → AllByRecursion IsDigit (ds ++ d ∷ [])
all-push [] d h k = (k, tt)
all-push (c ∷ ds) d h k = (h.0, all-push ds d h.1 k)

spells-one : (n : ℕ) → n < 10 → Spells n ((48 + n) ∷ [])
spells-one n h = record { digits = ((omega arith, omega arith), tt); value = omega arith; some = omega arith }

pub values-push : (ds : List ℕ) (d : ℕ) → digit_values (ds ++ d ∷ []) ≡ digit_values ds ++ (d - 48) ∷ []
values-push [] d = refl
values-push (c ∷ ds) d = ap (λ (xs : List ℕ). (c - 48) ∷ xs) (values-push ds d)

spells-more : (n : ℕ) (ds : List ℕ) → 10 ≤ n → Spells (n / 10) ds → Spells n (ds ++ ((48 + n % 10) ∷ []))
spells-more n ds h s =
    let low : n % 10 < 10 = omega arith in
    let back : 10 * (n / 10) + n % 10 ≡ n = omega arith in
    let e : in_base 10 0 (digit_values (ds ++ (48 + n % 10) ∷ [])) ≡ in_base 10 0 (digit_values ds) * 10 + (48 + n % 10 - 48) =
    ap (in_base 10 0) (values-push ds (48 + n % 10)) ∙ in_base-push 10 0 (digit_values ds) (48 + n % 10 - 48) in
    record {
      digits = all-push ds (48 + n % 10) s.digits (omega arith, omega arith);
      value = e ∙ (let v : in_base 10 0 (digit_values ds) ≡ n / 10 = s.value in omega arith);
      some = more ds (48 + n % 10);
    }
  where
    more : (xs : List ℕ) (x : ℕ) → 1 ≤ length (xs ++ x ∷ [])
    more [] x = omega arith
    more (y ∷ ys) x = omega arith

pub decimal-spells : (n : ℕ) → n < 2 ^ 64 → Spells n (decimal n)
decimal-spells n h = decimal_by_steps (λ k w. Spells k w) spells-one spells-more n h

-- a number of at most nine digits is read back
pub number-decimal : (n : ℕ) → n < 1000000000 → number_of (decimal n) ≡ Some n
number-decimal n h =
    let s : Spells n (decimal n) = decimal-spells n (omega arith) in
    let short : length (decimal n) ≤ 9 = length-decimal-le 9 n (omega arith) (omega arith) (omega arith) in
    read (decimal n) n s short
  where
    length-values : (w : List ℕ) → length (digit_values w) ≡ length w
    length-values [] = refl
    length-values (b ∷ w) = ap suc (length-values w)

    at : (w : List ℕ) (p : List ℕ × List ℕ) → digits_of digit_value w ≡ p →
        number_at digit_value 10 9 w ≡ cond (nat_le 1 (length p.0) && nat_le (length p.0) 9) (Some (in_base 10 0 p.0, p.1)) None
    at w p e = ap (λ (q : List ℕ × List ℕ). cond (nat_le 1 (length q.0) && nat_le (length q.0) 9) (Some (in_base 10 0 q.0, q.1)) None) e

    read : (w : List ℕ) (k : ℕ) → Spells k w → length w ≤ 9 → number_of w ≡ Some k
    read w k s short =
        let l : length (digit_values w) ≡ length w = length-values w in
        let some : 1 ≤ length w = s.some in
        let t : (nat_le 1 (length (digit_values w)) && nat_le (length (digit_values w)) 9) ≡ true =
        and_from _ _ (le-leb 1 (length (digit_values w)) (omega arith)) (le-leb (length (digit_values w)) 9 (omega arith)) in
        ap whole (at w (digit_values w, []) (digits-whole w s.digits))
        ∙ ap (λ (b : Bool). whole (cond b (Some (in_base 10 0 (digit_values w), [])) None)) t
        ∙ ap (λ (v : ℕ). Some v) s.value
