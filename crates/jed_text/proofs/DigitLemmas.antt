-- A number that is read digit by digit.
use Rattle.std.proofs.Common.{ℕ, suc, ◌≡◌, ◌<◌, ◌≤◌, ◌+◌, ◌*◌, ◌^◌, Bool, true, false, cond, ◌&&◌, List, [], ◌∷◌, drop, length, get_or, Option, Some, None, leb, refl, sym, ap, ◌∙◌, subst, arith, lit<}
use Rattle.std.proofs.lemmas.Bool.{le-leb, lt-leb}
use Rattle.std.proofs.Math.Nat.{pow-suc, pow-le-pow_right, mul-le-mul_right}
use Rattle.mig_base.specs.Numbers.{digits_on, digits_of, in_base, number_at}
use Rattle.mig_base.specs.FuseText.{is_blank, skip_blanks}
use Rattle.jed_text.specs.declared.numbers.Base.{Base}
use Rattle.jed_text.specs.declared.numbers.Base.TheVariants.{Decimal, Hexadecimal}
use Rattle.jed_text.specs.Digits.{value_of, base_of}
use Rattle.jed_text.proofs.Lists.{drop_next, drop_all}

-- the blanks at the front are skipped one by one
pub skip-more : (text : List ℕ) (i : ℕ) → i < length text → is_blank (get_or text i 0) ≡ true → skip_blanks (drop i text) ≡ skip_blanks (drop (i + 1) text)
skip-more text i lt e = ap skip_blanks (drop_next text i 0 lt) ∙ ap (λ b. cond b (skip_blanks (drop (i + 1) text)) (get_or text i 0 ∷ drop (i + 1) text)) e

pub skip-stop : (text : List ℕ) (i : ℕ) → i < length text → is_blank (get_or text i 0) ≡ false → skip_blanks (drop i text) ≡ drop i text
skip-stop text i lt e = ap skip_blanks (drop_next text i 0 lt) ∙ ap (λ b. cond b (skip_blanks (drop (i + 1) text)) (get_or text i 0 ∷ drop (i + 1) text)) e ∙ sym (drop_next text i 0 lt)

-- the digits before the place i are read, and give the number
pub record IsReadTo (base : Base) (text : List ℕ) (i number : ℕ) : Type 0 where
  pub value : in_base (base_of base) 0 (digits_of (value_of base) text).0 ≡ in_base (base_of base) number (digits_of (value_of base) (drop i text)).0
  pub count : length (digits_of (value_of base) text).0 ≡ i + length (digits_of (value_of base) (drop i text)).0
  pub rest : (digits_of (value_of base) text).1 ≡ (digits_of (value_of base) (drop i text)).1
  pub small : number < base_of base ^ i

pub read-start : (base : Base) (text : List ℕ) → IsReadTo base text 0 0
read-start base text = record { value = refl; count = omega arith; rest = refl; small = one base }
  where
    one : (b : Base) → 0 < base_of b ^ 0
    one Decimal = lit< tt
    one Hexadecimal = lit< tt

digits-here : (base : Base) (text : List ℕ) (i : ℕ) → i < length text →
    digits_of (value_of base) (drop i text) ≡ digits_on (value_of base (get_or text i 0)) (get_or text i 0) (drop (i + 1) text) (digits_of (value_of base) (drop (i + 1) text))
digits-here base text i lt = ap (digits_of (value_of base)) (drop_next text i 0 lt)

digits-digit : (base : Base) (text : List ℕ) (i d : ℕ) → i < length text → value_of base (get_or text i 0) ≡ Some d →
    digits_of (value_of base) (drop i text) ≡ (d ∷ (digits_of (value_of base) (drop (i + 1) text)).0, (digits_of (value_of base) (drop (i + 1) text)).1)
digits-digit base text i d lt e =
    digits-here base text i lt ∙ ap (λ o. digits_on o (get_or text i 0) (drop (i + 1) text) (digits_of (value_of base) (drop (i + 1) text))) e

digits-stop : (base : Base) (text : List ℕ) (i : ℕ) → i < length text → value_of base (get_or text i 0) ≡ None → digits_of (value_of base) (drop i text) ≡ ([], drop i text)
digits-stop base text i lt e =
    digits-here base text i lt ∙ ap (λ o. digits_on o (get_or text i 0) (drop (i + 1) text) (digits_of (value_of base) (drop (i + 1) text))) e
    ∙ ap (λ more. let p : List ℕ × List ℕ = ([], more) in p) (sym (drop_next text i 0 lt))

digits-end : (base : Base) (text : List ℕ) (i : ℕ) → i ≡ length text → digits_of (value_of base) (drop i text) ≡ ([], [])
digits-end base text i e = ap (digits_of (value_of base)) (drop_all text i e)

grow : (b p n d : ℕ) → n < p → d < b → n * b + d < p * b
grow b p n d h k = let le : (n + 1) * b ≤ p * b = mul-le-mul_right b (omega arith) in omega arith

pub read-step : (base : Base) (text : List ℕ) (i number d : ℕ) → IsReadTo base text i number → i < length text → value_of base (get_or text i 0) ≡ Some d → d < base_of base →
    IsReadTo base text (i + 1) (number * base_of base + d)
read-step base text i number d h lt e small = record {
  value = h.value ∙ ap (λ ds. in_base (base_of base) number ds.0) here;
  count = let n : length (digits_of (value_of base) (drop i text)).0 ≡ suc (length (digits_of (value_of base) (drop (i + 1) text)).0) = ap (λ ds. length ds.0) here in let before = h.count in omega arith;
  rest = h.rest ∙ ap (λ ds. ds.1) here;
  small = let power : base_of base ^ (i + 1) ≡ base_of base ^ i * base_of base = ap (λ k. base_of base ^ k) (let e : i + 1 ≡ suc i = omega arith in e) ∙ pow-suc (base_of base) i in
      let P : ℕ → Type 0 = λ m. number * base_of base + d < m in subst P (sym power) (grow (base_of base) (base_of base ^ i) number d h.small small);
}
  where
    here : digits_of (value_of base) (drop i text) ≡ (d ∷ (digits_of (value_of base) (drop (i + 1) text)).0, (digits_of (value_of base) (drop (i + 1) text)).1)
    here = digits-digit base text i d lt e

-- the number that these digits and the rest give
abbrev number_of : (base : Base) (most : ℕ) → List ℕ × List ℕ → Option (ℕ × List ℕ)
number_of base most ds = cond (leb 1 (length ds.0) && leb (length ds.0) most) (Some (in_base (base_of base) 0 ds.0, ds.1)) None

-- the digits end behind the first i ones
found : (base : Base) (text rest : List ℕ) (most i number : ℕ) → IsReadTo base text i number → 0 < i → i ≤ most → digits_of (value_of base) (drop i text) ≡ ([], rest) →
    number_at (value_of base) (base_of base) most text ≡ Some (number, rest)
found base text rest most i number h some few e =
    ap (λ b. cond b (Some (in_base (base_of base) 0 (digits_of (value_of base) text).0, (digits_of (value_of base) text).1)) None) test
    ∙ ap (λ n. let p : Option (ℕ × List ℕ) = Some (n, (digits_of (value_of base) text).1) in p) (h.value ∙ ap (λ ds. in_base (base_of base) number ds.0) e)
    ∙ ap (λ r. let p : Option (ℕ × List ℕ) = Some (number, r) in p) (h.rest ∙ ap (λ ds. ds.1) e)
  where
    n : length (digits_of (value_of base) text).0 ≡ i
    n = let none : length (digits_of (value_of base) (drop i text)).0 ≡ 0 = ap (λ ds. length ds.0) e in let before = h.count in omega arith

    both : (a b : Bool) → a ≡ true → b ≡ true → (a && b) ≡ true
    both a b ea eb = ap (λ a. a && b) ea ∙ eb

    test : (leb 1 (length (digits_of (value_of base) text).0) && leb (length (digits_of (value_of base) text).0) most) ≡ true
    test = let all : length (digits_of (value_of base) text).0 ≡ i = n in both (leb 1 (length (digits_of (value_of base) text).0)) (leb (length (digits_of (value_of base) text).0) most) (le-leb 1 (length (digits_of (value_of base) text).0) (omega arith)) (le-leb (length (digits_of (value_of base) text).0) most (omega arith))

pub read-stop : (base : Base) (text : List ℕ) (most i number : ℕ) → IsReadTo base text i number → i < length text → 0 < i → i ≤ most → value_of base (get_or text i 0) ≡ None →
    number_at (value_of base) (base_of base) most text ≡ Some (number, drop i text)
read-stop base text most i number h lt some few e = found base text (drop i text) most i number h some few (digits-stop base text i lt e)

pub read-end : (base : Base) (text : List ℕ) (most i number : ℕ) → IsReadTo base text i number → i ≡ length text → 0 < i → i ≤ most →
    number_at (value_of base) (base_of base) most text ≡ Some (number, [])
read-end base text most i number h end some few = found base text [] most i number h some few (digits-end base text i end)

pub read-over : (base : Base) (text : List ℕ) (most i number d : ℕ) → IsReadTo base text i number → i < length text → i ≡ most → value_of base (get_or text i 0) ≡ Some d →
    number_at (value_of base) (base_of base) most text ≡ None
read-over base text most i number d h lt over e =
    ap (λ b. cond (leb 1 (length (digits_of (value_of base) text).0) && b) (Some (in_base (base_of base) 0 (digits_of (value_of base) text).0, (digits_of (value_of base) text).1)) None) (lt-leb (length (digits_of (value_of base) text).0) most more)
    ∙ ap (λ b. cond b (Some (in_base (base_of base) 0 (digits_of (value_of base) text).0, (digits_of (value_of base) text).1)) None) (and-false (leb 1 (length (digits_of (value_of base) text).0)))
  where
    and-false : (b : Bool) → (b && false) ≡ false
    and-false true = refl
    and-false false = refl

    more : most < length (digits_of (value_of base) text).0
    more = let n : length (digits_of (value_of base) (drop i text)).0 ≡ suc (length (digits_of (value_of base) (drop (i + 1) text)).0) = ap (λ ds. length ds.0) (digits-digit base text i d lt e) in let before = h.count in omega arith

pub read-none : (base : Base) (text : List ℕ) (most i : ℕ) → i ≡ 0 → i < length text → value_of base (get_or text i 0) ≡ None → number_at (value_of base) (base_of base) most text ≡ None
read-none base [] most i zeroth lt e = refl
read-none base (b ∷ bs) most i zeroth lt e = ap (λ o. number_of base most (digits_on o b bs (digits_of (value_of base) bs))) first
  where
    first : value_of base b ≡ None
    first = ap (λ k. value_of base (get_or (b ∷ bs) k 0)) (sym zeroth) ∙ e

positive : (b : Base) → 0 < base_of b
positive Decimal = lit< tt
positive Hexadecimal = lit< tt

-- the next number fits where the digits are few enough
pub read-room : (base : Base) (text : List ℕ) (i number most d : ℕ) → IsReadTo base text i number → i < most → d < base_of base → number * base_of base + d < base_of base ^ most
read-room base text i number most d h few small =
    let power : base_of base ^ suc i ≡ base_of base ^ i * base_of base = pow-suc (base_of base) i in
    let le : base_of base ^ suc i ≤ base_of base ^ most = pow-le-pow_right (positive base) few in
    let lt : number * base_of base + d < base_of base ^ i * base_of base = grow (base_of base) (base_of base ^ i) number d h.small small in
    omega arith

pub read-fits : (base : Base) (text : List ℕ) (i number most : ℕ) → IsReadTo base text i number → i ≤ most → number < base_of base ^ most
read-fits base text i number most h few =
    let le : base_of base ^ i ≤ base_of base ^ most = pow-le-pow_right (positive base) few in let small = h.small in omega arith
