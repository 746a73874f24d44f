-- Points of lists of levels, and their order.
use Rattle.std.proofs.Common.{ℕ, zero, suc, ◌≡◌, ◌⊎◌, ◌+◌, ◌<◌, Bool, true, false, List, [], ◌∷◌, ◌++◌, length, refl, sym, ap, ◌∙◌, subst, arith, inl, inr}
use Rattle.std.proofs.lemmas.List.{append_assoc, get_or-append-add, get_or_append_left, length-append}
use Rattle.bdd.specs.Tree.{Point}
use Rattle.bdd.specs.Diagram.{IsEarlier, point_of}
use Rattle.mig_base.specs.declared.levels.Level.{Level}
use Rattle.mig_base.specs.declared.levels.Level.TheVariants.{Zero, One, Z, X}
use Rattle.leaves.specs.declared.Range.{Range}
use Rattle.leaves.specs.declared.Range.TheVariants.{Bit, OrX, OrZ}
use Rattle.leaves.specs.Orders.{AreBefore}
use Rattle.leaves.specs.Leaves.{AllFit, Fits, leaf_level, leaf_levels, leaves_from, level_by, point_of_levels, variables_of, width}
use Rattle.leaves.proofs.Heads.{IsEqual, IsLater, head-lower, head-same, level-back, nth}

pub width-is : (r : Range) (x : Level) → length (variables_of r x) ≡ width r
width-is Bit Zero = refl
width-is Bit One = refl
width-is Bit Z = refl
width-is Bit X = refl
width-is OrX Zero = refl
width-is OrX One = refl
width-is OrX Z = refl
width-is OrX X = refl
width-is OrZ Zero = refl
width-is OrZ One = refl
width-is OrZ Z = refl
width-is OrZ X = refl

one-wide : (r : Range) → (width r ≡ 2 → ⊥) → (b c : Bool) → (a : Bool) → level_by r a b ≡ level_by r a c
one-wide Bit h b c a = refl
one-wide OrX h b c a = absurd (h refl)
one-wide OrZ h b c a = absurd (h refl)

-- the first variable of what follows, and the second one where there is one
first-at : (before : List Bool) (r : Range) (x : Level) (rest : List Bool) → point_of (before ++ (variables_of r x ++ rest)) (length before) ≡ nth r x 0
first-at before r x rest =
    ap (point_of (before ++ (variables_of r x ++ rest))) (let e : length before ≡ length before + 0 = omega arith in e)
    ∙ get_or-append-add before (variables_of r x ++ rest) 0 false
    ∙ get_or_append_left (variables_of r x) rest false 0 (at r x)
  where
    at : (r : Range) (x : Level) → 0 < length (variables_of r x)
    at r x = wide r (width-is r x)
      where
        wide : (r : Range) → length (variables_of r x) ≡ width r → 0 < length (variables_of r x)
        wide Bit e = omega arith
        wide OrX e = omega arith
        wide OrZ e = omega arith

second-at : (before : List Bool) (r : Range) (x : Level) (rest : List Bool) → width r ≡ 2 → point_of (before ++ (variables_of r x ++ rest)) (length before + 1) ≡ nth r x 1
second-at before r x rest e =
    get_or-append-add before (variables_of r x ++ rest) 1 false
    ∙ get_or_append_left (variables_of r x) rest false 1 (let long : length (variables_of r x) ≡ width r = width-is r x in omega arith)

head-is : (before : List Bool) (r : Range) (x : Level) (rest : List Bool) → Fits r x →
    leaf_level (record { place = length before; range = r }) (point_of (before ++ (variables_of r x ++ rest))) ≡ x
head-is before r x rest fits = at r fits (first-at before r x rest) (second-at before r x rest)
  where
    at : (r : Range) → Fits r x → point_of (before ++ (variables_of r x ++ rest)) (length before) ≡ nth r x 0 →
        (width r ≡ 2 → point_of (before ++ (variables_of r x ++ rest)) (length before + 1) ≡ nth r x 1) →
        level_by r (point_of (before ++ (variables_of r x ++ rest)) (length before)) (point_of (before ++ (variables_of r x ++ rest)) (length before + 1)) ≡ x
    at Bit fits e f = ap (λ (a : Bool). level_by Bit a false) e ∙ level-back Bit x fits
    at OrX fits e f = (λ i. level_by OrX (e i) (f refl i)) ∙ level-back OrX x fits
    at OrZ fits e f = (λ i. level_by OrZ (e i) (f refl i)) ∙ level-back OrZ x fits

after : (before : List Bool) (r : Range) (x : Level) → length (before ++ variables_of r x) ≡ length before + width r
after before r x = length-append before (variables_of r x) ∙ ap (λ (n : ℕ). length before + n) (width-is r x)

pub have-points : (before : List Bool) (rs : List Range) (levels : List Level) → AllFit rs levels →
    leaf_levels (point_of (before ++ point_of_levels rs levels)) (leaves_from (length before) rs) ≡ levels
have-points before [] [] fits = refl
have-points before [] (x ∷ xs) fits = absurd fits
have-points before (r ∷ rs) [] fits = absurd fits
have-points before (r ∷ rs) (x ∷ xs) fits =
    let rest : List Bool = point_of_levels rs xs in
    let whole : List Bool = before ++ (variables_of r x ++ rest) in
    let tail : leaf_levels (point_of ((before ++ variables_of r x) ++ rest)) (leaves_from (length (before ++ variables_of r x)) rs) ≡ xs = have-points (before ++ variables_of r x) rs xs fits.1 in
    let moved : leaf_levels (point_of whole) (leaves_from (length before + width r) rs) ≡ xs =
    subst (λ (n : ℕ). leaf_levels (point_of whole) (leaves_from n rs) ≡ xs) (after before r x)
    (subst (λ (bs : List Bool). leaf_levels (point_of bs) (leaves_from (length (before ++ variables_of r x)) rs) ≡ xs) (append_assoc before (variables_of r x) rest) tail) in
    (λ i. head-is before r x rest fits.0 i ∷ moved i)

-- a point that is later at a leaf, where all before is equal
record Fork (n : ℕ) (q p : Point) (here : ℕ) : Type 0 where
  equal : (w : ℕ) → w < here → q w ≡ p w
  low : q here ≡ false
  high : p here ≡ true
  within : here < n

earlier-at : (n : ℕ) (q p : Point) (here : ℕ) → Fork n q p here → IsEarlier n q p
earlier-at n q p here f = record { var = here; within = f.within; before = f.equal; here = f.low; there = f.high }

equal-more : (q p : Point) (n : ℕ) → ((w : ℕ) → w < n → q w ≡ p w) → q n ≡ p n → (w : ℕ) → w < n + 1 → q w ≡ p w
equal-more q p n equal here w lt = at (cases w n)
  where
    cases : (w n : ℕ) → (w < n) ⊎ ((w ≡ n) ⊎ (n < w))
    cases zero zero = inr (inl refl)
    cases zero (suc n) = inl (omega arith)
    cases (suc w) zero = inr (inr (omega arith))
    cases (suc w) (suc n) = up (cases w n)
      where
        up : (w < n) ⊎ ((w ≡ n) ⊎ (n < w)) → (suc w < suc n) ⊎ ((suc w ≡ suc n) ⊎ (suc n < suc w))
        up (inl h) = inl (omega arith)
        up (inr (inl h)) = inr (inl (ap suc h))
        up (inr (inr h)) = inr (inr (omega arith))

    at : (w < n) ⊎ ((w ≡ n) ⊎ (n < w)) → q w ≡ p w
    at (inl h) = equal w h
    at (inr (inl e)) = ap q e ∙ here ∙ sym (ap p e)
    at (inr (inr h)) = absurd (omega arith)

within-all : (before : List Bool) (r : Range) (x : Level) (rest : List Bool) → length before + width r < length (before ++ (variables_of r x ++ rest)) + 1
within-all before r x rest =
    let a : length (before ++ (variables_of r x ++ rest)) ≡ length before + length (variables_of r x ++ rest) = length-append before (variables_of r x ++ rest) in
    let b : length (variables_of r x ++ rest) ≡ length (variables_of r x) + length rest = length-append (variables_of r x) rest in
    let c : length (variables_of r x) ≡ width r = width-is r x in omega arith

width-some : (r : Range) → 0 < width r
width-some Bit = omega arith
width-some OrX = omega arith
width-some OrZ = omega arith

-- later at the first leaf
later-here : (before : List Bool) (r : Range) (x : Level) (rest : List Bool) (p : Point) →
    ((w : ℕ) → w < length before → point_of (before ++ (variables_of r x ++ rest)) w ≡ p w) → IsLater r x (p (length before)) (p (length before + 1)) →
    IsEarlier (length (before ++ (variables_of r x ++ rest))) (point_of (before ++ (variables_of r x ++ rest))) p
later-here before r x rest p equal (inl h) =
    let q = point_of (before ++ (variables_of r x ++ rest)) in
    let room = within-all before r x rest in
    let some = width-some r in
    earlier-at (length (before ++ (variables_of r x ++ rest))) q p (length before)
    (record { equal = equal; low = first-at before r x rest ∙ h.0; high = h.1; within = omega arith })
later-here before r x rest p equal (inr h) =
    let q = point_of (before ++ (variables_of r x ++ rest)) in
    let room = within-all before r x rest in
    let two : width r ≡ 2 = h.0 in
    earlier-at (length (before ++ (variables_of r x ++ rest))) q p (length before + 1)
    (record {
      equal = equal-more q p (length before) equal (first-at before r x rest ∙ h.1);
      low = second-at before r x rest two ∙ h.2;
      high = h.3;
      within = omega arith;
    })

equal-here : (before : List Bool) (r : Range) (x : Level) (rest : List Bool) (p : Point) →
    ((w : ℕ) → w < length before → point_of (before ++ (variables_of r x ++ rest)) w ≡ p w) → IsEqual r x (p (length before)) (p (length before + 1)) →
    (w : ℕ) → w < length (before ++ variables_of r x) → point_of (before ++ (variables_of r x ++ rest)) w ≡ p w
equal-here before r x rest p equal h w lt = at r refl (second-at before r x rest) h.1
  where
    q : Point
    q = point_of (before ++ (variables_of r x ++ rest))

    first : (v : ℕ) → v < length before + 1 → point_of (before ++ (variables_of r x ++ rest)) v ≡ p v
    first = equal-more (point_of (before ++ (variables_of r x ++ rest))) p (length before) equal (first-at before r x rest ∙ h.0)

    at : (s : Range) → r ≡ s → (width r ≡ 2 → point_of (before ++ (variables_of r x ++ rest)) (length before + 1) ≡ nth r x 1) → (width r ≡ 2 → nth r x 1 ≡ p (length before + 1)) →
        point_of (before ++ (variables_of r x ++ rest)) w ≡ p w
    at Bit e f g = let is : width r ≡ 1 = ap width e in let long : length (before ++ variables_of r x) ≡ length before + width r = after before r x in first w (omega arith)
    at OrX e f g =
        let is : width r ≡ 2 = ap width e in
        let long : length (before ++ variables_of r x) ≡ length before + width r = after before r x in
        equal-more (point_of (before ++ (variables_of r x ++ rest))) p (length before + 1) first (f is ∙ g is) w (omega arith)
    at OrZ e f g =
        let is : width r ≡ 2 = ap width e in
        let long : length (before ++ variables_of r x) ≡ length before + width r = after before r x in
        equal-more (point_of (before ++ (variables_of r x ++ rest))) p (length before + 1) first (f is ∙ g is) w (omega arith)

pub lower-earlier : (before : List Bool) (rs : List Range) (levels : List Level) (p : Point) → AllFit rs levels → AreBefore levels (leaf_levels p (leaves_from (length before) rs)) →
    ((w : ℕ) → w < length before → point_of (before ++ point_of_levels rs levels) w ≡ p w) →
    IsEarlier (length (before ++ point_of_levels rs levels)) (point_of (before ++ point_of_levels rs levels)) p
lower-earlier before [] [] p fits less equal = absurd less
lower-earlier before [] (x ∷ xs) p fits less equal = absurd fits
lower-earlier before (r ∷ rs) [] p fits less equal = absurd fits
lower-earlier before (r ∷ rs) (x ∷ xs) p fits (inl lower) equal =
    later-here before r x (point_of_levels rs xs) p equal (head-lower r x (p (length before)) (p (length before + 1)) fits.0 lower)
lower-earlier before (r ∷ rs) (x ∷ xs) p fits (inr same) equal =
    at (head-same r x (p (length before)) (p (length before + 1)) fits.0 same.0)
    (λ equal_more.
    let rest : List Bool = point_of_levels rs xs in
    let assoc : (before ++ variables_of r x) ++ rest ≡ before ++ (variables_of r x ++ rest) = append_assoc before (variables_of r x) rest in
    subst (λ (bs : List Bool). IsEarlier (length bs) (point_of bs) p) assoc
    (lower-earlier (before ++ variables_of r x) rs xs p fits.1
    (subst (λ (n : ℕ). AreBefore xs (leaf_levels p (leaves_from n rs))) (sym (after before r x)) same.1)
    (λ w lt. ap (λ (bs : List Bool). point_of bs w) assoc ∙ equal_more w lt)))
  where
    at : IsLater r x (p (length before)) (p (length before + 1)) ⊎ IsEqual r x (p (length before)) (p (length before + 1)) →
        (((w : ℕ) → w < length (before ++ variables_of r x) → point_of (before ++ (variables_of r x ++ point_of_levels rs xs)) w ≡ p w) →
        IsEarlier (length (before ++ (variables_of r x ++ point_of_levels rs xs))) (point_of (before ++ (variables_of r x ++ point_of_levels rs xs))) p) →
        IsEarlier (length (before ++ (variables_of r x ++ point_of_levels rs xs))) (point_of (before ++ (variables_of r x ++ point_of_levels rs xs))) p
    at (inl later) on = later-here before r x (point_of_levels rs xs) p equal later
    at (inr same) on = on (equal-here before r x (point_of_levels rs xs) p equal same)

pub levels-points : (rs : List Range) (levels : List Level) → AllFit rs levels → leaf_levels (point_of (point_of_levels rs levels)) (leaves_from 0 rs) ≡ levels
levels-points rs levels fits = have-points [] rs levels fits

pub levels-earlier : (rs : List Range) (levels : List Level) (p : Point) (n : ℕ) → AllFit rs levels → AreBefore levels (leaf_levels p (leaves_from 0 rs)) →
    length (point_of_levels rs levels) ≡ n → IsEarlier n (point_of (point_of_levels rs levels)) p
levels-earlier rs levels p n fits less count =
    subst (λ (m : ℕ). IsEarlier m (point_of (point_of_levels rs levels)) p) count (lower-earlier [] rs levels p fits less (λ w lt. absurd (omega arith)))
