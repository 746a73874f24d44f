-- What a net's drivers make of it depends on which levels they drive alone, not on their order and number.
use Rattle.std.proofs.Common.{◌≡◌, Bool, true, false, not, cond, ◌||◌, List, [], ◌∷◌, refl, sym, ap, ◌∙◌, subst, inl, inr}
use Rattle.std.specs.List.{list_any, list_all, filter}
use Rattle.mig_base.specs.declared.levels.Level.{Level}
use Rattle.mig_base.specs.declared.levels.Level.TheVariants.{Zero, One, Z, X}
use Rattle.mig_base.specs.declared.nets.Pull.{Pull}
use Rattle.mig_base.specs.declared.circuit.NetKind.{NetKind}
use Rattle.mig_base.specs.declared.circuit.NetKind.TheVariants.{Ground, Power, Handed, Shared, Inner}
use Rattle.mig_base.specs.Among.{Among}
use Rattle.mig_base.specs.Levels.{same_level, is_driven, level_at}
use Rattle.mig_base.specs.Resolve.{pulled, resolved}
use Rattle.mig_base.proofs.Amongs.{any-among, among-any}
use Rattle.mig_base.proofs.ListLaws.{both-ways}
use Rattle.level_laws.specs.Settled.{level_by}

abbrev has : Level → List Level → Bool
has x xs = list_any (same_level x) xs

-- by whether a 0, a 1 and an X are driven
abbrev outcome : Pull → Bool → Bool → Bool → Level
outcome pull zeros ones unknown = cond unknown X (cond zeros (cond ones X Zero) (cond ones One (pulled pull)))

or-true : (q : Bool) → false ≡ not (q || true)
or-true true = refl
or-true false = refl

all-zero : (ys : List Level) → list_all (same_level Zero) (filter is_driven ys) ≡ not (has One ys || has X ys)
all-zero [] = refl
all-zero (Zero ∷ ys) = all-zero ys
all-zero (One ∷ ys) = refl
all-zero (Z ∷ ys) = all-zero ys
all-zero (X ∷ ys) = or-true (has One ys)

all-one : (ys : List Level) → list_all (same_level One) (filter is_driven ys) ≡ not (has Zero ys || has X ys)
all-one [] = refl
all-one (Zero ∷ ys) = refl
all-one (One ∷ ys) = all-one ys
all-one (Z ∷ ys) = all-one ys
all-one (X ∷ ys) = or-true (has Zero ys)

either-x : (q : Bool) → cond q X X ≡ X
either-x true = refl
either-x false = refl

zero-outcome : (pull : Pull) (o x : Bool) → cond (not (o || x)) Zero X ≡ outcome pull true o x
zero-outcome pull true true = refl
zero-outcome pull true false = refl
zero-outcome pull false true = refl
zero-outcome pull false false = refl

one-outcome : (pull : Pull) (z x : Bool) → cond (not (z || x)) One X ≡ outcome pull z true x
one-outcome pull true true = refl
one-outcome pull true false = refl
one-outcome pull false true = refl
one-outcome pull false false = refl

resolved-outcome : (pull : Pull) (xs : List Level) → resolved pull xs ≡ outcome pull (has Zero xs) (has One xs) (has X xs)
resolved-outcome pull [] = refl
resolved-outcome pull (Zero ∷ ys) = ap (λ (q : Bool). cond q Zero X) (all-zero ys) ∙ zero-outcome pull (has One ys) (has X ys)
resolved-outcome pull (One ∷ ys) = ap (λ (q : Bool). cond q One X) (all-one ys) ∙ one-outcome pull (has Zero ys) (has X ys)
resolved-outcome pull (Z ∷ ys) = resolved-outcome pull ys
resolved-outcome pull (X ∷ ys) = either-x (list_all (same_level X) (filter is_driven ys))

level-same : (x y : Level) → same_level x y ≡ true → x ≡ y
level-same Zero Zero e = refl
level-same One One e = refl
level-same Z Z e = refl
level-same X X e = refl
level-same Zero One e = cc
level-same Zero Z e = cc
level-same Zero X e = cc
level-same One Zero e = cc
level-same One Z e = cc
level-same One X e = cc
level-same Z Zero e = cc
level-same Z One e = cc
level-same Z X e = cc
level-same X Zero e = cc
level-same X One e = cc
level-same X Z e = cc

same-level : (x : Level) → same_level x x ≡ true
same-level Zero = refl
same-level One = refl
same-level Z = refl
same-level X = refl

has-among : (x : Level) (xs : List Level) → has x xs ≡ true → Among x xs
has-among x xs e = let found = any-among (same_level x) xs e in subst (λ (y : Level). Among y xs) (sym (level-same x found.0 found.2)) found.1

among-has : (x : Level) (xs : List Level) → Among x xs → has x xs ≡ true
among-has x xs a = among-any (same_level x) x xs a (same-level x)

-- each level but Z that stands in the one list stands in the other
pub record IsWithin (xs ys : List Level) : Type 0 where
  pub each : (x : Level) → is_driven x ≡ true → Among x xs → Among x ys

same-has : (x : Level) (xs ys : List Level) → is_driven x ≡ true → IsWithin xs ys → IsWithin ys xs → has x xs ≡ has x ys
same-has x xs ys d f g =
    both-ways (has x xs) (has x ys) (λ e. among-has x ys (f.each x d (has-among x xs e))) (λ e. among-has x xs (g.each x d (has-among x ys e)))

pub resolved-same : (pull : Pull) (xs ys : List Level) → IsWithin xs ys → IsWithin ys xs → resolved pull xs ≡ resolved pull ys
resolved-same pull xs ys f g =
    resolved-outcome pull xs
    ∙ (λ i. outcome pull (same-has Zero xs ys refl f g i) (same-has One xs ys refl f g i) (same-has X xs ys refl f g i))
    ∙ sym (resolved-outcome pull ys)

within-more : (x : Level) (xs ys : List Level) → IsWithin xs ys → IsWithin (x ∷ xs) (x ∷ ys)
within-more x xs ys f = record { each = by }
  where
    by : (z : Level) → is_driven z ≡ true → Among z (x ∷ xs) → Among z (x ∷ ys)
    by z d (inl e) = inl e
    by z d (inr a) = inr (f.each z d a)

-- a net of this kind and pull under such drives
pub net-same : (inputs : List Level) (kind : NetKind) (pull : Pull) (xs ys : List Level) → IsWithin xs ys → IsWithin ys xs →
    level_by inputs kind pull xs ≡ level_by inputs kind pull ys
net-same inputs Ground pull xs ys f g = refl
net-same inputs Power pull xs ys f g = refl
net-same inputs (Handed j) pull xs ys f g = refl
net-same inputs (Shared j) pull xs ys f g =
    resolved-same pull (level_at inputs j ∷ xs) (level_at inputs j ∷ ys) (within-more (level_at inputs j) xs ys f) (within-more (level_at inputs j) ys xs g)
net-same inputs Inner pull xs ys f g = resolved-same pull xs ys f g
