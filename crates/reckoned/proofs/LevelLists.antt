-- The levels of variables that rise, by place.
use Rattle.std.proofs.Common.{ℕ, zero, suc, ◌≡◌, ◌<◌, Bool, true, false, cond, List, [], ◌∷◌, ◌++◌, map, length, get_or, Option, Some, None, refl, ap, ◌∙◌, arith, inl, inr}
use Rattle.std.specs.Prelude.{◌||◌, slice_get}
use Rattle.std.specs.List.{list_any}
use Rattle.std.proofs.lemmas.Bool.{eq-eqb, ne_eqb}
use Rattle.bdd.specs.Tree.{Point}
use Rattle.mig_base.specs.declared.levels.Level.{Level}
use Rattle.mig_base.specs.declared.levels.Level.TheVariants.{Zero, One, Z, X}
use Rattle.mig_base.specs.declared.nets.Var.{Var}
use Rattle.mig_base.specs.declared.nets.Var.TheVariants.{Net, Reg}
use Rattle.mig_base.specs.Among.{Among}
use Rattle.mig_base.specs.Levels.{level_at, read_level}
use Rattle.rails.specs.declared.Side.{Side}
use Rattle.rails.specs.declared.Side.TheVariants.{Pure, High, Low}
use Rattle.rails.specs.declared.Rail.{Rail}
use Rattle.rails.specs.Variables.{IsBefore, same_var}
use Rattle.rails.specs.Points.{IsListed}
use Rattle.rails.specs.Levels.{AreLevels, IsLevel, level_of, point_under, rail_under, side_under}
use Rattle.joiner.proofs.Listing.{Rises}
use Rattle.reckoned.specs.Variables.{AllFit, FitsVariable}
use Rattle.reckoned.proofs.RegisterLaws.{name}

same-self : (v : Var) → same_var v v ≡ true
same-self (Net n) = eq-eqb n n refl
same-self (Reg u) = eq-eqb u u refl

before-apart : (v w : Var) → IsBefore v w → same_var v w ≡ false
before-apart (Net n) (Net m) h = ne_eqb n m (λ e. absurd (omega arith))
before-apart (Net n) (Reg u) h = refl
before-apart (Reg u) (Net n) h = refl
before-apart (Reg u) (Reg k) h = ne_eqb u k (λ e. absurd (omega arith))

-- the levels of these variables, as a pin reads them, are those of a list
abbrev pub LevelsAre : List (Var × Bool) → List Level → List (Var × Bool) → List Level → Type 0
LevelsAre vars levels [] [] = Unit {0}
LevelsAre vars levels [] (x ∷ xs) = ⊥
LevelsAre vars levels (w ∷ ws) [] = ⊥
LevelsAre vars levels (w ∷ ws) (x ∷ xs) = (level_of vars levels w.0 ≡ read_level x) × LevelsAre vars levels ws xs

levels-more : (v : Var × Bool) (vars : List (Var × Bool)) (l : Level) (levels : List Level) (ws : List (Var × Bool)) (xs : List Level) → ((w : Var) → Among w (map name ws) → IsBefore v.0 w) →
    LevelsAre vars levels ws xs → LevelsAre (v ∷ vars) (l ∷ levels) ws xs
levels-more v vars l levels [] [] later are = tt
levels-more v vars l levels [] (x ∷ xs) later are = absurd are
levels-more v vars l levels (w ∷ ws) [] later are = absurd are
levels-more v vars l levels (w ∷ ws) (x ∷ xs) later are =
    (ap (λ (q : Bool). cond q l (level_of vars levels w.0)) (before-apart v.0 w.0 (later w.0 (inl refl))) ∙ are.0, levels-more v vars l levels ws xs (λ u a. later u (inr a)) are.1)

-- so it is of all variables, which rise
pub levels-are : (vars : List (Var × Bool)) (xs : List Level) → Rises (map name vars) → AllFit vars xs → LevelsAre vars (map read_level xs) vars xs
levels-are [] [] rise fit = tt
levels-are [] (x ∷ xs) rise fit = absurd fit
levels-are (v ∷ vs) [] rise fit = absurd fit
levels-are (v ∷ vs) (x ∷ xs) rise fit = (
  ap (λ (q : Bool). cond q (read_level x) (level_of vs (map read_level xs) v.0)) (same-self v.0),
  levels-more v vs (read_level x) (map read_level xs) vs xs rise.0 (levels-are vs xs rise.1 fit.1),
)

pub levels-left : (vars : List (Var × Bool)) (levels : List Level) (vs ws : List (Var × Bool)) (xs ys : List Level) → AllFit vs xs → LevelsAre vars levels (vs ++ ws) (xs ++ ys) → LevelsAre vars levels vs xs
levels-left vars levels [] ws [] ys fit are = tt
levels-left vars levels [] ws (x ∷ xs) ys fit are = absurd fit
levels-left vars levels (v ∷ vs) ws [] ys fit are = absurd fit
levels-left vars levels (v ∷ vs) ws (x ∷ xs) ys fit are = (are.0, levels-left vars levels vs ws xs ys fit.1 are.1)

pub levels-right : (vars : List (Var × Bool)) (levels : List Level) (vs ws : List (Var × Bool)) (xs ys : List Level) → AllFit vs xs → LevelsAre vars levels (vs ++ ws) (xs ++ ys) → LevelsAre vars levels ws ys
levels-right vars levels [] ws [] ys fit are = are
levels-right vars levels [] ws (x ∷ xs) ys fit are = absurd fit
levels-right vars levels (v ∷ vs) ws [] ys fit are = absurd fit
levels-right vars levels (v ∷ vs) ws (x ∷ xs) ys fit are = levels-right vars levels vs ws xs ys fit.1 are.1

pub fit-both : (vs ws : List (Var × Bool)) (xs ys : List Level) → AllFit vs xs → AllFit ws ys → AllFit (vs ++ ws) (xs ++ ys)
fit-both [] ws [] ys fit more = more
fit-both [] ws (x ∷ xs) ys fit more = absurd fit
fit-both (v ∷ vs) ws [] ys fit more = absurd fit
fit-both (v ∷ vs) ws (x ∷ xs) ys fit more = (fit.0, fit-both vs ws xs ys fit.1 more)

-- levels that fit, as pins read them, are levels of the variables
level-fits : (v : Var) (pure : Bool) (x : Level) → FitsVariable (v, pure) x → IsLevel pure (read_level x)
level-fits v true Zero h = inl refl
level-fits v true One h = inr refl
level-fits v true Z h = absurd h
level-fits v true X h = absurd h
level-fits v false Zero h = λ e. cc
level-fits v false One h = λ e. cc
level-fits v false Z h = λ e. cc
level-fits v false X h = λ e. cc

pub levels-fit : (vars : List (Var × Bool)) (xs : List Level) → AllFit vars xs → AreLevels vars (map read_level xs)
levels-fit [] [] fit = tt
levels-fit [] (x ∷ xs) fit = absurd fit
levels-fit (v ∷ vs) [] fit = absurd fit
levels-fit (v ∷ vs) (x ∷ xs) fit = (level-fits v.0 v.1 x fit.0, levels-fit vs xs fit.1)

-- a level and what a pin reads of it have one point
side-read : (s : Side) (x : Level) → side_under false s (read_level x) ≡ side_under false s x
side-read Pure Zero = refl
side-read Pure One = refl
side-read Pure Z = refl
side-read Pure X = refl
side-read High Zero = refl
side-read High One = refl
side-read High Z = refl
side-read High X = refl
side-read Low Zero = refl
side-read Low One = refl
side-read Low Z = refl
side-read Low X = refl

level-read : (xs : List Level) (i : ℕ) → level_at (map read_level xs) i ≡ read_level (level_at xs i)
level-read [] i = refl
level-read (x ∷ xs) zero = refl
level-read (x ∷ xs) (suc i) = level-read xs i

pub point-read : (rs : List Rail) (xs : List Level) → ◌≡◌ {A = Point} (point_under false rs (map read_level xs)) (point_under false rs xs)
point-read rs xs = λ i n. at (slice_get rs n) i
  where
    at : (o : Option Rail) → rail_under false (map read_level xs) o ≡ rail_under false xs o
    at None = refl
    at (Some r) = ap (side_under false r.side) (level-read xs r.variable) ∙ side-read r.side (level_at xs r.variable)

-- a variable of the list is listed
pub listed-at : (vars : List (Var × Bool)) (i : ℕ) (d : Var × Bool) → i < length vars → IsListed vars (get_or vars i d).0
listed-at [] i d lt = absurd (omega arith)
listed-at (v ∷ vs) zero d lt = ap (λ (q : Bool). q || list_any (λ (w : Var × Bool). same_var w.0 v.0) vs) (same-self v.0)
listed-at (v ∷ vs) (suc i) d lt = or-true (same_var v.0 (get_or vs i d).0) (list_any (λ (w : Var × Bool). same_var w.0 (get_or vs i d).0) vs) (listed-at vs i d (omega arith))
  where
    or-true : (a b : Bool) → b ≡ true → (a || b) ≡ true
    or-true true b e = refl
    or-true false b e = e
