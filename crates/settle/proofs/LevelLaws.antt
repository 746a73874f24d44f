-- AND, OR and drivers on one net, one after another.
use Rattle.std.proofs.Common.{ℕ, ◌≡◌, ◌≢◌, ◌<◌, ◌+◌, List, [], ◌∷◌, map, filter, length, drop, get_or, if◌then◌else◌, refl, sym, ap, ◌∙◌}
use Rattle.std.proofs.lemmas.List.{drop_more}
use Rattle.mig_base.specs.declared.circuit.Literal.{Literal}
use Rattle.mig_base.specs.declared.circuit.NetKind.{NetKind}
use Rattle.mig_base.specs.declared.circuit.NetKind.TheVariants.{Shared, Inner}
use Rattle.mig_base.specs.declared.circuit.Wire.{Wire}
use Rattle.mig_base.specs.declared.circuit.Levels.{Levels}
use Rattle.mig_base.specs.Values.{literal_value, product_value, sum_value}
use Rattle.level_laws.specs.Settled.{level_by}
use Rattle.std.specs.List.{list_all}
use Rattle.mig_base.specs.declared.levels.Level.{Level}
use Rattle.mig_base.specs.declared.levels.Level.TheVariants.{Zero, One, Z, X}
use Rattle.mig_base.specs.declared.nets.Pull.{Pull}
use Rattle.mig_base.specs.Levels.{level_at, read_level, and3, or3, resolve2, same_level, is_driven}
use Rattle.mig_base.specs.Resolve.{resolved}
use Rattle.mig_base.proofs.LevelFacts.{or-known}
use Rattle.settle.specs.Rules.{wired, pulled_from}

-- a floating level counts as X
pub and-next : (v a b : Level) → and3 (and3 v (read_level a)) b ≡ and3 v (and3 a b)
and-next Zero a b = refl
and-next One Zero b = refl
and-next One One Zero = refl
and-next One One One = refl
and-next One One Z = refl
and-next One One X = refl
and-next One Z Zero = refl
and-next One Z One = refl
and-next One Z Z = refl
and-next One Z X = refl
and-next One X Zero = refl
and-next One X One = refl
and-next One X Z = refl
and-next One X X = refl
and-next Z Zero b = refl
and-next Z One Zero = refl
and-next Z One One = refl
and-next Z One Z = refl
and-next Z One X = refl
and-next Z Z Zero = refl
and-next Z Z One = refl
and-next Z Z Z = refl
and-next Z Z X = refl
and-next Z X Zero = refl
and-next Z X One = refl
and-next Z X Z = refl
and-next Z X X = refl
and-next X Zero b = refl
and-next X One Zero = refl
and-next X One One = refl
and-next X One Z = refl
and-next X One X = refl
and-next X Z Zero = refl
and-next X Z One = refl
and-next X Z Z = refl
and-next X Z X = refl
and-next X X Zero = refl
and-next X X One = refl
and-next X X Z = refl
and-next X X X = refl

pub or-next : (v a b : Level) → or3 (or3 v a) b ≡ or3 v (or3 a b)
or-next One a b = refl
or-next Zero One b = refl
or-next Zero Zero Zero = refl
or-next Zero Zero One = refl
or-next Zero Zero Z = refl
or-next Zero Zero X = refl
or-next Zero Z Zero = refl
or-next Zero Z One = refl
or-next Zero Z Z = refl
or-next Zero Z X = refl
or-next Zero X Zero = refl
or-next Zero X One = refl
or-next Zero X Z = refl
or-next Zero X X = refl
or-next Z One b = refl
or-next Z Zero Zero = refl
or-next Z Zero One = refl
or-next Z Zero Z = refl
or-next Z Zero X = refl
or-next Z Z Zero = refl
or-next Z Z One = refl
or-next Z Z Z = refl
or-next Z Z X = refl
or-next Z X Zero = refl
or-next Z X One = refl
or-next Z X Z = refl
or-next Z X X = refl
or-next X One b = refl
or-next X Zero Zero = refl
or-next X Zero One = refl
or-next X Zero Z = refl
or-next X Zero X = refl
or-next X Z Zero = refl
or-next X Z One = refl
or-next X Z Z = refl
or-next X Z X = refl
or-next X X Zero = refl
or-next X X One = refl
or-next X X Z = refl
or-next X X X = refl

pub resolve-next : (v a b : Level) → resolve2 (resolve2 v a) b ≡ resolve2 v (resolve2 a b)
resolve-next Z a b = refl
resolve-next X a b = refl
resolve-next Zero Z b = refl
resolve-next Zero X b = refl
resolve-next Zero Zero Zero = refl
resolve-next Zero Zero One = refl
resolve-next Zero Zero Z = refl
resolve-next Zero Zero X = refl
resolve-next Zero One Zero = refl
resolve-next Zero One One = refl
resolve-next Zero One Z = refl
resolve-next Zero One X = refl
resolve-next One Z b = refl
resolve-next One X b = refl
resolve-next One Zero Zero = refl
resolve-next One Zero One = refl
resolve-next One Zero Z = refl
resolve-next One Zero X = refl
resolve-next One One Zero = refl
resolve-next One One One = refl
resolve-next One One Z = refl
resolve-next One One X = refl

pub and-ends : (v : Level) → v ≢ Z → and3 v One ≡ v
and-ends Zero h = refl
and-ends One h = refl
and-ends Z h = absurd (h refl)
and-ends X h = refl

pub or-ends : (v : Level) → v ≢ Z → or3 v Zero ≡ v
or-ends Zero h = refl
or-ends One h = refl
or-ends Z h = absurd (h refl)
or-ends X h = refl

pub and-zero : (v b : Level) → v ≢ Z → and3 v (and3 Zero b) ≡ Zero
and-zero Zero b h = refl
and-zero One b h = refl
and-zero Z b h = absurd (h refl)
and-zero X b h = refl

pub or-one : (v b : Level) → v ≢ Z → or3 v (or3 One b) ≡ One
or-one Zero b h = refl
or-one One b h = refl
or-one Z b h = absurd (h refl)
or-one X b h = refl

pub and-known : (a b : Level) → and3 a b ≢ Z
and-known Zero b = λ e. cc
and-known One Zero = λ e. cc
and-known One One = λ e. cc
and-known One Z = λ e. cc
and-known One X = λ e. cc
and-known Z Zero = λ e. cc
and-known Z One = λ e. cc
and-known Z Z = λ e. cc
and-known Z X = λ e. cc
and-known X Zero = λ e. cc
and-known X One = λ e. cc
and-known X Z = λ e. cc
and-known X X = λ e. cc

-- what is 0 where it is read is 0
pub reads-zero : (a : Level) → Zero ≡ read_level a → a ≡ Zero
reads-zero Zero e = refl
reads-zero One e = cc
reads-zero Z e = cc
reads-zero X e = cc

pub all-agree : (y : Level) → y ≢ Z → (xs : List Level) → (if list_all (same_level y) (filter is_driven xs) then y else X) ≡ resolve2 y (wired xs)
all-agree Zero h [] = refl
all-agree One h [] = refl
all-agree X h [] = refl
all-agree Z h xs = absurd (h refl)
all-agree y h (Z ∷ xs) = all-agree y h xs
all-agree Zero h (Zero ∷ xs) = all-agree Zero h xs ∙ resolve-next Zero Zero (wired xs)
all-agree One h (One ∷ xs) = all-agree One h xs ∙ resolve-next One One (wired xs)
all-agree X h (X ∷ xs) = all-agree X h xs
all-agree Zero h (One ∷ xs) = resolve-next Zero One (wired xs)
all-agree Zero h (X ∷ xs) = refl
all-agree One h (Zero ∷ xs) = resolve-next One Zero (wired xs)
all-agree One h (X ∷ xs) = refl
all-agree X h (Zero ∷ xs) = refl
all-agree X h (One ∷ xs) = refl

known-pull : (pull : Pull) (y : Level) → y ≢ Z → (b : Level) → resolve2 y b ≡ pulled_from pull (resolve2 y b)
known-pull pull Zero h Zero = refl
known-pull pull Zero h One = refl
known-pull pull Zero h Z = refl
known-pull pull Zero h X = refl
known-pull pull One h Zero = refl
known-pull pull One h One = refl
known-pull pull One h Z = refl
known-pull pull One h X = refl
known-pull pull X h b = refl
known-pull pull Z h b = absurd (h refl)

-- drivers one after another, and the pull where all float
pub wired-resolved : (pull : Pull) (xs : List Level) → pulled_from pull (wired xs) ≡ resolved pull xs
wired-resolved pull [] = refl
wired-resolved pull (Z ∷ xs) = wired-resolved pull xs
wired-resolved pull (Zero ∷ xs) = sym (all-agree Zero (λ e. cc) xs ∙ known-pull pull Zero (λ e. cc) (wired xs))
wired-resolved pull (One ∷ xs) = sym (all-agree One (λ e. cc) xs ∙ known-pull pull One (λ e. cc) (wired xs))
wired-resolved pull (X ∷ xs) = sym (all-agree X (λ e. cc) xs)

pub one-and : (v : Level) → v ≢ Z → and3 One v ≡ v
one-and Zero h = refl
one-and One h = refl
one-and Z h = absurd (h refl)
one-and X h = refl

pub zero-or : (v : Level) → v ≢ Z → or3 Zero v ≡ v
zero-or Zero h = refl
zero-or One h = refl
zero-or Z h = absurd (h refl)
zero-or X h = refl

pub product-known : (l : Levels) (lits : List Literal) → product_value l lits ≢ Z
product-known l [] = λ e. cc
product-known l (lit ∷ lits) = and-known (literal_value l lit) (product_value l lits)

pub sum-known : (l : Levels) (ps : List (List Literal)) → sum_value l ps ≢ Z
sum-known l [] = λ e. cc
sum-known l (p ∷ ps) = or-known (product_value l p) (sum_value l ps)

-- one literal on
pub product-next : (l : Levels) (lits : List Literal) (i : ℕ) (d : Literal) (v : Level) → i < length lits →
    and3 (and3 v (read_level (literal_value l (get_or lits i d)))) (product_value l (drop (i + 1) lits)) ≡ and3 v (product_value l (drop i lits))
product-next l lits i d v lt =
    and-next v (literal_value l (get_or lits i d)) (product_value l (drop (i + 1) lits))
    ∙ sym (ap (λ (rest : List Literal). and3 v (product_value l rest)) (drop_more lits i d lt))

-- a literal that is 0 makes the product 0
pub product-zero : (l : Levels) (lits : List Literal) (i : ℕ) (d : Literal) (v : Level) → i < length lits → v ≢ Z →
    Zero ≡ read_level (literal_value l (get_or lits i d)) → Zero ≡ and3 v (product_value l (drop i lits))
product-zero l lits i d v lt known zero =
    sym (and-zero v (product_value l (drop (i + 1) lits)) known)
    ∙ ap (λ (a : Level). and3 v (and3 a (product_value l (drop (i + 1) lits)))) (sym (reads-zero (literal_value l (get_or lits i d)) zero))
    ∙ sym (ap (λ (rest : List Literal). and3 v (product_value l rest)) (drop_more lits i d lt))

-- the level of a Both port whose units have these drives
pub shared-net : (inputs : List Level) (w : Wire) (drive : ℕ → Level) (j : ℕ) → w.kind ≡ Shared j →
    pulled_from w.pull (resolve2 (level_at inputs j) (wired (map drive w.drivers))) ≡ level_by inputs w.kind w.pull (map drive w.drivers)
shared-net inputs w drive j e =
    wired-resolved w.pull (level_at inputs j ∷ map drive w.drivers)
    ∙ sym (ap (λ (k : NetKind). level_by inputs k w.pull (map drive w.drivers)) e)

-- the level of a net that is no port of two directions
pub inner-net : (inputs : List Level) (w : Wire) (drive : ℕ → Level) → w.kind ≡ Inner →
    pulled_from w.pull (wired (map drive w.drivers)) ≡ level_by inputs w.kind w.pull (map drive w.drivers)
inner-net inputs w drive e =
    wired-resolved w.pull (map drive w.drivers)
    ∙ sym (ap (λ (k : NetKind). level_by inputs k w.pull (map drive w.drivers)) e)
