-- Numbers given to nodes.
use Rattle.std.proofs.Common.{ℕ, zero, suc, ◌≡◌, ◌⊎◌, ◌<◌, ◌≤◌, ◌+◌, List, [], ◌∷◌, length, replicate, Option, Some, None, refl, ap, arith, inl, inr}
use Rattle.std.specs.Prelude.{slice_get}
use Rattle.std.proofs.Math.ListN.{set}
use Rattle.std.proofs.lemmas.Bool.{cases_eq}
use Rattle.std.proofs.lemmas.List.{length-set}
use Rattle.std.proofs.lemmas.Option.{slice_get_within}
use Rattle.mig_base.specs.declared.circuit.Read.{Read}
use Rattle.mig_base.specs.declared.circuit.Read.TheVariants.{OfNet, OfRegister}
use Rattle.mig_base.specs.declared.circuit.Circuit.{Circuit}
use Rattle.ranks.specs.declared.marks.Marks.{Marks}
use Rattle.ranks.specs.Marked.{mark_in, IsWaiting, with_mark, unmarked_of, blank, blanks, waiting}
use Rattle.mig_base.specs.Reads.{IsNode}

abbrev pub net-of : Read → ℕ
net-of (OfNet n) = n
net-of (OfRegister k) = k

pub cases-read : (u v : Read) → (u ≡ v) ⊎ (u ≡ v → ⊥)
cases-read (OfNet n) (OfNet m) = at (cases_eq n m)
  where
    at : (n ≡ m) ⊎ (n ≡ m → ⊥) → (OfNet n ≡ OfNet m) ⊎ (OfNet n ≡ OfNet m → ⊥)
    at (inl e) = inl (ap OfNet e)
    at (inr ne) = inr (λ e. ne (ap net-of e))
cases-read (OfRegister n) (OfRegister m) = at (cases_eq n m)
  where
    at : (n ≡ m) ⊎ (n ≡ m → ⊥) → (OfRegister n ≡ OfRegister m) ⊎ (OfRegister n ≡ OfRegister m → ⊥)
    at (inl e) = inl (ap OfRegister e)
    at (inr ne) = inr (λ e. ne (ap net-of e))
cases-read (OfNet n) (OfRegister k) = inr (λ e. cc)
cases-read (OfRegister k) (OfNet n) = inr (λ e. cc)

get-set-same : {T : Type 0} (xs : List T) (i : ℕ) (a : T) → i < length xs → slice_get (set xs i a) i ≡ Some a
get-set-same [] i a h = absurd (omega arith)
get-set-same (x ∷ xs) zero a h = refl
get-set-same (x ∷ xs) (suc i) a h = get-set-same xs i a (omega arith)

get-set-other : {T : Type 0} (xs : List T) (i j : ℕ) (a : T) → (j ≡ i → ⊥) → slice_get (set xs i a) j ≡ slice_get xs j
get-set-other [] i j a ne = refl
get-set-other (x ∷ xs) zero zero a ne = absurd (ne refl)
get-set-other (x ∷ xs) zero (suc j) a ne = refl
get-set-other (x ∷ xs) (suc i) zero a ne = refl
get-set-other (x ∷ xs) (suc i) (suc j) a ne = get-set-other xs i j a (λ e. ne (ap suc e))

pub mark-same : (m : Marks) (v : Read) (x : ℕ) → IsWaiting m v → mark_in (with_mark m v x) v ≡ Some (Some x)
mark-same m (OfNet n) x waits = get-set-same m.nets n (Some x) (slice_get_within m.nets n None waits)
mark-same m (OfRegister k) x waits = get-set-same m.registers k (Some x) (slice_get_within m.registers k None waits)

pub mark-other : (m : Marks) (v : Read) (x : ℕ) (u : Read) → (u ≡ v → ⊥) → mark_in (with_mark m v x) u ≡ mark_in m u
mark-other m (OfNet n) x (OfNet i) ne = get-set-other m.nets n i (Some x) (λ e. ne (ap OfNet e))
mark-other m (OfNet n) x (OfRegister k) ne = refl
mark-other m (OfRegister k) x (OfNet n) ne = refl
mark-other m (OfRegister k) x (OfRegister i) ne = get-set-other m.registers k i (Some x) (λ e. ne (ap OfRegister e))

pub lengths-marked : (m : Marks) (v : Read) (x : ℕ) → (length (with_mark m v x).nets ≡ length m.nets) × (length (with_mark m v x).registers ≡ length m.registers)
lengths-marked m (OfNet n) x = (length-set m.nets n (Some x), refl)
lengths-marked m (OfRegister k) x = (refl, length-set m.registers k (Some x))

blanks-set : (xs : List (Option ℕ)) (i x : ℕ) → slice_get xs i ≡ Some None → blanks (set xs i (Some x)) + 1 ≡ blanks xs
blanks-set [] i x e = cc
blanks-set (y ∷ ys) zero x e = first y e
  where
    first : (y : Option ℕ) → Some y ≡ Some None → 0 + blanks ys + 1 ≡ blank y + blanks ys
    first None e = omega arith
    first (Some n) e = cc
blanks-set (y ∷ ys) (suc i) x e = let rest : blanks (set ys i (Some x)) + 1 ≡ blanks ys = blanks-set ys i x e in omega arith

-- one node fewer waits
pub waiting-marked : (m : Marks) (v : Read) (x : ℕ) → IsWaiting m v → waiting (with_mark m v x) + 1 ≡ waiting m
waiting-marked m (OfNet n) x waits = let less : blanks (set m.nets n (Some x)) + 1 ≡ blanks m.nets = blanks-set m.nets n x waits in omega arith
waiting-marked m (OfRegister k) x waits = let less : blanks (set m.registers k (Some x)) + 1 ≡ blanks m.registers = blanks-set m.registers k x waits in omega arith

pub blanks-most : (xs : List (Option ℕ)) → blanks xs ≤ length xs
blanks-most [] = omega arith
blanks-most (None ∷ xs) = let rest : blanks xs ≤ length xs = blanks-most xs in omega arith
blanks-most (Some n ∷ xs) = let rest : blanks xs ≤ length xs = blanks-most xs in omega arith

-- with none waiting, each place has a number
none-blank : (xs : List (Option ℕ)) (i : ℕ) → blanks xs ≡ 0 → slice_get xs i ≡ Some None → ⊥
none-blank xs i e h = omega (arith, blanks-set xs i 0 h)

pub none-waiting : (m : Marks) (v : Read) → waiting m ≡ 0 → IsWaiting m v → ⊥
none-waiting m v e waits = omega (arith, waiting-marked m v 0 waits)

unset-get : (n i x : ℕ) → slice_get (replicate n (let nothing : Option ℕ = None in nothing)) i ≡ Some (Some x) → ⊥
unset-get zero i x e = cc
unset-get (suc n) zero x e = cc
unset-get (suc n) (suc i) x e = unset-get n i x e

pub unmarked-none : (c : Circuit) (v : Read) (x : ℕ) → mark_in (unmarked_of c) v ≡ Some (Some x) → ⊥
unmarked-none c (OfNet n) x e = unset-get (length c.nets) n x e
unmarked-none c (OfRegister k) x e = unset-get (length c.registers) k x e

-- a number on the board is one of a node
pub node-within : (c : Circuit) (m : Marks) (v : Read) (o : Option ℕ) → length m.nets ≡ length c.nets → length m.registers ≡ length c.registers → mark_in m v ≡ Some o → IsNode c v
node-within c m (OfNet n) o en er e = omega (arith, en, slice_get_within m.nets n o e)
node-within c m (OfRegister k) o en er e = omega (arith, er, slice_get_within m.registers k o e)

within-get : (xs : List (Option ℕ)) (i : ℕ) → i < length xs → (o : Option ℕ) × (slice_get xs i ≡ Some o)
within-get [] i h = absurd (omega arith)
within-get (x ∷ xs) zero h = (x, refl)
within-get (x ∷ xs) (suc i) h = within-get xs i (omega arith)

-- each node has a number or waits for one
pub node-marked : (c : Circuit) (m : Marks) (v : Read) → length m.nets ≡ length c.nets → length m.registers ≡ length c.registers → IsNode c v → (o : Option ℕ) × (mark_in m v ≡ Some o)
node-marked c m (OfNet n) en er h = within-get m.nets n (omega (arith, en))
node-marked c m (OfRegister k) en er h = within-get m.registers k (omega (arith, er))
