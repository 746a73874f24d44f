-- Ranks rule loops out; nodes that all read one another hold a loop.
use Rattle.std.proofs.Common.{ℕ, zero, suc, ◌≡◌, ◌<◌, ◌≤◌, ◌+◌, ◌-◌, List, [], ◌∷◌, length, sym, ap, subst, arith, inl, inr}
use Rattle.std.specs.List.{AllByRecursion}
use Rattle.mig_base.specs.declared.circuit.Read.{Read}
use Rattle.mig_base.specs.declared.circuit.Read.TheVariants.{OfNet, OfRegister}
use Rattle.mig_base.specs.declared.circuit.Circuit.{Circuit}
use Rattle.mig_base.specs.Ranked.{Ranked}
use Rattle.mig_base.specs.Reads.{node_reads, IsNode}
use Rattle.mig_base.specs.Accepted.{Walk}
use Rattle.mig_base.specs.Among.{Among}
use Rattle.mig_base.proofs.Amongs.{among-all}
use Rattle.ranks.proofs.Pigeons.{pigeons}

-- what follows for one item, for all
pub all_mono : {T : Type 0} (P Q : T → Type 0) → ((x : T) → P x → Q x) → (xs : List T) → AllByRecursion P xs → AllByRecursion Q xs
all_mono P Q f [] h = tt
all_mono P Q f (x ∷ xs) h = (f x h.0, all_mono P Q f xs h.1)

walk-falls : (c : Circuit) (rank : Read → ℕ) (top : ℕ) → Ranked c rank top → (n : ℕ) (v w : Read) → Walk c n v w → rank w < rank v
walk-falls c rank top ranked zero v w walk = among-all (λ q. rank q < rank v) w (node_reads c v) (ranked.falls v) walk
walk-falls c rank top ranked (suc n) v w walk =
    let first : rank walk.0 < rank v = among-all (λ q. rank q < rank v) walk.0 (node_reads c v) (ranked.falls v) walk.1 in
    let rest : rank w < rank walk.0 = walk-falls c rank top ranked n walk.0 w walk.2 in
    omega arith

-- a board whose nodes have ranks has no walk from a node to itself
pub no-loop : (c : Circuit) (rank : Read → ℕ) (top : ℕ) → Ranked c rank top → (v : Read) (n : ℕ) → Walk c n v v → ⊥
no-loop c rank top ranked v n walk = let low : rank v < rank v = walk-falls c rank top ranked n v v walk in omega arith

-- nodes of which each reads one of them, and that have numbers below n
pub record IsStuck (c : Circuit) (Stuck : Read → Type 0) (number : Read → ℕ) (n : ℕ) : Type 0 where
  pub next : (v : Read) → Stuck v → (w : Read) × Among w (node_reads c v) × Stuck w
  pub below : (v : Read) → Stuck v → number v < n
  pub apart : (v w : Read) → Stuck v → Stuck w → number v ≡ number w → v ≡ w

abbrev visited : (c : Circuit) (Stuck : Read → Type 0) (number : Read → ℕ) (n : ℕ) → IsStuck c Stuck number n → (v : Read) → Stuck v → ℕ → (w : Read) × Stuck w
visited c Stuck number n s v h zero = (v, h)
visited c Stuck number n s v h (suc k) =
    ((s.next (visited c Stuck number n s v h k).0 (visited c Stuck number n s v h k).1).0, (s.next (visited c Stuck number n s v h k).0 (visited c Stuck number n s v h k).1).2)

visited-walk : (c : Circuit) (Stuck : Read → Type 0) (number : Read → ℕ) (n : ℕ) (s : IsStuck c Stuck number n) (v : Read) (h : Stuck v) (d i j : ℕ) → j ≡ suc d + i →
    Walk c d (visited c Stuck number n s v h i).0 (visited c Stuck number n s v h j).0
visited-walk c Stuck number n s v h zero i j e =
    let k : suc i ≡ j = omega arith in
    subst (λ (q : ℕ). Among (visited c Stuck number n s v h q).0 (node_reads c (visited c Stuck number n s v h i).0)) k
    (s.next (visited c Stuck number n s v h i).0 (visited c Stuck number n s v h i).1).1
visited-walk c Stuck number n s v h (suc d) i j e =
    let k : j ≡ suc d + suc i = omega arith in (
      (visited c Stuck number n s v h (suc i)).0,
      (s.next (visited c Stuck number n s v h i).0 (visited c Stuck number n s v h i).1).1,
      visited-walk c Stuck number n s v h d (suc i) j k,
    )

-- where all nodes of a set read nodes of the set, one of them lies on a loop
pub stuck-loop : (c : Circuit) (Stuck : Read → Type 0) (number : Read → ℕ) (n : ℕ) → IsStuck c Stuck number n → (v : Read) → Stuck v →
    (w : Read) × (k : ℕ) × Walk c k w w
stuck-loop c Stuck number n s v h =
    at (pigeons n (λ i. number (visited c Stuck number n s v h i).0) (λ i le. s.below (visited c Stuck number n s v h i).0 (visited c Stuck number n s v h i).1))
  where
    at : (i : ℕ) × (j : ℕ) × (i < j) × (j ≤ n) × (number (visited c Stuck number n s v h i).0 ≡ number (visited c Stuck number n s v h j).0) → (w : Read) × (k : ℕ) × Walk c k w w
    at r =
        let same : (visited c Stuck number n s v h r.0).0 ≡ (visited c Stuck number n s v h r.1).0 =
        s.apart (visited c Stuck number n s v h r.0).0 (visited c Stuck number n s v h r.1).0 (visited c Stuck number n s v h r.0).1 (visited c Stuck number n s v h r.1).1 r.4 in
        let far : r.1 ≡ suc (r.1 - r.0 - 1) + r.0 = let lt : r.0 < r.1 = r.2 in omega arith in (
          (visited c Stuck number n s v h r.0).0,
          r.1 - r.0 - 1,
          subst (λ (q : Read). Walk c (r.1 - r.0 - 1) (visited c Stuck number n s v h r.0).0 q) (sym same) (visited-walk c Stuck number n s v h (r.1 - r.0 - 1) r.0 r.1 far),
        )

-- the number of a node: the nets, and then the registers
abbrev number : Circuit → Read → ℕ
number c (OfNet n) = n
number c (OfRegister k) = length c.nets + k

number-below : (c : Circuit) (v : Read) → IsNode c v → number c v < length c.nets + length c.registers
number-below c (OfNet n) node = omega (arith, node)
number-below c (OfRegister k) node = omega (arith, node)

numbers-apart : (c : Circuit) (v w : Read) → IsNode c v → IsNode c w → number c v ≡ number c w → v ≡ w
numbers-apart c (OfNet n) (OfNet m) a b e = ap OfNet e
numbers-apart c (OfNet n) (OfRegister k) a b e = absurd (omega (arith, a, e))
numbers-apart c (OfRegister k) (OfNet n) a b e = absurd (omega (arith, b, e))
numbers-apart c (OfRegister k) (OfRegister j) a b e = ap OfRegister (omega (arith, e))

-- where all nodes of a set of nodes of the board read nodes of the set, one of them lies on a loop
pub nodes-loop : (c : Circuit) (Stuck : Read → Type 0) → ((v : Read) → Stuck v → IsNode c v) → ((v : Read) → Stuck v → (w : Read) × Among w (node_reads c v) × Stuck w) →
    (v : Read) → Stuck v → (w : Read) × (k : ℕ) × Walk c k w w
nodes-loop c Stuck node next = stuck-loop c Stuck (number c) (length c.nets + length c.registers) set
  where
    set : IsStuck c Stuck (number c) (length c.nets + length c.registers)
    set = record {
      next = next;
      below = λ v stuck. number-below c v (node v stuck);
      apart = λ v w a b e. numbers-apart c v w (node v a) (node w b) e;
    }
