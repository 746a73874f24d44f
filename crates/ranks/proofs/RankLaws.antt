-- Ranks fall along reads, and the nodes by rank are in an order of evaluation.
use Rattle.std.proofs.Common.{ℕ, zero, suc, ◌≡◌, ◌<◌, ◌≤◌, ◌+◌, max, List, [], ◌∷◌, ◌++◌, map, Option, Some, None, refl, sym, ap, ◌∙◌, subst, arith}
use Rattle.std.specs.Prelude.{slice_get, slice_index_or}
use Rattle.std.specs.List.{AllByRecursion}
use Rattle.std.proofs.Math.Nat.{le-max_left, le-max_right}
use Rattle.mig_base.specs.declared.circuit.Read.{Read}
use Rattle.mig_base.specs.declared.circuit.Read.TheVariants.{OfNet, OfRegister}
use Rattle.mig_base.specs.declared.circuit.Register.{Register}
use Rattle.mig_base.specs.declared.circuit.Wire.{Wire}
use Rattle.mig_base.specs.declared.circuit.Circuit.{Circuit}
use Rattle.mig_base.specs.Reads.{node_reads, wire_reads, reads_of_wire, reads_of_register}
use Rattle.mig_base.specs.Values.{row_reads}
use Rattle.mig_base.specs.Ranked.{Ranked}
use Rattle.ranks.specs.declared.Ranks.{Ranks}
use Rattle.ranks.specs.RankEquations.{greatest, above, if_driven, wire_rank, register_rank, or_zero, rank_rule, rank_in, IsRanks}

-- what is read has a rank below
reads-below : (rank : Read → ℕ) (reads : List Read) (m : ℕ) → greatest (map rank reads) < m → AllByRecursion (λ w. rank w < m) reads
reads-below rank [] m h = tt
reads-below rank (w ∷ ws) m h =
    let here : rank w ≤ max (rank w) (greatest (map rank ws)) = le-max_left (rank w) (greatest (map rank ws)) in
    let rest : greatest (map rank ws) ≤ max (rank w) (greatest (map rank ws)) = le-max_right (rank w) (greatest (map rank ws)) in
    (omega arith, reads-below rank ws m (omega arith))

-- the number at a place of a mapped list
pub number-at : {T : Type 0} (f : T → ℕ) (xs : List T) (n : ℕ) → slice_index_or (map f xs) n 0 ≡ or_zero f (slice_get xs n)
number-at f [] n = refl
number-at f (x ∷ xs) zero = refl
number-at f (x ∷ xs) (suc n) = number-at f xs n

at-most : (ns : List ℕ) (n : ℕ) → slice_index_or ns n 0 ≤ greatest ns
at-most [] n = omega arith
at-most (x ∷ xs) zero = le-max_left x (greatest xs)
at-most (x ∷ xs) (suc n) = let low : slice_index_or xs n 0 ≤ greatest xs = at-most xs n in let more : greatest xs ≤ max x (greatest xs) = le-max_right x (greatest xs) in omega arith

greatest-left : (ms ns : List ℕ) → greatest ms ≤ greatest (ms ++ ns)
greatest-left [] ns = omega arith
greatest-left (m ∷ ms) ns = let rest : greatest ms ≤ greatest (ms ++ ns) = greatest-left ms ns in omega arith

greatest-right : (ms ns : List ℕ) → greatest ns ≤ greatest (ms ++ ns)
greatest-right [] ns = omega arith
greatest-right (m ∷ ms) ns = let rest : greatest ns ≤ greatest (ms ++ ns) = greatest-right ms ns in omega arith

-- the rank of a node is above all ranks that it reads
pub rule-above : (c : Circuit) (f : Read → ℕ) (v : Read) → AllByRecursion (λ w. f w < rank_rule c f v) (node_reads c v)
rule-above c f (OfNet n) = at (slice_get c.nets n)
  where
    driven : (w : Wire) (us : List ℕ) → us ≡ w.drivers → AllByRecursion (λ u. f u < if_driven us (above f (wire_reads c w))) (wire_reads c w)
    driven w [] none = rw (← none) tt
    driven w (u ∷ us) some = reads-below f (wire_reads c w) (above f (wire_reads c w)) (omega arith)

    at : (o : Option Wire) → AllByRecursion (λ u. f u < or_zero (wire_rank c f) o) (reads_of_wire c o)
    at None = tt
    at (Some w) = driven w w.drivers refl
rule-above c f (OfRegister k) = at (slice_get c.registers k)
  where
    at : (o : Option Register) → AllByRecursion (λ u. f u < or_zero (register_rank f) o) (reads_of_register o)
    at None = tt
    at (Some r) = reads-below f (row_reads r.reset) (above f (row_reads r.reset)) (omega arith)

pub rank-rules : (c : Circuit) (r : Ranks) → IsRanks c r → (v : Read) → rank_in r v ≡ rank_rule c (rank_in r) v
rank-rules c r is (OfNet n) = ap (λ (ns : List ℕ). slice_index_or ns n 0) is.nets ∙ number-at (wire_rank c (rank_in r)) c.nets n
rank-rules c r is (OfRegister k) = ap (λ (ns : List ℕ). slice_index_or ns k 0) is.registers ∙ number-at (register_rank (rank_in r)) c.registers k

pub rank-falls : (c : Circuit) (r : Ranks) → IsRanks c r → (v : Read) → AllByRecursion (λ w. rank_in r w < rank_in r v) (node_reads c v)
rank-falls c r is v = subst (λ (n : ℕ). AllByRecursion (λ w. rank_in r w < n) (node_reads c v)) (sym (rank-rules c r is v)) (rule-above c (rank_in r) v)

pub rank-below : (c : Circuit) (r : Ranks) → IsRanks c r → (v : Read) → rank_in r v < r.top + 1
rank-below c r is (OfNet n) = omega (arith, is.top, at-most r.nets n, greatest-left r.nets r.registers)
rank-below c r is (OfRegister k) = omega (arith, is.top, at-most r.registers k, greatest-right r.nets r.registers)

-- the ranks are such as settled levels ask for
pub ranks-ranked : (c : Circuit) (r : Ranks) → IsRanks c r → Ranked c (rank_in r) (r.top + 1)
ranks-ranked c r is = record { falls = rank-falls c r is; below = rank-below c r is }
