-- A board's nodes have only one set of ranks.
use Rattle.std.proofs.Common.{ℕ, zero, suc, ◌≡◌, ◌<◌, ◌+◌, List, [], ◌∷◌, ◌++◌, map, filter, Option, Some, None, refl, sym, ap, ◌∙◌, arith}
use Rattle.std.specs.Prelude.{◌==◌, slice_get}
use Rattle.std.specs.List.{AllByRecursion, flat_map}
use Rattle.mig_base.specs.declared.circuit.Read.{Read}
use Rattle.mig_base.specs.declared.circuit.Read.TheVariants.{OfNet, OfRegister}
use Rattle.mig_base.specs.declared.circuit.Register.{Register}
use Rattle.mig_base.specs.declared.circuit.Wire.{Wire}
use Rattle.mig_base.specs.declared.circuit.Circuit.{Circuit}
use Rattle.mig_base.specs.First.{made_from}
use Rattle.mig_base.specs.Reads.{node_reads, reads_of_register, reads_of_wire, wire_reads}
use Rattle.mig_base.specs.Structure.{all_variables}
use Rattle.mig_base.specs.Values.{row_reads}
use Rattle.mig_base.proofs.ListLaws.{all-map}
use Rattle.ranks.specs.declared.Ranks.{Ranks}
use Rattle.ranks.specs.RankEquations.{above, greatest, if_driven, IsRanks, or_zero, rank_in, rank_rule, register_rank, wire_rank}
use Rattle.ranks.proofs.RankLaws.{rank-falls, rank-rules}

-- two numberings agree on all that is read
abbrev Agree : (Read → ℕ) → (Read → ℕ) → List Read → Type 0
Agree f g reads = AllByRecursion (λ w. f w ≡ g w) reads

map-agree : (f g : Read → ℕ) (reads : List Read) → Agree f g reads → map f reads ≡ map g reads
map-agree f g [] h = refl
map-agree f g (w ∷ ws) h = ap (λ (n : ℕ). n ∷ map f ws) h.0 ∙ ap (λ (ns : List ℕ). g w ∷ ns) (map-agree f g ws h.1)

above-agree : (f g : Read → ℕ) (reads : List Read) → Agree f g reads → above f reads ≡ above g reads
above-agree f g reads h = ap (λ (ns : List ℕ). greatest ns + 1) (map-agree f g reads h)

-- the rank of a node is determined by the ranks of what it reads
rule-agree : (c : Circuit) (f g : Read → ℕ) (v : Read) → Agree f g (node_reads c v) → rank_rule c f v ≡ rank_rule c g v
rule-agree c f g (OfNet n) h = at (slice_get c.nets n) h
  where
    at : (o : Option Wire) → Agree f g (reads_of_wire c o) → or_zero (wire_rank c f) o ≡ or_zero (wire_rank c g) o
    at None h = refl
    at (Some w) h = ap (if_driven w.drivers) (above-agree f g (wire_reads c w) h)
rule-agree c f g (OfRegister k) h = at (slice_get c.registers k) h
  where
    at : (o : Option Register) → Agree f g (reads_of_register o) → or_zero (register_rank f) o ≡ or_zero (register_rank g) o
    at None h = refl
    at (Some r) h = above-agree f g (row_reads r.reset) h

-- ranks agree at each node, by its rank
rank-same : (c : Circuit) (r s : Ranks) → IsRanks c r → IsRanks c s → (n : ℕ) (v : Read) → rank_in r v < n → rank_in r v ≡ rank_in s v
rank-same c r s is also zero v low = absurd (omega arith)
rank-same c r s is also (suc n) v low =
    rank-rules c r is v
    ∙ rule-agree c (rank_in r) (rank_in s) v
    (all-map (λ (w : Read). rank_in r w < rank_in r v) (λ (w : Read). rank_in r w ≡ rank_in s w) (node_reads c v) (rank-falls c r is v) (λ w below. rank-same c r s is also n w (omega arith)))
    ∙ sym (rank-rules c s also v)

-- the nodes by the ranks that they have, up to a greatest one
nodes-by : Circuit → (Read → ℕ) → ℕ → List Read
nodes-by c rank top = flat_map (λ i. filter (λ v. rank v == i) (all_variables c)) (made_from (λ i. i) 0 (top + 1))

-- a board has only one set of ranks
pub ranks-unique : (c : Circuit) (r s : Ranks) → IsRanks c r → IsRanks c s → r ≡ s
unfolding nodes-by
ranks-unique c r s is also = λ i. record { nets = nets i; registers = registers i; order = order i; top = top i }
  where
    ranks : ◌≡◌ {A = Read → ℕ} (rank_in r) (rank_in s)
    ranks = λ i v. rank-same c r s is also (rank_in r v + 1) v (omega arith) i

    nets : r.nets ≡ s.nets
    nets = is.nets ∙ ap (λ (rank : Read → ℕ). map (wire_rank c rank) c.nets) ranks ∙ sym also.nets

    registers : r.registers ≡ s.registers
    registers = is.registers ∙ ap (λ (rank : Read → ℕ). map (register_rank rank) c.registers) ranks ∙ sym also.registers

    top : r.top ≡ s.top
    top = is.top ∙ ap (λ (ns : List ℕ). greatest (ns ++ r.registers)) nets ∙ ap (λ (ns : List ℕ). greatest (s.nets ++ ns)) registers ∙ sym also.top

    order : r.order ≡ s.order
    order = is.order ∙ ap (λ (rank : Read → ℕ). nodes-by c rank r.top) ranks ∙ ap (nodes-by c (rank_in s)) top ∙ sym also.order
