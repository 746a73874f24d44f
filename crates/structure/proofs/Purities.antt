-- Sets of nodes that have all pure ones, and the greatest set that keeps the rule.
use Rattle.std.proofs.Common.{ℕ, zero, suc, ◌≡◌, ◌<◌, ◌+◌, Bool, true, false, ◌||◌, List, [], ◌∷◌, length, Option, Some, None, refl, sym, ap, ◌∙◌, arith}
use Rattle.std.specs.Prelude.{slice_get}
use Rattle.std.specs.List.{list_all}
use Rattle.std.proofs.Math.ListN.{get_or, set}
use Rattle.std.proofs.lemmas.Bool.{and_parts, and_from}
use Rattle.std.proofs.lemmas.List.{length-set, get_or-set_other, get_or-replicate, length-replicate}
use Rattle.mig_base.specs.declared.circuit.Read.{Read}
use Rattle.mig_base.specs.declared.circuit.Read.TheVariants.{OfNet, OfRegister}
use Rattle.mig_base.specs.declared.circuit.Register.{Register}
use Rattle.mig_base.specs.declared.circuit.NetKind.{NetKind}
use Rattle.mig_base.specs.declared.circuit.NetKind.TheVariants.{Ground, Power, Handed, Shared, Inner}
use Rattle.mig_base.specs.declared.circuit.Wire.{Wire}
use Rattle.mig_base.specs.declared.circuit.Circuit.{Circuit}
use Rattle.mig_base.specs.Reads.{wire_reads, edge_reads}
use Rattle.structure.specs.declared.sets.NodeSet.{NodeSet}
use Rattle.structure.specs.NodeSets.{contains, every_node, trues}
use Rattle.mig_base.specs.WrittenBoard.{is_pulled}
use Rattle.structure.specs.Pure.{always_enabled, pure_driven, pure_kind, net_rule, register_rule, pure_rule, IsPure, IsPurity}
use Rattle.structure.specs.Sweeps.{IsAbove, KeepsRule, size}
use Rattle.structure.proofs.Passing.{all-weaker}

-- a node that keeps the rule in a set keeps it in a greater one
pub rule-weaker : (c : Circuit) (p q : Read → Bool) → ((v : Read) → p v ≡ true → q v ≡ true) → (v : Read) → pure_rule c p v ≡ true → pure_rule c q v ≡ true
rule-weaker c p q h (OfNet n) = at (slice_get c.nets n)
  where
    driven : (w : Wire) (us : List ℕ) → pure_driven c p w us ≡ true → pure_driven c q w us ≡ true
    driven w [] e = e
    driven w (u ∷ []) e =
        let parts = and_parts (always_enabled (slice_get c.units u) || is_pulled w.pull) (list_all p (wire_reads c w)) e in
        and_from (always_enabled (slice_get c.units u) || is_pulled w.pull) (list_all q (wire_reads c w)) parts.0 (all-weaker p q h (wire_reads c w) parts.1)
    driven w (u ∷ v ∷ us) e = e

    kind : (w : Wire) (k : NetKind) → pure_kind c p w k ≡ true → pure_kind c q w k ≡ true
    kind w Ground e = e
    kind w Power e = e
    kind w (Handed place) e = e
    kind w (Shared place) e = e
    kind w Inner e = driven w w.drivers e

    at : (o : Option Wire) → net_rule c p o ≡ true → net_rule c q o ≡ true
    at None e = e
    at (Some w) e = kind w w.kind e
rule-weaker c p q h (OfRegister k) = at (slice_get c.registers k)
  where
    at : (o : Option Register) → register_rule p o ≡ true → register_rule q o ≡ true
    at None e = e
    at (Some r) e = all-weaker p q h (edge_reads r) e

-- a pure node keeps the rule in each set that has all pure nodes
pub pure-keeps : (c : Circuit) (s : NodeSet) (v : Read) → IsAbove c s → IsPure c v → pure_rule c (contains s) v ≡ true
pure-keeps c s v above pure = rule-weaker c pure.0 (contains s) (λ w e. above.every w (pure.0, pure.1, e)) v (pure.1 v pure.2)

-- one flag taken back
pub trues-taken : (bs : List Bool) (i : ℕ) → get_or bs i false ≡ true → trues (set bs i false) + 1 ≡ trues bs
trues-taken [] i e = cc
trues-taken (true ∷ bs) zero e = omega arith
trues-taken (false ∷ bs) zero e = cc
trues-taken (true ∷ bs) (suc i) e = omega (arith, trues-taken bs i e)
trues-taken (false ∷ bs) (suc i) e = trues-taken bs i e

-- a net or a register that doesn't keep the rule is taken out
pub above-without_net : (c : Circuit) (s : NodeSet) (n : ℕ) (nets : List Bool) → IsAbove c s → pure_rule c (contains s) (OfNet n) ≡ false → nets ≡ set s.nets n false →
    IsAbove c (record { nets = nets; registers = s.registers })
above-without_net c s n nets above fails is = record {
  nets = ap length is ∙ length-set s.nets n false ∙ above.nets;
  registers = above.registers;
  every = every;
}
  where
    other : (m : ℕ) → IsPure c (OfNet m) → m ≡ n → ⊥
    other m pure e = let wrong : true ≡ false = sym (pure-keeps c s (OfNet m) above pure) ∙ ap (λ (i : ℕ). pure_rule c (contains s) (OfNet i)) e ∙ fails in cc

    every : (v : Read) → IsPure c v → contains (record { nets = nets; registers = s.registers }) v ≡ true
    every (OfNet m) pure = ap (λ (bs : List Bool). get_or bs m false) is ∙ get_or-set_other s.nets n m false false (other m pure) ∙ above.every (OfNet m) pure
    every (OfRegister k) pure = above.every (OfRegister k) pure

pub above-without_register : (c : Circuit) (s : NodeSet) (n : ℕ) (registers : List Bool) → IsAbove c s → pure_rule c (contains s) (OfRegister n) ≡ false → registers ≡ set s.registers n false →
    IsAbove c (record { nets = s.nets; registers = registers })
above-without_register c s n registers above fails is = record {
  nets = above.nets;
  registers = ap length is ∙ length-set s.registers n false ∙ above.registers;
  every = every;
}
  where
    other : (m : ℕ) → IsPure c (OfRegister m) → m ≡ n → ⊥
    other m pure e = let wrong : true ≡ false = sym (pure-keeps c s (OfRegister m) above pure) ∙ ap (λ (i : ℕ). pure_rule c (contains s) (OfRegister i)) e ∙ fails in cc

    every : (v : Read) → IsPure c v → contains (record { nets = s.nets; registers = registers }) v ≡ true
    every (OfNet m) pure = above.every (OfNet m) pure
    every (OfRegister k) pure = ap (λ (bs : List Bool). get_or bs k false) is ∙ get_or-set_other s.registers n k false false (other k pure) ∙ above.every (OfRegister k) pure

-- all nodes have all pure ones
pub above-start : (c : Circuit) → IsAbove c (every_node c true)
above-start c = record {
  nets = length-replicate (length c.nets) true;
  registers = length-replicate (length c.registers) true;
  every = every;
}
  where
    net : (n : ℕ) (ws : List Wire) (p : Read → Bool) → net_rule c p (slice_get ws n) ≡ true → n < length ws
    net n [] p e = cc
    net zero (w ∷ ws) p e = omega arith
    net (suc n) (w ∷ ws) p e = omega (arith, net n ws p e)

    register : (k : ℕ) (rs : List Register) (p : Read → Bool) → register_rule p (slice_get rs k) ≡ true → k < length rs
    register k [] p e = cc
    register zero (r ∷ rs) p e = omega arith
    register (suc k) (r ∷ rs) p e = omega (arith, register k rs p e)

    every : (v : Read) → IsPure c v → contains (every_node c true) v ≡ true
    every (OfNet n) pure = get_or-replicate (length c.nets) n true false (net n c.nets pure.0 (pure.1 (OfNet n) pure.2))
    every (OfRegister k) pure = get_or-replicate (length c.registers) k true false (register k c.registers pure.0 (pure.1 (OfRegister k) pure.2))

-- a set that has all pure nodes and keeps the rule is that of the pure nodes
pub above-is_purity : (c : Circuit) (s : NodeSet) → IsAbove c s → KeepsRule c s → IsPurity c s
above-is_purity c s above keeps = record {
  nets = above.nets;
  registers = above.registers;
  sound = λ v e. (contains s, keeps, e);
  every = above.every;
}

-- how many nodes are left after one more step of a pass
pub step-falls : (moved : Bool) (s start now : NodeSet) → (moved ≡ true → size s < size start) → (moved ≡ false → s ≡ start) → size now < size s → size now < size start
step-falls true s start now falls stays less = omega (arith, falls refl)
step-falls false s start now falls stays less = omega (arith, ap size (stays refl))

pub still-falls : (s start now : NodeSet) → size s < size start → now ≡ s → size now < size start
still-falls s start now falls same = omega (arith, ap size same)
