-- Nodes stand behind what they read.
use Rattle.std.proofs.Common.{ℕ, zero, suc, ◌≡◌, ◌⊎◌, List, [], ◌∷◌, take, slice_get, Some, sym, subst, inl, inr}
use Rattle.mig_base.specs.Among.{Among}
use Rattle.mig_base.specs.Reads.{node_reads}
use Rattle.mig_base.specs.declared.circuit.Read.{Read}
use Rattle.mig_base.specs.declared.circuit.Circuit.{Circuit}
use Rattle.ranks.specs.Order.{GoesOn}
use Rattle.mig_base.specs.Reads.{IsNode}
use Rattle.mig_base.proofs.Amongs.{among-all}

same_item : (x v : Read) → Some x ≡ Some v → x ≡ v
same_item x v e = cc

later : (x w : Read) (before xs : List Read) → Among w (x ∷ before) ⊎ Among w xs → Among w before ⊎ Among w (x ∷ xs)
later x w before xs (inl (inl e)) = inr (inl e)
later x w before xs (inl (inr a)) = inl a
later x w before xs (inr a) = inr (inr a)

sooner : (x w : Read) (before xs : List Read) → Among w before ⊎ Among w (x ∷ xs) → Among w (x ∷ before) ⊎ Among w xs
sooner x w before xs (inl a) = inl (inr a)
sooner x w before xs (inr (inl e)) = inl (inl e)
sooner x w before xs (inr (inr a)) = inr a

-- what the node at a place of an order reads stands before it
pub read_before : (c : Circuit) (before order : List Read) (i : ℕ) (v w : Read) → GoesOn c before order → slice_get order i ≡ Some v
    → Among w (node_reads c v) → IsNode c w → Among w before ⊎ Among w (take i order)
read_before c before [] i v w h e a n = cc
read_before c before (x ∷ xs) zero v w h e a n =
    inl (among-all (λ u. IsNode c u → Among u before) w (node_reads c x) h.1 (subst (λ u. Among w (node_reads c u)) (sym (same_item x v e)) a) n)
read_before c before (x ∷ xs) (suc i) v w h e a n = later x w before (take i xs) (read_before c (x ∷ before) xs i v w h.2 e a n)

-- and it is new there
pub new_there : (c : Circuit) (before order : List Read) (i : ℕ) (v : Read) → GoesOn c before order → slice_get order i ≡ Some v
    → Among v before ⊎ Among v (take i order) → ⊥
new_there c before [] i v h e a = cc
new_there c before (x ∷ xs) zero v h e (inl a) = h.0 (subst (λ u. Among u before) (sym (same_item x v e)) a)
new_there c before (x ∷ xs) zero v h e (inr a) = absurd a
new_there c before (x ∷ xs) (suc i) v h e a = new_there c (x ∷ before) xs i v h.2 e (sooner x v before (take i xs) a)
