-- Sets of needed nodes, and the nodes that are added to them.
use Rattle.std.proofs.Common.{ℕ, zero, suc, ◌≡◌, ◌⊎◌, ◌<◌, ◌+◌, Bool, true, false, List, [], ◌∷◌, ◌++◌, length, take, refl, sym, ap, ◌∙◌, subst, arith, inl, inr}
use Rattle.std.specs.Prelude.{slice_get}
use Rattle.std.proofs.Math.ListN.{get_or, set}
use Rattle.std.proofs.lemmas.List.{length-set, get_or-set_same, take_more}
use Rattle.mig_base.specs.declared.circuit.Read.{Read}
use Rattle.mig_base.specs.declared.circuit.Read.TheVariants.{OfNet, OfRegister}
use Rattle.mig_base.specs.declared.circuit.Wire.{Wire}
use Rattle.mig_base.specs.declared.circuit.Circuit.{Circuit}
use Rattle.mig_base.specs.Among.{Among}
use Rattle.structure.specs.declared.sets.NodeSet.{NodeSet}
use Rattle.structure.specs.NodeSets.{contains, with_node, with_nodes}
use Rattle.structure.specs.Live.{WireNotHanded}
use Rattle.structure.specs.Waking.{HasPorts, IsNeeded}
use Rattle.mig_base.specs.Reads.{IsNode}

pub among-last : {T : Type 0} (x y : T) (xs : List T) → Among x (xs ++ y ∷ []) → Among x xs ⊎ (x ≡ y)
among-last x y [] (inl e) = inr e
among-last x y [] (inr none) = absurd none
among-last x y (z ∷ zs) (inl e) = inl (inl e)
among-last x y (z ∷ zs) (inr a) = at (among-last x y zs a)
  where
    at : Among x zs ⊎ (x ≡ y) → Among x (z ∷ zs) ⊎ (x ≡ y)
    at (inl b) = inl (inr b)
    at (inr e) = inr e

pub among-at : {T : Type 0} (xs : List T) (i : ℕ) (d : T) → i < length xs → Among (get_or xs i d) xs
among-at [] i d h = absurd (omega arith)
among-at (x ∷ xs) zero d h = inl refl
among-at (x ∷ xs) (suc i) d h = inr (among-at xs i d (omega arith))

-- flags that stay, and the one that was raised
pub flag-kept : (bs : List Bool) (i j : ℕ) → get_or bs j false ≡ true → get_or (set bs i true) j false ≡ true
flag-kept [] i j e = e
flag-kept (b ∷ bs) zero zero e = refl
flag-kept (b ∷ bs) zero (suc j) e = e
flag-kept (b ∷ bs) (suc i) zero e = e
flag-kept (b ∷ bs) (suc i) (suc j) e = flag-kept bs i j e

pub flag-raised : (bs : List Bool) (i j : ℕ) → get_or (set bs i true) j false ≡ true → (get_or bs j false ≡ true) ⊎ (j ≡ i)
flag-raised [] i j e = inl e
flag-raised (b ∷ bs) zero zero e = inr refl
flag-raised (b ∷ bs) zero (suc j) e = inl e
flag-raised (b ∷ bs) (suc i) zero e = inl e
flag-raised (b ∷ bs) (suc i) (suc j) e = at (flag-raised bs i j e)
  where
    at : (get_or bs j false ≡ true) ⊎ (j ≡ i) → (get_or bs j false ≡ true) ⊎ (suc j ≡ suc i)
    at (inl h) = inl h
    at (inr h) = inr (ap suc h)

pub node-kept : (s : NodeSet) (w v : Read) → contains s v ≡ true → contains (with_node s w) v ≡ true
node-kept s (OfNet i) (OfNet j) e = flag-kept s.nets i j e
node-kept s (OfNet i) (OfRegister k) e = e
node-kept s (OfRegister i) (OfNet j) e = e
node-kept s (OfRegister i) (OfRegister j) e = flag-kept s.registers i j e

node-raised : (s : NodeSet) (w v : Read) → contains (with_node s w) v ≡ true → (contains s v ≡ true) ⊎ (v ≡ w)
node-raised s (OfNet i) (OfNet j) e = at (flag-raised s.nets i j e)
  where
    at : (get_or s.nets j false ≡ true) ⊎ (j ≡ i) → (get_or s.nets j false ≡ true) ⊎ (OfNet j ≡ OfNet i)
    at (inl h) = inl h
    at (inr h) = inr (ap OfNet h)
node-raised s (OfNet i) (OfRegister k) e = inl e
node-raised s (OfRegister i) (OfNet j) e = inl e
node-raised s (OfRegister i) (OfRegister j) e = at (flag-raised s.registers i j e)
  where
    at : (get_or s.registers j false ≡ true) ⊎ (j ≡ i) → (get_or s.registers j false ≡ true) ⊎ (OfRegister j ≡ OfRegister i)
    at (inl h) = inl h
    at (inr h) = inr (ap OfRegister h)

pub lengths-with_node : (s : NodeSet) (w : Read) → (length (with_node s w).nets ≡ length s.nets) × (length (with_node s w).registers ≡ length s.registers)
lengths-with_node s (OfNet n) = (length-set s.nets n true, refl)
lengths-with_node s (OfRegister k) = (refl, length-set s.registers k true)

-- one more needed node
pub needed-more : (c : Circuit) (shown : List ℕ) (s : NodeSet) (w : Read) → HasPorts c shown s → IsNeeded c w → HasPorts c shown (with_node s w)
needed-more c shown s w has needed = record {
  nets = (lengths-with_node s w).0 ∙ has.nets;
  registers = (lengths-with_node s w).1 ∙ has.registers;
  sound = sound;
  ports = λ n a h. node-kept s w (OfNet n) (has.ports n a h);
}
  where
    sound : (v : Read) → contains (with_node s w) v ≡ true → IsNeeded c v
    sound v e = at (node-raised s w v e)
      where
        at : (contains s v ≡ true) ⊎ (v ≡ w) → IsNeeded c v
        at (inl h) = has.sound v h
        at (inr same) = subst (IsNeeded c) (sym same) needed

pub needed-all : (c : Circuit) (shown : List ℕ) (s : NodeSet) (vs : List Read) → HasPorts c shown s → ((v : Read) → Among v vs → IsNeeded c v) → HasPorts c shown (with_nodes s vs)
needed-all c shown s [] has needed = has
needed-all c shown s (v ∷ vs) has needed = needed-all c shown (with_node s v) vs (needed-more c shown s v has (needed v (inl refl))) (λ w a. needed w (inr a))

-- what was added is there, and what was there stays
pub nodes-kept : (s : NodeSet) (vs : List Read) (v : Read) → contains s v ≡ true → contains (with_nodes s vs) v ≡ true
nodes-kept s [] v e = e
nodes-kept s (w ∷ ws) v e = nodes-kept (with_node s w) ws v (node-kept s w v e)

node-there : (c : Circuit) (s : NodeSet) (v : Read) → length s.nets ≡ length c.nets → length s.registers ≡ length c.registers → IsNode c v → contains (with_node s v) v ≡ true
node-there c s (OfNet n) en er h = get_or-set_same s.nets n true false (omega (arith, en))
node-there c s (OfRegister k) en er h = get_or-set_same s.registers k true false (omega (arith, er))

pub nodes-there : (c : Circuit) (s : NodeSet) (vs : List Read) (v : Read) → length s.nets ≡ length c.nets → length s.registers ≡ length c.registers → IsNode c v → Among v vs → contains (with_nodes s vs) v ≡ true
nodes-there c s [] v en er node a = absurd a
nodes-there c s (w ∷ ws) v en er node (inl e) = nodes-kept (with_node s w) ws v (subst (λ (u : Read). contains (with_node s u) v ≡ true) e (node-there c s v en er node))
nodes-there c s (w ∷ ws) v en er node (inr a) = nodes-there c (with_node s w) ws v ((lengths-with_node s w).0 ∙ en) ((lengths-with_node s w).1 ∙ er) node a

-- the next port of the list, which is added exactly where it is an Output or Both port
pub port-added : (c : Circuit) (ports : List ℕ) (i : ℕ) (s : NodeSet) → i < length ports → HasPorts c (take i ports) s → IsNeeded c (OfNet (get_or ports i 0)) → WireNotHanded (slice_get c.nets (get_or ports i 0)) →
    HasPorts c (take (i + 1) ports) (with_node s (OfNet (get_or ports i 0)))
port-added c ports i s within has needed shown =
    let more = needed-more c (take i ports) s (OfNet (get_or ports i 0)) has needed in
    record { nets = more.nets; registers = more.registers; sound = more.sound; ports = every }
  where
    net-there : (m : ℕ) → WireNotHanded (slice_get c.nets m) → contains (with_node s (OfNet m)) (OfNet m) ≡ true
    net-there m h = get_or-set_same s.nets m true false (omega (arith, has.nets, inside m c.nets h))
      where
        inside : (n : ℕ) (ws : List Wire) → WireNotHanded (slice_get ws n) → n < length ws
        inside n [] h = absurd h
        inside zero (w ∷ ws) h = omega arith
        inside (suc n) (w ∷ ws) h = omega (arith, inside n ws h)

    every : (n : ℕ) → Among n (take (i + 1) ports) → WireNotHanded (slice_get c.nets n) → contains (with_node s (OfNet (get_or ports i 0))) (OfNet n) ≡ true
    every n a h = at (among-last n (get_or ports i 0) (take i ports) (subst (Among n) (take_more ports i 0 within) a))
      where
        at : Among n (take i ports) ⊎ (n ≡ get_or ports i 0) → contains (with_node s (OfNet (get_or ports i 0))) (OfNet n) ≡ true
        at (inl b) = node-kept s (OfNet (get_or ports i 0)) (OfNet n) (has.ports n b h)
        at (inr e) = subst (λ (m : ℕ). contains (with_node s (OfNet m)) (OfNet n) ≡ true) e (net-there n h)

pub port-skipped : (c : Circuit) (ports : List ℕ) (i : ℕ) (s : NodeSet) → i < length ports → HasPorts c (take i ports) s → (WireNotHanded (slice_get c.nets (get_or ports i 0)) → ⊥) → HasPorts c (take (i + 1) ports) s
port-skipped c ports i s within has handed = record { nets = has.nets; registers = has.registers; sound = has.sound; ports = every }
  where
    every : (n : ℕ) → Among n (take (i + 1) ports) → WireNotHanded (slice_get c.nets n) → contains s (OfNet n) ≡ true
    every n a h = at (among-last n (get_or ports i 0) (take i ports) (subst (Among n) (take_more ports i 0 within) a))
      where
        at : Among n (take i ports) ⊎ (n ≡ get_or ports i 0) → contains s (OfNet n) ≡ true
        at (inl b) = has.ports n b h
        at (inr e) = absurd (handed (subst (λ (m : ℕ). WireNotHanded (slice_get c.nets m)) e h))
