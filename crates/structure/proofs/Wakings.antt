-- Live units are found one by one, and at the end all.
use Rattle.std.proofs.Common.{ℕ, zero, suc, ◌≡◌, ◌⊎◌, ◌<◌, ◌+◌, Bool, true, false, List, [], ◌∷◌, length, take, Option, Some, None, refl, sym, ap, ◌∙◌, subst, arith, inl, inr}
use Rattle.std.specs.Prelude.{slice_get}
use Rattle.std.proofs.Math.ListN.{get_or, set}
use Rattle.std.proofs.lemmas.List.{length-set, take_more}
use Rattle.std.proofs.lemmas.Option.{slice_get_within}
use Rattle.mig_base.specs.declared.circuit.Read.{Read}
use Rattle.mig_base.specs.declared.circuit.Read.TheVariants.{OfNet, OfRegister}
use Rattle.mig_base.specs.declared.circuit.Driver.{Driver}
use Rattle.mig_base.specs.declared.circuit.Wire.{Wire}
use Rattle.mig_base.specs.declared.circuit.Circuit.{Circuit}
use Rattle.mig_base.specs.Among.{Among}
use Rattle.structure.specs.declared.liveness.Waking.{Waking}
use Rattle.structure.specs.declared.sets.NodeSet.{NodeSet}
use Rattle.structure.specs.NodeSets.{contains, with_nodes}
use Rattle.structure.specs.Live.{reads_of_unit, unit_reads, DrivesWire, StandsBehind, IsLiveSet, IsLive, IsLiveness}
use Rattle.structure.specs.Waking.{HasPorts, IsNeeded, IsWaking, AreAwake, AllAwake, falses, is_awake}
use Rattle.mig_base.specs.Reads.{IsNode}
use Rattle.structure.proofs.NeededNodes.{among-last, flag-raised, needed-all, nodes-kept, nodes-there}

-- one more flag
pub falses-raised : (bs : List Bool) (i : ℕ) → i < length bs → get_or bs i false ≡ false → falses (set bs i true) + 1 ≡ falses bs
falses-raised [] i h e = absurd (omega arith)
falses-raised (true ∷ bs) zero h e = cc
falses-raised (false ∷ bs) zero h e = omega arith
falses-raised (true ∷ bs) (suc i) h e = falses-raised bs i (omega arith) e
falses-raised (false ∷ bs) (suc i) h e = omega (arith, falses-raised bs i (omega arith) e)

-- all behind what a live unit reads, and behind what is needed, are live
pub reads-needed : (c : Circuit) (u : ℕ) → IsLive c u → (v : Read) → Among v (unit_reads c u) → IsNeeded c v
reads-needed c u live v reads w behind set is = is.reads u v w (live set is) reads behind

-- one more unit is known to be live
pub waking-next : (c : Circuit) (m : Waking) (u : ℕ) (d : Driver) (live : List Bool) (needed : NodeSet) → IsWaking c m → IsLive c u → slice_get c.units u ≡ Some d →
    live ≡ set m.live u true → needed ≡ with_nodes m.needed (reads_of_unit c (Some d)) → IsWaking c (record { live = live; needed = needed })
waking-next c m u d live needed waking is unit flags nodes = record {
  units = ap length flags ∙ length-set m.live u true ∙ waking.units;
  live = sound;
  needed = subst (λ (s : NodeSet). HasPorts c c.ports s) (sym all) (needed-all c c.ports m.needed (unit_reads c u) waking.needed (reads-needed c u is));
  reads = reads;
}
  where
    all : needed ≡ with_nodes m.needed (unit_reads c u)
    all = nodes ∙ ap (λ (o : Option Driver). with_nodes m.needed (reads_of_unit c o)) (sym unit)

    raised : (w : ℕ) → get_or live w false ≡ true → (get_or m.live w false ≡ true) ⊎ (w ≡ u)
    raised w e = flag-raised m.live u w (ap (λ (bs : List Bool). get_or bs w false) (sym flags) ∙ e)

    sound : (w : ℕ) → get_or live w false ≡ true → IsLive c w
    sound w e = at (raised w e)
      where
        at : (get_or m.live w false ≡ true) ⊎ (w ≡ u) → IsLive c w
        at (inl h) = waking.live w h
        at (inr same) = subst (IsLive c) (sym same) is

    reads : (w : ℕ) (v : Read) → get_or live w false ≡ true → Among v (unit_reads c w) → IsNode c v → contains needed v ≡ true
    reads w v e a node = subst (λ (s : NodeSet). contains s v ≡ true) (sym all) (at (raised w e))
      where
        at : (get_or m.live w false ≡ true) ⊎ (w ≡ u) → contains (with_nodes m.needed (unit_reads c u)) v ≡ true
        at (inl h) = nodes-kept m.needed (unit_reads c u) v (waking.reads w v h a node)
        at (inr same) = nodes-there c m.needed (unit_reads c u) v waking.needed.nets waking.needed.registers node (subst (λ (x : ℕ). Among v (unit_reads c x)) same a)

-- how many units are not known to be live after one more step
pub step-falls : (moved : Bool) (s start now : Waking) → (moved ≡ true → falses s.live < falses start.live) → (moved ≡ false → s ≡ start) → falses now.live < falses s.live → falses now.live < falses start.live
step-falls true s start now falls stays less = omega (arith, falls refl)
step-falls false s start now falls stays less = omega (arith, ap (λ (m : Waking). falses m.live) (stays refl))

pub still-falls : (s start now : Waking) → falses s.live < falses start.live → now ≡ s → falses now.live < falses start.live
still-falls s start now falls same = omega (arith, ap (λ (m : Waking). falses m.live) same)

-- where all behind needed nodes are marked, all live units are
pub awake-is_liveness : (c : Circuit) (m : Waking) → IsWaking c m → AllAwake c m → IsLiveness c m.live
awake-is_liveness c m waking awake = record { units = waking.units; sound = waking.live; every = every }
  where
    marked : (bs : List Bool) (u : ℕ) → u < length bs → get_or bs u true ≡ true → get_or bs u false ≡ true
    marked [] u h e = absurd (omega arith)
    marked (b ∷ bs) zero h e = e
    marked (b ∷ bs) (suc u) h e = marked bs u (omega arith) e

    node : (v : Read) (w : ℕ) → StandsBehind c w v → IsNode c v
    node (OfNet n) w h = at (slice_get c.nets n) refl h
      where
        at : (o : Option Wire) → slice_get c.nets n ≡ o → DrivesWire w o → n < length c.nets
        at None e h = absurd h
        at (Some wire) e h = slice_get_within c.nets n wire e
    node (OfRegister k) w h = h.0

    closed : IsLiveSet c (is_awake m)
    closed = record { ports = λ n u shown behind. awake (OfNet n) (waking.needed.ports n shown.0 shown.1) u behind; reads = reads }
      where
        reads : (u : ℕ) (v : Read) (w : ℕ) → is_awake m u ≡ true → Among v (unit_reads c u) → StandsBehind c w v → is_awake m w ≡ true
        reads u v w e a behind = awake v (at (slice_get c.units u) refl a) w behind
          where
            at : (o : Option Driver) → slice_get c.units u ≡ o → Among v (reads_of_unit c o) → contains m.needed v ≡ true
            at None past b = absurd b
            at (Some d) is b = waking.reads u v (marked m.live u (omega (arith, waking.units, slice_get_within c.units u d is)) e) a (node v w behind)

    every : (u : ℕ) → u < length c.units → IsLive c u → get_or m.live u false ≡ true
    every u within live = marked m.live u (omega (arith, waking.units)) (live (is_awake m) closed)

-- one more unit of a list is marked
pub awake-more : (m : Waking) (us : List ℕ) (i : ℕ) → i < length us → AreAwake m (take i us) → is_awake m (get_or us i 0) ≡ true → AreAwake m (take (i + 1) us)
awake-more m us i within before here u a = at (among-last u (get_or us i 0) (take i us) (subst (Among u) (take_more us i 0 within) a))
  where
    at : Among u (take i us) ⊎ (u ≡ get_or us i 0) → is_awake m u ≡ true
    at (inl b) = before u b
    at (inr e) = subst (λ (v : ℕ). is_awake m v ≡ true) (sym e) here

pub flag-within : (bs : List Bool) (i : ℕ) → get_or bs i false ≡ true → i < length bs
flag-within [] i e = cc
flag-within (b ∷ bs) zero e = omega arith
flag-within (b ∷ bs) (suc i) e = omega (arith, flag-within bs i e)
