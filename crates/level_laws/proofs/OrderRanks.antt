-- A board with an order of evaluation has ranks, so its settled levels and its runs are the only ones.
use Rattle.std.proofs.Common.{ℕ, zero, suc, ◌≡◌, ◌⊎◌, ◌<◌, ◌≤◌, ◌+◌, Bool, true, false, cond, List, [], ◌∷◌, length, None, refl, sym, ap, subst, arith, inl, inr}
use Rattle.std.specs.Prelude.{slice_get, if◌then◌else◌}
use Rattle.std.specs.List.{AllByRecursion}
use Rattle.mig_base.specs.declared.levels.Level.{Level}
use Rattle.mig_base.specs.declared.circuit.Read.{Read}
use Rattle.mig_base.specs.declared.circuit.Read.TheVariants.{OfNet, OfRegister}
use Rattle.mig_base.specs.declared.circuit.Circuit.{Circuit}
use Rattle.mig_base.specs.declared.circuit.Levels.{Levels}
use Rattle.mig_base.specs.Among.{Among}
use Rattle.mig_base.specs.Reads.{node_reads, reads_of_wire, reads_of_register}
use Rattle.mig_base.specs.Structure.{same_read}
use Rattle.level_laws.specs.Runs.{IsRun, power_up}
use Rattle.level_laws.specs.Settled.{IsSettled}
use Rattle.mig_base.specs.Ranked.{Ranked}
use Rattle.level_laws.proofs.OneRun.{run-unique}
use Rattle.level_laws.proofs.Unique.{settled-unique}
use Rattle.ranks.proofs.NoLoops.{all_mono}
use Rattle.ranks.specs.Order.{GoesOn, IsOrder}
use Rattle.mig_base.specs.Reads.{IsNode}
use Rattle.mig_base.proofs.ReadLaws.{read-same, same-read}
use Rattle.mig_base.proofs.Amongs.{among-all, all-among}

-- the place of a node among those that are done, the last one first; 0 where it is not among them
abbrev pub place_in : List Read → Read → ℕ
place_in [] v = 0
place_in (x ∷ xs) v = if same_read v x then length xs + 1 else place_in xs v

place-low : (xs : List Read) (v : Read) → place_in xs v ≤ length xs
place-low [] v = omega arith
place-low (x ∷ xs) v = at (same_read v x) (place-low xs v)
  where
    at : (b : Bool) → place_in xs v ≤ length xs → cond b (length xs + 1) (place_in xs v) ≤ length (x ∷ xs)
    at true h = omega arith
    at false h = omega arith

place-here : (xs : List Read) (v : Read) → place_in (v ∷ xs) v ≡ length xs + 1
place-here xs v = ap (λ (b : Bool). cond b (length xs + 1) (place_in xs v)) (same-read v)

place-other : (xs : List Read) (x v : Read) → (v ≡ x → ⊥) → place_in (x ∷ xs) v ≡ place_in xs v
place-other xs x v other = at (same_read v x) refl
  where
    at : (b : Bool) → same_read v x ≡ b → cond b (length xs + 1) (place_in xs v) ≡ place_in xs v
    at true t = absurd (other (read-same v x t))
    at false f = refl

-- a node of the board that is read is done
abbrev pub Held : Circuit → List Read → Read → Type 0
Held c done w = IsNode c w → Among w done

-- this node stands behind the other
abbrev pub Below : List Read → Read → Read → Type 0
Below done v w = place_in done w < place_in done v

-- nodes that are done read only such nodes as are done, and stand behind these
pub record IsOrdered (c : Circuit) (done : List Read) : Type 0 where
  pub closed : (u : Read) → Among u done → AllByRecursion (Held c done) (node_reads c u)
  pub falls : (u : Read) → Among u done → AllByRecursion (Below done u) (node_reads c u)

pub ordered-next : (c : Circuit) (done : List Read) (v : Read) → IsNode c v → (Among v done → ⊥) → AllByRecursion (Held c done) (node_reads c v) →
    IsOrdered c done → IsOrdered c (v ∷ done)
ordered-next c done v node new reads o = record { closed = closed; falls = falls }
  where
    apart : (w : Read) → Held c done w → w ≡ v → ⊥
    apart w held e = new (subst (λ (q : Read). Among q done) e (held (subst (IsNode c) (sym e) node)))

    wider : (rs : List Read) → AllByRecursion (Held c done) rs → AllByRecursion (Held c (v ∷ done)) rs
    wider rs h = all_mono (Held c done) (Held c (v ∷ done)) (λ w held is. inr (held is)) rs h

    closed : (u : Read) → Among u (v ∷ done) → AllByRecursion (Held c (v ∷ done)) (node_reads c u)
    closed u (inl e) = subst (λ (q : Read). AllByRecursion (Held c (v ∷ done)) (node_reads c q)) (sym e) (wider (node_reads c v) reads)
    closed u (inr a) = wider (node_reads c u) (o.closed u a)

    first : (w : Read) → Held c done w → Below (v ∷ done) v w
    first w held =
        let there : place_in (v ∷ done) w ≡ place_in done w = place-other done v w (apart w held) in
        let here : place_in (v ∷ done) v ≡ length done + 1 = place-here done v in
        let low : place_in done w ≤ length done = place-low done w in
        omega arith

    later : (u : Read) → Among u done → (w : Read) → Held c done w → Below done u w → Below (v ∷ done) u w
    later u a w held below =
        let there : place_in (v ∷ done) w ≡ place_in done w = place-other done v w (apart w held) in
        let here : place_in (v ∷ done) u ≡ place_in done u = place-other done v u (λ e. new (subst (λ (q : Read). Among q done) e a)) in
        omega arith

    falls : (u : Read) → Among u (v ∷ done) → AllByRecursion (Below (v ∷ done) u) (node_reads c u)
    falls u (inl e) = subst (λ (q : Read). AllByRecursion (Below (v ∷ done) q) (node_reads c q)) (sym e)
        (all_mono (Held c done) (Below (v ∷ done) v) first (node_reads c v) reads)
    falls u (inr a) = all-among (Below (v ∷ done) u) (node_reads c u)
        (λ w m. later u a w (among-all (Held c done) w (node_reads c u) (o.closed u a) m) (among-all (Below done u) w (node_reads c u) (o.falls u a) m))

-- all nodes of the order, behind those before it
record IsDone (c : Circuit) (before rest : List Read) : Type 0 where
  done : List Read
  ordered : IsOrdered c done
  all : (v : Read) → Among v before ⊎ Among v rest → Among v done

done-all : (c : Circuit) (before rest : List Read) → IsOrdered c before → AllByRecursion (IsNode c) rest → GoesOn c before rest → IsDone c before rest
done-all c before [] o nodes on = record { done = before; ordered = o; all = all }
  where
    all : (v : Read) → Among v before ⊎ Among v [] → Among v before
    all v (inl a) = a
    all v (inr a) = absurd a
done-all c before (x ∷ rest) o nodes on = on_with (done-all c (x ∷ before) rest (ordered-next c before x nodes.0 on.0 on.1 o) nodes.1 on.2)
  where
    moved : (v : Read) → Among v before ⊎ Among v (x ∷ rest) → Among v (x ∷ before) ⊎ Among v rest
    moved v (inl a) = inl (inr a)
    moved v (inr (inl e)) = inl (inl e)
    moved v (inr (inr a)) = inr a

    on_with : IsDone c (x ∷ before) rest → IsDone c before (x ∷ rest)
    on_with d = record { done = d.done; ordered = d.ordered; all = λ v a. d.all v (moved v a) }

-- an item of a list, or none
within : {T : Type 0} (ts : List T) (n : ℕ) → (n < length ts) ⊎ (slice_get ts n ≡ None)
within [] n = inr refl
within (t ∷ ts) zero = inl (omega arith)
within (t ∷ ts) (suc n) = up (within ts n)
  where
    up : (n < length ts) ⊎ (slice_get ts n ≡ None) → (suc n < length (t ∷ ts)) ⊎ (slice_get (t ∷ ts) (suc n) ≡ None)
    up (inl h) = inl (omega arith)
    up (inr e) = inr e

-- what is no node of the board reads nothing
node-or-blind : (c : Circuit) (v : Read) → IsNode c v ⊎ (node_reads c v ≡ [])
node-or-blind c (OfNet n) = at (within c.nets n)
  where
    at : (n < length c.nets) ⊎ (slice_get c.nets n ≡ None) → (n < length c.nets) ⊎ (reads_of_wire c (slice_get c.nets n) ≡ [])
    at (inl h) = inl h
    at (inr e) = inr (ap (reads_of_wire c) e)
node-or-blind c (OfRegister k) = at (within c.registers k)
  where
    at : (k < length c.registers) ⊎ (slice_get c.registers k ≡ None) → (k < length c.registers) ⊎ (reads_of_register (slice_get c.registers k) ≡ [])
    at (inl h) = inl h
    at (inr e) = inr (ap reads_of_register e)

-- ranks of a board
pub record HasRanks (c : Circuit) : Type 0 where
  pub rank : Read → ℕ
  pub top : ℕ
  pub ranked : Ranked c rank top

-- the places of nodes that are done are ranks, where all nodes are
pub ordered-ranks : (c : Circuit) (done : List Read) → IsOrdered c done → ((v : Read) → IsNode c v → Among v done) → HasRanks c
ordered-ranks c done ordered every = record { rank = place_in done; top = length done + 1; ranked = record { falls = falls; below = below } }
  where
    falls : (v : Read) → AllByRecursion (Below done v) (node_reads c v)
    falls v = at (node-or-blind c v)
      where
        at : IsNode c v ⊎ (node_reads c v ≡ []) → AllByRecursion (Below done v) (node_reads c v)
        at (inl node) = ordered.falls v (every v node)
        at (inr e) = subst (AllByRecursion (Below done v)) (sym e) tt

    below : (v : Read) → place_in done v < length done + 1
    below v = let low : place_in done v ≤ length done = place-low done v in omega arith

-- so are the places in an order of evaluation
pub order-ranks : (c : Circuit) (order : List Read) → IsOrder c order → HasRanks c
order-ranks c order is = by (done-all c [] order (record { closed = λ u a. absurd a; falls = λ u a. absurd a }) is.nodes is.behind)
  where
    by : IsDone c [] order → HasRanks c
    by d = ordered-ranks c d.done d.ordered (λ v node. d.all v (inr (is.every v node)))

-- a board with an order of evaluation has no other settled levels
pub order-settles-once : (c : Circuit) (order : List Read) → IsOrder c order → (stored inputs : List Level) (l m : Levels) →
    IsSettled c stored inputs l → IsSettled c stored inputs m → l ≡ m
order-settles-once c order is stored inputs l m sl sm = let r = order-ranks c order is in settled-unique c r.rank r.top stored inputs l m r.ranked sl sm

-- it has no other run
pub order-runs-once : (c : Circuit) (order : List Read) → IsOrder c order → (inputs shown others : List (List Level)) →
    IsRun c inputs shown → IsRun c inputs others → shown ≡ others
order-runs-once c order is inputs shown others a b = let r = order-ranks c order is in run-unique c r.rank r.top r.ranked inputs shown others (power_up c) None a b
