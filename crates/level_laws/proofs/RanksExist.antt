-- A board without loops has ranks: nodes that read only such nodes as are done are done next, and where none is left to be, all are.
use Rattle.std.proofs.Common.{ℕ, zero, suc, ◌≡◌, ◌⊎◌, ◌<◌, ◌≤◌, Bool, true, false, not, cond, List, [], ◌∷◌, filter, length, Option, None, refl, sym, ap, ◌∙◌, subst, arith, inl, inr}
use Rattle.std.specs.List.{AllByRecursion}
use Rattle.std.proofs.lemmas.Bool.{cases_lt, not-true}
use Rattle.mig_base.specs.declared.levels.Level.{Level}
use Rattle.mig_base.specs.declared.circuit.Read.{Read}
use Rattle.mig_base.specs.declared.circuit.Read.TheVariants.{OfNet, OfRegister}
use Rattle.mig_base.specs.declared.circuit.Circuit.{Circuit}
use Rattle.mig_base.specs.Accepted.{IsAccepted, Walk}
use Rattle.mig_base.specs.Among.{Among}
use Rattle.mig_base.specs.Reads.{node_reads, IsNode}
use Rattle.mig_base.specs.Structure.{same_read, all_variables}
use Rattle.mig_base.proofs.Amongs.{filter-among, among-filter, node-among, among-node}
use Rattle.mig_base.proofs.ReadLaws.{read-same, same-read}
use Rattle.ranks.proofs.NoLoops.{nodes-loop}
use Rattle.level_laws.specs.Runs.{IsRun, IsRunFrom, power_up}
use Rattle.level_laws.proofs.OneRun.{run-exists, run-unique}
use Rattle.level_laws.proofs.OrderRanks.{Held, IsOrdered, ordered-next, HasRanks, ordered-ranks}

-- whether a node is among these
search-node : (v : Read) (ws : List Read) → Among v ws ⊎ (Among v ws → ⊥)
search-node v [] = inr (λ a. a)
search-node v (w ∷ ws) = at (same_read v w) refl (search-node v ws)
  where
    at : (b : Bool) → same_read v w ≡ b → Among v ws ⊎ (Among v ws → ⊥) → Among v (w ∷ ws) ⊎ (Among v (w ∷ ws) → ⊥)
    at true e later = inl (inl (read-same v w e))
    at false e (inl a) = inl (inr a)
    at false e (inr none) = inr neither
      where
        neither : Among v (w ∷ ws) → ⊥
        neither (inl same) = let wrong : true ≡ false = sym (same-read v) ∙ ap (same_read v) same ∙ e in apart wrong
          where
            apart : true ≡ false → ⊥
            apart x = cc
        neither (inr a) = none a

-- the nodes that wait, without this one
abbrev without : Read → List Read → List Read
without v ws = filter (λ w. not (same_read v w)) ws

without-less : (v : Read) (ws : List Read) → Among v ws → length (without v ws) < length ws
without-less v [] a = absurd a
without-less v (w ∷ ws) a = at (same_read v w) refl a (fewer ws) (λ m. without-less v ws m)
  where
    fewer : (us : List Read) → length (without v us) ≤ length us
    fewer [] = omega arith
    fewer (u ∷ us) = by (not (same_read v u)) (fewer us)
      where
        by : (b : Bool) → length (without v us) ≤ length us → length (cond b (u ∷ without v us) (without v us)) ≤ length (u ∷ us)
        by true h = omega arith
        by false h = omega arith

    at : (b : Bool) → same_read v w ≡ b → Among v (w ∷ ws) → length (without v ws) ≤ length ws → (Among v ws → length (without v ws) < length ws) →
        length (cond (not b) (w ∷ without v ws) (without v ws)) < length (w ∷ ws)
    at true e m few less = omega arith
    at false e (inl same) few less = let wrong : true ≡ false = sym (same-read v) ∙ ap (same_read v) same ∙ e in absurd (apart wrong)
      where
        apart : true ≡ false → ⊥
        apart x = cc
    at false e (inr m) few less = let low : length (without v ws) < length ws = less m in omega arith

-- nodes that are done, each behind all that it reads, and all others, which wait
record IsParted (c : Circuit) (done waiting : List Read) : Type 0 where
  ordered : IsOrdered c done
  nodes : (v : Read) → Among v waiting → IsNode c v
  apart : (v : Read) → Among v waiting → Among v done → ⊥
  every : (v : Read) → IsNode c v → Among v done ⊎ Among v waiting

-- all that a node reads is done, or it reads one that waits
abbrev IsReady : Circuit → List Read → Read → Type 0
IsReady c done v = AllByRecursion (Held c done) (node_reads c v)

abbrev ReadsWaiting : Circuit → List Read → Read → Type 0
ReadsWaiting c waiting v = (w : Read) × Among w (node_reads c v) × Among w waiting

node-there : (c : Circuit) (v : Read) → IsNode c v ⊎ (IsNode c v → ⊥)
node-there c (OfNet n) = at (cases_lt n (length c.nets))
  where
    at : (n < length c.nets) ⊎ (length c.nets ≤ n) → (n < length c.nets) ⊎ (n < length c.nets → ⊥)
    at (inl h) = inl h
    at (inr h) = inr (λ low. omega (arith, low, h))
node-there c (OfRegister k) = at (cases_lt k (length c.registers))
  where
    at : (k < length c.registers) ⊎ (length c.registers ≤ k) → (k < length c.registers) ⊎ (k < length c.registers → ⊥)
    at (inl h) = inl h
    at (inr h) = inr (λ low. omega (arith, low, h))

ready-or-not : (c : Circuit) (done waiting : List Read) → IsParted c done waiting → (v : Read) (rs : List Read) → ((w : Read) → Among w rs → Among w (node_reads c v)) →
    AllByRecursion (Held c done) rs ⊎ ReadsWaiting c waiting v
ready-or-not c done waiting p v [] within = inl tt
ready-or-not c done waiting p v (r ∷ rs) within = at (node-there c r) (ready-or-not c done waiting p v rs (λ w a. within w (inr a)))
  where
    at : IsNode c r ⊎ (IsNode c r → ⊥) → AllByRecursion (Held c done) rs ⊎ ReadsWaiting c waiting v → AllByRecursion (Held c done) (r ∷ rs) ⊎ ReadsWaiting c waiting v
    at found (inr w) = inr w
    at (inr none) (inl all) = inl (λ node. absurd (none node), all)
    at (inl node) (inl all) = by (p.every r node)
      where
        by : Among r done ⊎ Among r waiting → AllByRecursion (Held c done) (r ∷ rs) ⊎ ReadsWaiting c waiting v
        by (inl a) = inl (λ is. a, all)
        by (inr a) = inr (r, within r (inl refl), a)

-- one of these nodes is ready, or each reads one that waits
search-ready : (c : Circuit) (done waiting : List Read) → IsParted c done waiting → (vs : List Read) → ((v : Read) × Among v vs × IsReady c done v) ⊎ ((v : Read) → Among v vs → ReadsWaiting c waiting v)
search-ready c done waiting p [] = inr (λ v a. absurd a)
search-ready c done waiting p (v ∷ vs) = at (ready-or-not c done waiting p v (node_reads c v) (λ w a. a)) (search-ready c done waiting p vs)
  where
    at : IsReady c done v ⊎ ReadsWaiting c waiting v → ((u : Read) × Among u vs × IsReady c done u) ⊎ ((u : Read) → Among u vs → ReadsWaiting c waiting u) →
        ((u : Read) × Among u (v ∷ vs) × IsReady c done u) ⊎ ((u : Read) → Among u (v ∷ vs) → ReadsWaiting c waiting u)
    at (inl ready) later = inl (v, inl refl, ready)
    at (inr waits) (inl found) = inl (found.0, inr found.1, found.2)
    at (inr waits) (inr none) = inr all
      where
        all : (u : Read) → Among u (v ∷ vs) → ReadsWaiting c waiting u
        all u (inl e) = subst (ReadsWaiting c waiting) (sym e) waits
        all u (inr a) = none u a

-- a ready node is done next
parted-next : (c : Circuit) (done waiting : List Read) (v : Read) → IsParted c done waiting → Among v waiting → IsReady c done v → IsParted c (v ∷ done) (without v waiting)
parted-next c done waiting v p a ready = record {
  ordered = ordered-next c done v (p.nodes v a) (p.apart v a) ready p.ordered;
  nodes = λ w m. p.nodes w (among-filter (λ u. not (same_read v u)) w waiting m).1;
  apart = apart;
  every = λ w node. every w (p.every w node);
}
  where
    apart : (w : Read) → Among w (without v waiting) → Among w (v ∷ done) → ⊥
    apart w m (inl e) = wrong (sym (same-read v) ∙ ap (same_read v) (sym e) ∙ not-true (same_read v w) (among-filter (λ u. not (same_read v u)) w waiting m).0)
      where
        wrong : true ≡ false → ⊥
        wrong x = cc
    apart w m (inr b) = p.apart w (among-filter (λ u. not (same_read v u)) w waiting m).1 b

    every : (w : Read) → Among w done ⊎ Among w waiting → Among w (v ∷ done) ⊎ Among w (without v waiting)
    every w (inl b) = inl (inr b)
    every w (inr m) = at (same_read v w) refl
      where
        at : (b : Bool) → same_read v w ≡ b → Among w (v ∷ done) ⊎ Among w (without v waiting)
        at true e = inl (inl (sym (read-same v w e)))
        at false e = inr (filter-among (λ u. not (same_read v u)) w waiting (ap not e) m)

-- where some wait, one of them is ready, since otherwise they would hold a loop
some-ready : (c : Circuit) (done waiting : List Read) → ((v : Read) (n : ℕ) → Walk c n v v → ⊥) → IsParted c done waiting → (v : Read) → Among v waiting → (w : Read) × Among w waiting × IsReady c done w
some-ready c done waiting free p v a = at (search-ready c done waiting p waiting)
  where
    at : ((w : Read) × Among w waiting × IsReady c done w) ⊎ ((w : Read) → Among w waiting → ReadsWaiting c waiting w) → (w : Read) × Among w waiting × IsReady c done w
    at (inl found) = found
    at (inr none) = let loop = nodes-loop c (λ w. Among w waiting) p.nodes none v a in absurd (free loop.0 loop.1 loop.2)

parted-ranks : (c : Circuit) → ((v : Read) (n : ℕ) → Walk c n v v → ⊥) → (n : ℕ) (done waiting : List Read) → length waiting ≤ n → IsParted c done waiting → HasRanks c
parted-ranks c free n done [] few p = ordered-ranks c done p.ordered (λ v node. at v (p.every v node))
  where
    at : (v : Read) → Among v done ⊎ Among v [] → Among v done
    at v (inl a) = a
    at v (inr a) = absurd a
parted-ranks c free zero done (x ∷ xs) few p = absurd (omega arith)
parted-ranks c free (suc n) done (x ∷ xs) few p =
    let next = some-ready c done (x ∷ xs) free p x (inl refl) in
    let less : length (without next.0 (x ∷ xs)) < length (x ∷ xs) = without-less next.0 (x ∷ xs) next.1 in
    parted-ranks c free n (next.0 ∷ done) (without next.0 (x ∷ xs)) (omega arith) (parted-next c done (x ∷ xs) next.0 p next.1 next.2)

-- a board without loops has ranks
pub loopless-ranks : (c : Circuit) → ((v : Read) (n : ℕ) → Walk c n v v → ⊥) → HasRanks c
loopless-ranks c free = parted-ranks c free (length (all_variables c)) [] (all_variables c) (omega arith) start
  where
    start : IsParted c [] (all_variables c)
    start = record {
      ordered = record { closed = λ u a. absurd a; falls = λ u a. absurd a };
      nodes = λ v a. among-node c v a;
      apart = λ v a b. b;
      every = λ v node. inr (node-among c v node);
    }

pub accepted-ranks : (c : Circuit) → IsAccepted c → HasRanks c
accepted-ranks c accepted = loopless-ranks c accepted.no_loop

-- an accepted board has a run from any stored levels, and no other one from power-up
pub accepted-runs : (c : Circuit) → IsAccepted c → (inputs : List (List Level)) (stored : List Level) (last : Option (List Level)) → (showns : List (List Level)) × IsRunFrom c stored last inputs showns
accepted-runs c accepted inputs stored last = let r = accepted-ranks c accepted in run-exists c r.rank r.top r.ranked inputs stored last

pub accepted-runs-once : (c : Circuit) → IsAccepted c → (inputs shown others : List (List Level)) → IsRun c inputs shown → IsRun c inputs others → shown ≡ others
accepted-runs-once c accepted inputs shown others a b = let r = accepted-ranks c accepted in run-unique c r.rank r.top r.ranked inputs shown others (power_up c) None a b
