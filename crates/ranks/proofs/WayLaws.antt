-- Shortest walks home, level by level.
use Rattle.std.proofs.Common.{ℕ, zero, suc, ◌≡◌, ◌⊎◌, ◌<◌, ◌≤◌, ◌+◌, List, [], ◌∷◌, length, Option, Some, None, refl, sym, ap, ◌∙◌, subst, arith, inl, inr}
use Rattle.std.specs.Prelude.{slice_get}
use Rattle.std.specs.List.{flat_map}
use Rattle.std.proofs.lemmas.Bool.{cases_lt, cases_eq}
use Rattle.std.proofs.lemmas.List.{length-replicate}
use Rattle.std.proofs.lemmas.Option.{slice_get_within}
use Rattle.mig_base.specs.declared.circuit.Read.{Read}
use Rattle.mig_base.specs.declared.circuit.Read.TheVariants.{OfNet, OfRegister}
use Rattle.mig_base.specs.declared.circuit.Register.{Register}
use Rattle.mig_base.specs.declared.circuit.Wire.{Wire}
use Rattle.mig_base.specs.declared.circuit.Circuit.{Circuit}
use Rattle.mig_base.specs.Accepted.{Walk}
use Rattle.mig_base.specs.Among.{Among}
use Rattle.mig_base.specs.Reads.{node_reads, reads_of_wire, reads_of_register}
use Rattle.ranks.specs.declared.marks.Marks.{Marks}
use Rattle.ranks.specs.declared.graph.Graph.{Graph}
use Rattle.ranks.specs.FirstLoop.{IsShortest}
use Rattle.ranks.specs.Graphs.{IsGraph}
use Rattle.ranks.specs.Marked.{mark_in, IsWaiting, unmarked_of, waiting}
use Rattle.ranks.specs.Neighbours.{neighbours_at}
use Rattle.mig_base.specs.Reads.{IsNode}
use Rattle.ranks.specs.Ways.{IsReached, Path, IsWays, IsAt, IsFrontier, IsWayHome}
use Rattle.mig_base.proofs.Amongs.{among-left, among-right, among-split, node-among}
use Rattle.ranks.proofs.Marking.{node-marked, none-waiting, unmarked-none, blanks-most}

-- a node that reads anything is one of the board
pub reader-node : (c : Circuit) (v w : Read) → Among w (node_reads c v) → IsNode c v
reader-node c (OfNet n) w a = at (slice_get c.nets n) refl a
  where
    at : (o : Option Wire) → slice_get c.nets n ≡ o → Among w (reads_of_wire c o) → n < length c.nets
    at None e b = absurd b
    at (Some wire) e b = slice_get_within c.nets n wire e
reader-node c (OfRegister k) w a = at (slice_get c.registers k) refl a
  where
    at : (o : Option Register) → slice_get c.registers k ≡ o → Among w (reads_of_register o) → k < length c.registers
    at None e b = absurd b
    at (Some r) e b = slice_get_within c.registers k r e

pub walk-node : (c : Circuit) (n : ℕ) (v w : Read) → Walk c n v w → IsNode c v
walk-node c zero v w walk = reader-node c v w walk
walk-node c (suc n) v w walk = reader-node c v walk.0 walk.1

-- one step before a walk
pub path-walk : (c : Circuit) (n : ℕ) (v u home : Read) → Among u (node_reads c v) → Path c n u home → Walk c n v home
path-walk c zero v u home a e = subst (λ (w : Read). Among w (node_reads c v)) e a
path-walk c (suc n) v u home a walk = (u, a, walk)

-- the first step of a walk
pub walk-path : (c : Circuit) (n : ℕ) (v home : Read) → Walk c n v home → (u : Read) × Among u (node_reads c v) × Path c n u home
walk-path c zero v home a = (home, a, refl)
walk-path c (suc n) v home walk = walk

pub path-node : (c : Circuit) (n : ℕ) (u home : Read) → IsNode c home → Path c n u home → IsNode c u
path-node c zero u home node e = subst (IsNode c) (sym e) node
path-node c (suc n) u home node walk = walk-node c n u home walk

flat-among : (f : Read → List Read) (v : Read) (us : List Read) → Among v (flat_map f us) → (u : Read) × Among u us × Among v (f u)
flat-among f v [] a = absurd a
flat-among f v (u ∷ us) a = at (among-split v (f u) (flat_map f us) a) (flat-among f v us)
  where
    at : Among v (f u) ⊎ Among v (flat_map f us) → (Among v (flat_map f us) → (w : Read) × Among w us × Among v (f w)) → (w : Read) × Among w (u ∷ us) × Among v (f w)
    at (inl b) rest = (u, inl refl, b)
    at (inr b) rest = let h : (w : Read) × Among w us × Among v (f w) = rest b in (h.0, inr h.1, h.2)

among-flat : (f : Read → List Read) (v u : Read) (us : List Read) → Among u us → Among v (f u) → Among v (flat_map f us)
among-flat f v u [] a b = absurd a
among-flat f v u (w ∷ us) (inl e) b = among-left v (f w) (flat_map f us) (subst (λ (x : Read). Among v (f x)) e b)
among-flat f v u (w ∷ us) (inr a) b = among-right v (f w) (flat_map f us) (among-flat f v u us a b)

-- a node with a walk of so many steps, where none waits that has a shorter one
pub at-level : (c : Circuit) (home : Read) (steps n : ℕ) (m : Marks) (u : Read) → IsWays c home steps m → n ≡ steps → Path c n u home →
    ((j : ℕ) → suc j < steps → Walk c j u home → ⊥) → IsAt m home n u
at-level c home steps zero m u ways e path none = path
at-level c home steps (suc k) m u ways e walk none = marked (node-marked c m u ways.nets ways.registers (walk-node c k u home walk))
  where
    marked : (o : Option ℕ) × (mark_in m u ≡ Some o) → mark_in m u ≡ Some (Some k)
    marked (None, is) = absurd (ways.every u k (omega arith) walk is)
    marked (Some j, is) = at (cases_eq j k) (cases_lt j k)
      where
        at : (j ≡ k) ⊎ (j ≡ k → ⊥) → (j < k) ⊎ (k ≤ j) → mark_in m u ≡ Some (Some k)
        at (inl same) order = is ∙ ap (λ (x : ℕ). Some (Some x)) same
        at (inr ne) (inl less) = absurd (none j (omega arith) (ways.sound u j is).0.0)
        at (inr ne) (inr more) = absurd ((ways.sound u j is).0.1 k (omega arith) walk)

-- one level more
pub ways-next : (c : Circuit) (g : Graph) (home : Read) (steps : ℕ) (m new : Marks) (nodes next : List Read) → IsGraph c g → IsNode c home → IsWays c home steps m → IsFrontier c home steps m nodes →
    IsReached (flat_map (neighbours_at g.readers) nodes) steps m [] new next → IsWays c home (steps + 1) new × IsFrontier c home (steps + 1) new next
ways-next c g home steps m new nodes next graph node ways frontier reached = (
  record { nets = reached.nets ∙ ways.nets; registers = reached.registers ∙ ways.registers; sound = sound; every = every },
  subst (λ (k : ℕ). IsFrontier c home k new next) one (record { sound = front; every = all }),
)
  where
    one : suc steps ≡ steps + 1
    one = omega arith

    walks : (v : Read) → Among v (flat_map (neighbours_at g.readers) nodes) → Walk c steps v home
    walks v a =
        let h : (u : Read) × Among u nodes × Among v (neighbours_at g.readers u) = flat-among (neighbours_at g.readers) v nodes a in
        path-walk c steps v h.0 home (graph.readers.sound h.0 v h.2) (frontier.sound h.0 h.1)

    sound : (v : Read) (n : ℕ) → mark_in new v ≡ Some (Some n) → IsShortest c n v home × (n < steps + 1)
    sound v n e = at (reached.found v n e)
      where
        at : (mark_in m v ≡ Some (Some n)) ⊎ ((n ≡ steps) × Among v (flat_map (neighbours_at g.readers) nodes) × IsWaiting m v × Among v next) → IsShortest c n v home × (n < steps + 1)
        at (inl old) = ((ways.sound v n old).0, omega (arith, (ways.sound v n old).1))
        at (inr h) = (
          (subst (λ (k : ℕ). Walk c k v home) (sym h.0) (walks v h.1), λ k less walk. ways.every v k (omega (arith, h.0)) walk h.2),
          omega (arith, h.0),
        )

    last : (v : Read) → Walk c steps v home → IsWaiting new v → ⊥
    last v walk later = at (walk-path c steps v home walk)
      where
        shorter : (u : Read) → Among u (node_reads c v) → (j : ℕ) → suc j < steps → Walk c j u home → ⊥
        shorter u a j less short = ways.every v (suc j) less (u, a, short) (reached.waited v later)

        at : (u : Read) × Among u (node_reads c v) × Path c steps u home → ⊥
        at h = reached.all v (among-flat (neighbours_at g.readers) v h.0 nodes (frontier.every h.0 (at-level c home steps steps m h.0 ways refl h.2 (shorter h.0 h.1)))
            (graph.readers.every h.0 v (path-node c steps h.0 home node h.2) (node-among c v (walk-node c steps v home walk)) h.1)) later

    every : (v : Read) (n : ℕ) → n < steps + 1 → Walk c n v home → IsWaiting new v → ⊥
    every v n less walk later = at (cases_eq n steps)
      where
        at : (n ≡ steps) ⊎ (n ≡ steps → ⊥) → ⊥
        at (inl e) = last v (subst (λ (k : ℕ). Walk c k v home) e walk) later
        at (inr ne) = ways.every v n (omega arith) walk (reached.waited v later)

    front : (v : Read) → Among v next → Path c (suc steps) v home
    front v a = at (reached.joined v a)
      where
        at : Among v [] ⊎ Among v (flat_map (neighbours_at g.readers) nodes) → Walk c steps v home
        at (inl b) = absurd b
        at (inr b) = walks v b

    all : (v : Read) → IsAt new home (suc steps) v → Among v next
    all v e = at (reached.found v steps e)
      where
        at : (mark_in m v ≡ Some (Some steps)) ⊎ ((steps ≡ steps) × Among v (flat_map (neighbours_at g.readers) nodes) × IsWaiting m v × Among v next) → Among v next
        at (inl old) = absurd (omega (arith, (ways.sound v steps old).1))
        at (inr h) = h.3

-- no walks so far, and home itself
pub ways-start : (c : Circuit) (home : Read) → IsWays c home 0 (unmarked_of c)
ways-start c home = record {
  nets = length-replicate (length c.nets) None;
  registers = length-replicate (length c.registers) None;
  sound = λ v n e. absurd (unmarked-none c v n e);
  every = λ v n less. absurd (omega arith);
}

pub frontier-start : (c : Circuit) (home : Read) (m : Marks) → IsFrontier c home 0 m (home ∷ [])
frontier-start c home m = record { sound = sound; every = λ v e. inl e }
  where
    sound : (v : Read) → Among v (home ∷ []) → v ≡ home
    sound v (inl e) = e
    sound v (inr a) = absurd a

-- with no node at a level there is none behind it
ways-end : (c : Circuit) (home : Read) (steps : ℕ) (m : Marks) → IsWays c home steps m → IsFrontier c home steps m [] →
    (bound n : ℕ) (v : Read) → n < bound → Walk c n v home → IsWaiting m v → ⊥
ways-end c home steps m ways none zero n v less walk waits = omega arith
ways-end c home zero m ways none (suc b) n v less walk waits = absurd (none.every home refl)
ways-end c home (suc k) m ways none (suc b) zero v less walk waits = ways.every v 0 (omega arith) walk waits
ways-end c home (suc k) m ways none (suc b) (suc n) v less walk waits =
    marked (node-marked c m walk.0 ways.nets ways.registers (walk-node c n walk.0 home walk.2)) (ways-end c home (suc k) m ways none b n walk.0 (omega arith) walk.2)
  where
    marked : (o : Option ℕ) × (mark_in m walk.0 ≡ Some o) → (IsWaiting m walk.0 → ⊥) → ⊥
    marked (None, is) no_wait = no_wait is
    marked (Some j, is) no_wait = at (cases_eq j k)
      where
        at : (j ≡ k) ⊎ (j ≡ k → ⊥) → ⊥
        at (inl same) = none.every walk.0 (is ∙ ap (λ (x : ℕ). Some (Some x)) same)
        at (inr ne) = ways.every v (suc j) (omega (arith, (ways.sound walk.0 j is).1)) (walk.0, walk.1, (ways.sound walk.0 j is).0.0) waits

-- all walks are there where no node is at the last level
pub way-home : (c : Circuit) (home : Read) (steps : ℕ) (m : Marks) → IsWays c home steps m → IsFrontier c home steps m [] → IsWayHome c home m
way-home c home steps m ways none = record {
  nets = ways.nets;
  registers = ways.registers;
  sound = λ v n e. (ways.sound v n e).0;
  every = λ v n walk waits. ways-end c home steps m ways none (suc n) n v (omega arith) walk waits;
}

-- and where no node waits
pub all-home : (c : Circuit) (home : Read) (steps : ℕ) (m : Marks) → IsWays c home steps m → waiting m ≡ 0 → IsWayHome c home m
all-home c home steps m ways none = record {
  nets = ways.nets;
  registers = ways.registers;
  sound = λ v n e. (ways.sound v n e).0;
  every = λ v n walk waits. none-waiting m v none waits;
}

pub waiting-start : (c : Circuit) → waiting (unmarked_of c) ≤ length c.nets + length c.registers
waiting-start c =
    omega (arith, blanks-most (unmarked_of c).nets, blanks-most (unmarked_of c).registers, length-replicate {A = Option ℕ} (length c.nets) None, length-replicate {A = Option ℕ} (length c.registers) None)

pub no-nodes : (nodes : List Read) → length nodes ≡ 0 → nodes ≡ []
no-nodes [] e = refl
no-nodes (v ∷ vs) e = absurd (omega arith)
