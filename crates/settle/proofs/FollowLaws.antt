-- Marked nodes made anew in an order of evaluation, and what reads a changed one marked.
use Rattle.std.proofs.Common.{ℕ, ◌≡◌, ◌⊎◌, ◌<◌, Bool, true, false, List, [], ◌∷◌, length, refl, sym, ap, ◌∙◌, subst, inl, inr}
use Rattle.std.specs.List.{AllByRecursion}
use Rattle.mig_base.specs.declared.levels.Level.{Level}
use Rattle.mig_base.specs.declared.circuit.Read.{Read}
use Rattle.mig_base.specs.declared.circuit.Read.TheVariants.{OfNet, OfRegister}
use Rattle.mig_base.specs.declared.circuit.Circuit.{Circuit}
use Rattle.mig_base.specs.declared.circuit.Levels.{Levels}
use Rattle.mig_base.specs.Values.{node_level}
use Rattle.mig_base.specs.Structure.{same_read}
use Rattle.mig_base.specs.Among.{Among}
use Rattle.mig_base.specs.Reads.{IsNode, node_reads}
use Rattle.mig_base.proofs.ReadLaws.{read-same, same-read}
use Rattle.level_laws.proofs.Unique.{Agree}
use Rattle.ranks.proofs.NoLoops.{all_mono}
use Rattle.ranks.specs.Order.{GoesOn, IsOrder}
use Rattle.reader_lists.specs.declared.lists.Reader.TheVariants.{ByNet, ByRegister, ByUnit}
use Rattle.reader_lists.specs.declared.marks.Marks.{Marks}
use Rattle.reader_lists.specs.Lists.{reader_of}
use Rattle.reader_lists.specs.Marked.{marked_in}
use Rattle.settle.specs.Rules.{new_level, placed, HasLengths}
use Rattle.settle.specs.Following.{AreMarked, DriveFits, Fits}
use Rattle.settle.proofs.OrderLaws.{Done, placed-other}

-- two nodes are the same or not
same-or-not : (v w : Read) → (v ≡ w) ⊎ (v ≡ w → ⊥)
same-or-not v w = at (same_read v w) refl
  where
    at : (b : Bool) → same_read v w ≡ b → (v ≡ w) ⊎ (v ≡ w → ⊥)
    at true e = inl (read-same v w e)
    at false e = inr (λ same. wrong (sym (same-read v) ∙ ap (same_read v) same ∙ e))
      where
        wrong : true ≡ false → ⊥
        wrong x = cc

-- nodes that are the same as readers are the same
pub reader-same : (v w : Read) → reader_of v ≡ reader_of w → v ≡ w
reader-same (OfNet n) (OfNet m) e = ap OfNet (at n m e)
  where
    at : (n m : ℕ) → ByNet n ≡ ByNet m → n ≡ m
    at n m e = cc
reader-same (OfNet n) (OfRegister k) e = cc
reader-same (OfRegister k) (OfNet n) e = cc
reader-same (OfRegister k) (OfRegister j) e = ap OfRegister (at k j e)
  where
    at : (k j : ℕ) → ByRegister k ≡ ByRegister j → k ≡ j
    at k j e = cc

pub unit-apart : (u : ℕ) (v : Read) → ByUnit u ≡ reader_of v → ⊥
unit-apart u (OfNet n) e = cc
unit-apart u (OfRegister k) e = cc

-- what is still to come is not among what is done
pub later-new : (c : Circuit) (before rest : List Read) (w : Read) → GoesOn c before rest → Among w rest → Among w before → ⊥
later-new c before [] w on a b = a
later-new c before (x ∷ xs) w on (inl e) b = on.0 (subst (λ (y : Read). Among y before) e b)
later-new c before (x ∷ xs) w on (inr a) b = later-new c (x ∷ before) xs w on.2 a (inr b)

-- where a node is made anew, these agree or it is one of them
pub agree-or-read : (l : Levels) (v : Read) (x : Level) (reads : List Read) → AllByRecursion (Agree l (placed l v x)) reads ⊎ Among v reads
agree-or-read l v x [] = inl tt
agree-or-read l v x (w ∷ ws) = at (same-or-not w v) (agree-or-read l v x ws)
  where
    at : (w ≡ v) ⊎ (w ≡ v → ⊥) → AllByRecursion (Agree l (placed l v x)) ws ⊎ Among v ws → AllByRecursion (Agree l (placed l v x)) (w ∷ ws) ⊎ Among v (w ∷ ws)
    at (inl e) rest = inr (inl (sym e))
    at (inr ne) (inl h) = inl (sym (placed-other l v x w ne), h)
    at (inr ne) (inr a) = inr (inr a)

-- where it stays as it was, all agree
pub agree-same : (l : Levels) (v : Read) (x : Level) → node_level l v ≡ node_level (placed l v x) v → (w : Read) → Agree l (placed l v x) w
agree-same l v x same w = at (same-or-not w v)
  where
    at : (w ≡ v) ⊎ (w ≡ v → ⊥) → Agree l (placed l v x) w
    at (inl e) = subst (Agree l (placed l v x)) (sym e) same
    at (inr ne) = sym (placed-other l v x w ne)

pub placed-drives : (l : Levels) (v : Read) (x : Level) → (placed l v x).drives ≡ l.drives
placed-drives l (OfNet n) x = refl
placed-drives l (OfRegister k) x = refl

-- so far nodes fit or are marked and still to come
pub record Following (c : Circuit) (stored inputs : List Level) (rest : List Read) (marks : Marks) (l : Levels) : Type 0 where
  pub done : List Read
  pub closed : (v : Read) → Among v done → AllByRecursion (Done c done) (node_reads c v)
  pub behind : GoesOn c done rest
  pub all : (v : Read) → IsNode c v → Among v done ⊎ Among v rest
  pub nodes : AllByRecursion (IsNode c) rest
  pub lengths : HasLengths c l
  pub fits : (v : Read) → IsNode c v → (node_level l v ≡ new_level c stored inputs l v) ⊎ ((marked_in marks (reader_of v) ≡ true) × Among v rest)
  pub units : (u : ℕ) → u < length c.units → DriveFits c marks l u

pub following-start : (c : Circuit) (stored inputs : List Level) (order : List Read) (marks : Marks) (l : Levels) → IsOrder c order → HasLengths c l → AreMarked c stored inputs marks l →
    Following c stored inputs order marks l
following-start c stored inputs order marks l is long marked = record {
  done = [];
  closed = λ v a. absurd a;
  behind = is.behind;
  all = λ v node. inr (is.every v node);
  nodes = is.nodes;
  lengths = long;
  fits = λ v node. at v node (marked.nodes v node);
  units = marked.units;
}
  where
    at : (v : Read) → IsNode c v → Fits c stored inputs marks l v → (node_level l v ≡ new_level c stored inputs l v) ⊎ ((marked_in marks (reader_of v) ≡ true) × Among v order)
    at v node (inl e) = inl e
    at v node (inr m) = inr (m, is.every v node)

wider : (c : Circuit) (v : Read) (done reads : List Read) → AllByRecursion (Done c done) reads → AllByRecursion (Done c (v ∷ done)) reads
wider c v done reads h = all_mono (Done c done) (Done c (v ∷ done)) (λ w a node. inr (a node)) reads h

-- the nodes that are done, with one more
pub closed-next : (c : Circuit) (v : Read) (done : List Read) → AllByRecursion (Done c done) (node_reads c v) → ((u : Read) → Among u done → AllByRecursion (Done c done) (node_reads c u)) →
    (u : Read) → Among u (v ∷ done) → AllByRecursion (Done c (v ∷ done)) (node_reads c u)
closed-next c v done here before u (inl e) = subst (λ (w : Read). AllByRecursion (Done c (v ∷ done)) (node_reads c w)) (sym e) (wider c v done (node_reads c v) here)
closed-next c v done here before u (inr a) = wider c v done (node_reads c u) (before u a)

pub moved-next : (u v : Read) (done vs : List Read) → Among u done ⊎ Among u (v ∷ vs) → Among u (v ∷ done) ⊎ Among u vs
moved-next u v done vs (inl a) = inl (inr a)
moved-next u v done vs (inr (inl e)) = inl (inl e)
moved-next u v done vs (inr (inr a)) = inr a
