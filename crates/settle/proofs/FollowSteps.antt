-- One more node visited, and levels that are settled once all are.
use Rattle.std.proofs.Common.{ℕ, ◌≡◌, ◌⊎◌, true, false, List, [], ◌∷◌, length, map, sym, ap, ◌∙◌, subst, inl, inr}
use Rattle.std.specs.Prelude.{slice_get}
use Rattle.std.specs.List.{AllByRecursion}
use Rattle.mig_base.specs.declared.levels.Level.{Level}
use Rattle.mig_base.specs.declared.circuit.Read.{Read}
use Rattle.mig_base.specs.declared.circuit.Circuit.{Circuit}
use Rattle.mig_base.specs.declared.circuit.Levels.{Levels}
use Rattle.mig_base.specs.Levels.{level_at}
use Rattle.mig_base.specs.Values.{node_level}
use Rattle.mig_base.specs.Among.{Among}
use Rattle.mig_base.specs.Reads.{IsNode, driver_reads, node_reads}
use Rattle.level_laws.proofs.Unique.{Agree, drive_at-agree, every}
use Rattle.ranks.specs.Order.{GoesOn}
use Rattle.reader_lists.specs.declared.lists.Reader.{Reader}
use Rattle.reader_lists.specs.declared.lists.Reader.TheVariants.{ByUnit}
use Rattle.reader_lists.specs.declared.marks.Marks.{Marks}
use Rattle.reader_lists.specs.declared.readers.Readers.{Readers}
use Rattle.reader_lists.specs.Lists.{reader_of, readers_at}
use Rattle.reader_lists.specs.Marked.{marked_in}
use Rattle.reader_lists.specs.Tables.{AreReaders}
use Rattle.level_laws.specs.Settled.{IsSettled, drive_level}
use Rattle.settle.specs.Rules.{new_level, placed, with_drives}
use Rattle.settle.specs.Following.{DriveFits, Visited}
use Rattle.settle.proofs.OrderLaws.{nodes-settled, placed-lengths, placed-other, placed-same, reads-agree, rule-agree}
use Rattle.settle.proofs.FollowLaws.{Following, agree-or-read, agree-same, closed-next, later-new, moved-next, placed-drives, reader-same, unit-apart}

-- the marks behind a node that was visited
pub record Marking (readers : Readers) (v : Read) (marks : Marks) (l : Levels) (after : Marks) (m : Levels) : Type 0 where
  pub keeps : (r : Reader) → (r ≡ reader_of v → ⊥) → marked_in marks r ≡ true → marked_in after r ≡ true
  pub marked : (r : Reader) → Among r (readers_at readers v) → (node_level l v ≡ node_level m v) ⊎ (marked_in after r ≡ true)

still-marked : (c : Circuit) (done vs : List Read) (v u : Read) (readers : Readers) (marks after : Marks) (l m : Levels) → GoesOn c done (v ∷ vs) → Marking readers v marks l after m → Among u vs →
    marked_in marks (reader_of u) ≡ true → marked_in after (reader_of u) ≡ true
still-marked c done vs v u readers marks after l m on marking a h =
    marking.keeps (reader_of u) (λ e. later-new c (v ∷ done) vs u on.2 a (inl (reader-same u v e))) h

-- a node that isn't marked is left as it is
skipped : (c : Circuit) (stored inputs : List Level) (v : Read) (vs : List Read) (readers : Readers) (marks after : Marks) (l : Levels) → Following c stored inputs (v ∷ vs) marks l →
    Marking readers v marks l after l → marked_in marks (reader_of v) ≡ false → Following c stored inputs vs after l
skipped c stored inputs v vs readers marks after l p marking none = record {
  done = v ∷ p.done;
  closed = closed-next c v p.done p.behind.1 p.closed;
  behind = p.behind.2;
  all = λ u node. moved-next u v p.done vs (p.all u node);
  nodes = p.nodes.1;
  lengths = p.lengths;
  fits = λ u node. fits u (p.fits u node);
  units = λ u lt. units u (p.units u lt);
}
  where
    wrong : {T : Type 0} (u : Read) → u ≡ v → marked_in marks (reader_of u) ≡ true → T
    wrong u e h = absurd (at (sym h ∙ ap (λ (w : Read). marked_in marks (reader_of w)) e ∙ none))
      where
        at : true ≡ false → ⊥
        at x = cc

    fits : (u : Read) → (node_level l u ≡ new_level c stored inputs l u) ⊎ ((marked_in marks (reader_of u) ≡ true) × Among u (v ∷ vs)) →
        (node_level l u ≡ new_level c stored inputs l u) ⊎ ((marked_in after (reader_of u) ≡ true) × Among u vs)
    fits u (inl e) = inl e
    fits u (inr (h, inl e)) = wrong u e h
    fits u (inr (h, inr a)) = inr (still-marked c p.done vs v u readers marks after l l p.behind marking a h, a)

    units : (u : ℕ) → DriveFits c marks l u → DriveFits c after l u
    units u (inl e) = inl e
    units u (inr h) = inr (marking.keeps (ByUnit u) (unit-apart u v) h)

-- what reads the node stays right, or is marked
reads-right : (l : Levels) (v : Read) (x : Level) (readers : Readers) (marks after : Marks) (r : Reader) (reads : List Read) → Marking readers v marks l after (placed l v x) →
    (Among v reads → Among r (readers_at readers v)) → AllByRecursion (Agree l (placed l v x)) reads ⊎ (marked_in after r ≡ true)
reads-right l v x readers marks after r reads marking listed = at (agree-or-read l v x reads)
  where
    mark : (node_level l v ≡ node_level (placed l v x) v) ⊎ (marked_in after r ≡ true) → AllByRecursion (Agree l (placed l v x)) reads ⊎ (marked_in after r ≡ true)
    mark (inl same) = inl (every _ _ (agree-same l v x same) reads)
    mark (inr h) = inr h

    at : AllByRecursion (Agree l (placed l v x)) reads ⊎ Among v reads → AllByRecursion (Agree l (placed l v x)) reads ⊎ (marked_in after r ≡ true)
    at (inl h) = inl h
    at (inr a) = mark (marking.marked r (listed a))

-- a node that is made anew
renewed : (c : Circuit) (stored inputs : List Level) (v : Read) (vs : List Read) (readers : Readers) (marks after : Marks) (l : Levels) → AreReaders c readers → Following c stored inputs (v ∷ vs) marks l →
    Marking readers v marks l after (placed l v (new_level c stored inputs l v)) → Following c stored inputs vs after (placed l v (new_level c stored inputs l v))
renewed c stored inputs v vs readers marks after l table p marking = record {
  done = v ∷ p.done;
  closed = closed-next c v p.done p.behind.1 p.closed;
  behind = p.behind.2;
  all = λ u node. moved-next u v p.done vs (p.all u node);
  nodes = p.nodes.1;
  lengths = placed-lengths c l v (new_level c stored inputs l v) p.lengths;
  fits = λ u node. fits u node (p.all u node);
  units = λ u lt. units u (p.units u lt);
}
  where
    same : (u : Read) → AllByRecursion (Agree l (placed l v (new_level c stored inputs l v))) (node_reads c u) →
        new_level c stored inputs l u ≡ new_level c stored inputs (placed l v (new_level c stored inputs l v)) u
    same u h = rule-agree c stored inputs l (placed l v (new_level c stored inputs l v)) u h

    before : (u : Read) → AllByRecursion (λ w. IsNode c w → Among w p.done) (node_reads c u) → AllByRecursion (Agree l (placed l v (new_level c stored inputs l v))) (node_reads c u)
    before u h = reads-agree c l v (new_level c stored inputs l v) p.done p.nodes.0 p.behind.0 (node_reads c u) h

    here : node_level (placed l v (new_level c stored inputs l v)) v ≡ new_level c stored inputs (placed l v (new_level c stored inputs l v)) v
    here = placed-same c l v (new_level c stored inputs l v) p.lengths p.nodes.0 ∙ same v (before v p.behind.1)

    passed : (u : Read) → Among u p.done → (node_level l u ≡ new_level c stored inputs l u) ⊎ ((marked_in marks (reader_of u) ≡ true) × Among u (v ∷ vs)) →
        node_level (placed l v (new_level c stored inputs l v)) u ≡ new_level c stored inputs (placed l v (new_level c stored inputs l v)) u
    passed u a (inl e) =
        placed-other l v (new_level c stored inputs l v) u (λ i. later-new c p.done (v ∷ vs) u p.behind (inl i) a) ∙ e ∙ same u (before u (p.closed u a))
    passed u a (inr h) = absurd (later-new c p.done (v ∷ vs) u p.behind h.1 a)

    coming : (u : Read) → IsNode c u → Among u vs → (node_level l u ≡ new_level c stored inputs l u) ⊎ ((marked_in marks (reader_of u) ≡ true) × Among u (v ∷ vs)) →
        (node_level (placed l v (new_level c stored inputs l v)) u ≡ new_level c stored inputs (placed l v (new_level c stored inputs l v)) u) ⊎ ((marked_in after (reader_of u) ≡ true) × Among u vs)
    coming u node a (inr h) = inr (still-marked c p.done vs v u readers marks after l (placed l v (new_level c stored inputs l v)) p.behind marking a h.0, a)
    coming u node a (inl e) =
        at (reads-right l v (new_level c stored inputs l v) readers marks after (reader_of u) (node_reads c u) marking (λ b. table.nodes u v node p.nodes.0 b))
      where
        at : AllByRecursion (Agree l (placed l v (new_level c stored inputs l v))) (node_reads c u) ⊎ (marked_in after (reader_of u) ≡ true) →
            (node_level (placed l v (new_level c stored inputs l v)) u ≡ new_level c stored inputs (placed l v (new_level c stored inputs l v)) u) ⊎ ((marked_in after (reader_of u) ≡ true) × Among u vs)
        at (inl h) = inl (placed-other l v (new_level c stored inputs l v) u (λ i. later-new c (v ∷ p.done) vs u p.behind.2 a (inl i)) ∙ e ∙ same u h)
        at (inr h) = inr (h, a)

    fits : (u : Read) → IsNode c u → Among u p.done ⊎ Among u (v ∷ vs) →
        (node_level (placed l v (new_level c stored inputs l v)) u ≡ new_level c stored inputs (placed l v (new_level c stored inputs l v)) u) ⊎ ((marked_in after (reader_of u) ≡ true) × Among u vs)
    fits u node (inl a) = inl (passed u a (p.fits u node))
    fits u node (inr (inl e)) = inl (subst (λ (w : Read). node_level (placed l v (new_level c stored inputs l v)) w ≡ new_level c stored inputs (placed l v (new_level c stored inputs l v)) w) (sym e) here)
    fits u node (inr (inr a)) = coming u node a (p.fits u node)

    units : (u : ℕ) → DriveFits c marks l u → DriveFits c after (placed l v (new_level c stored inputs l v)) u
    units u (inr h) = inr (marking.keeps (ByUnit u) (unit-apart u v) h)
    units u (inl e) =
        at (reads-right l v (new_level c stored inputs l v) readers marks after (ByUnit u) (driver_reads (slice_get c.units u)) marking (λ b. table.units u v p.nodes.0 b))
      where
        at : AllByRecursion (Agree l (placed l v (new_level c stored inputs l v))) (driver_reads (slice_get c.units u)) ⊎ (marked_in after (ByUnit u) ≡ true) →
            DriveFits c after (placed l v (new_level c stored inputs l v)) u
        at (inl h) = inl (ap (λ (ds : List Level). level_at ds u) (placed-drives l v (new_level c stored inputs l v)) ∙ e
            ∙ drive_at-agree l (placed l v (new_level c stored inputs l v)) (slice_get c.units u) h)
        at (inr h) = inr h

-- one more node
pub following-next : (c : Circuit) (stored inputs : List Level) (v : Read) (vs : List Read) (readers : Readers) (marks after : Marks) (l m : Levels) → AreReaders c readers →
    Following c stored inputs (v ∷ vs) marks l → Visited c readers stored inputs v marks l after m → Following c stored inputs vs after m
following-next c stored inputs v vs readers marks after l m table p visited = at visited.levels
  where
    at : ((marked_in marks (reader_of v) ≡ false) × (m ≡ l)) ⊎ (m ≡ placed l v (new_level c stored inputs l v)) → Following c stored inputs vs after m
    at (inl (none, e)) = subst (Following c stored inputs vs after) (sym e)
        (skipped c stored inputs v vs readers marks after l p (subst (Marking readers v marks l after) e (record { keeps = visited.keeps; marked = visited.marked })) none)
    at (inr e) = subst (Following c stored inputs vs after) (sym e)
        (renewed c stored inputs v vs readers marks after l table p (subst (Marking readers v marks l after) e (record { keeps = visited.keeps; marked = visited.marked })))

-- with all nodes visited and all marked drives made anew, the levels are settled
pub following-settled : (c : Circuit) (stored inputs : List Level) (marks : Marks) (l : Levels) → length stored ≡ length c.registers → Following c stored inputs [] marks l →
    IsSettled c stored inputs (with_drives l (map (drive_level l) c.units))
following-settled c stored inputs marks l long p = nodes-settled c stored inputs l long p.lengths (λ v node. by v (p.fits v node))
  where
    by : (v : Read) → (node_level l v ≡ new_level c stored inputs l v) ⊎ ((marked_in marks (reader_of v) ≡ true) × Among v []) → node_level l v ≡ new_level c stored inputs l v
    by v (inl e) = e
    by v (inr h) = absurd h.1
