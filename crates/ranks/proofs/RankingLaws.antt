-- Ranks stay right as nodes get theirs.
use Rattle.std.proofs.Common.{ℕ, ◌≡◌, ◌⊎◌, ◌≤◌, ◌+◌, ◌-◌, max, true, false, List, [], ◌∷◌, ◌++◌, map, take, length, Option, Some, None, refl, sym, ap, ◌∙◌, subst, arith, inl, inr}
use Rattle.std.specs.Prelude.{slice_get, ◌==◌}
use Rattle.std.specs.List.{AllByRecursion, flat_map}
use Rattle.std.proofs.lemmas.Bool.{eqb-true}
use Rattle.std.proofs.lemmas.List.{length-replicate, take_all}
use Rattle.mig_base.specs.declared.circuit.Read.{Read}
use Rattle.mig_base.specs.declared.circuit.Read.TheVariants.{OfNet, OfRegister}
use Rattle.mig_base.specs.declared.circuit.Register.{Register}
use Rattle.mig_base.specs.declared.circuit.Wire.{Wire}
use Rattle.mig_base.specs.declared.circuit.Circuit.{Circuit}
use Rattle.mig_base.specs.Reads.{node_reads, wire_reads, driver_reads, reads_of_wire, reads_of_register}
use Rattle.mig_base.specs.Values.{row_reads}
use Rattle.mig_base.specs.Structure.{all_variables, has_no_driver}
use Rattle.ranks.proofs.NoLoops.{all_mono}
use Rattle.ranks.specs.declared.marks.Marks.{Marks}
use Rattle.ranks.specs.Marked.{mark_in, number_of, number_in, ready, IsWaiting, with_mark, unmarked_of, waiting}
use Rattle.ranks.specs.RankEquations.{greatest, above, if_driven, wire_rank, register_rank, or_zero, rank_rule}
use Rattle.mig_base.specs.Reads.{IsNode}
use Rattle.ranks.specs.Ranking.{AreReady, IsRankOf, IsRanking, IsPassed, IsStuck, undriven}
use Rattle.ranks.proofs.Marking.{cases-read, mark-same, mark-other, lengths-marked, waiting-marked, blanks-most, unmarked-none, node-within}
use Rattle.mig_base.proofs.Amongs.{among-all, node-among}
use Rattle.mig_base.proofs.ListLaws.{get-past}

same-map : (f g : Read → ℕ) (reads : List Read) → AllByRecursion (λ w. f w ≡ g w) reads → map f reads ≡ map g reads
same-map f g [] h = refl
same-map f g (w ∷ ws) h = ap (λ (n : ℕ). n ∷ map f ws) h.0 ∙ ap (λ (ns : List ℕ). g w ∷ ns) (same-map f g ws h.1)

-- a rank depends on the ranks of what is read alone
pub rule-agree : (c : Circuit) (f g : Read → ℕ) (v : Read) → AllByRecursion (λ w. f w ≡ g w) (node_reads c v) → rank_rule c f v ≡ rank_rule c g v
rule-agree c f g (OfNet n) h = at (slice_get c.nets n) h
  where
    at : (o : Option Wire) → AllByRecursion (λ w. f w ≡ g w) (reads_of_wire c o) → or_zero (wire_rank c f) o ≡ or_zero (wire_rank c g) o
    at None h = refl
    at (Some w) h = ap (λ (ns : List ℕ). if_driven w.drivers (greatest ns + 1)) (same-map f g (wire_reads c w) h)
rule-agree c f g (OfRegister k) h = at (slice_get c.registers k) h
  where
    at : (o : Option Register) → AllByRecursion (λ w. f w ≡ g w) (reads_of_register o) → or_zero (register_rank f) o ≡ or_zero (register_rank g) o
    at None h = refl
    at (Some r) h = ap (λ (ns : List ℕ). greatest ns + 1) (same-map f g (row_reads r.reset) h)

pub greatest-most : (f : Read → ℕ) (b : ℕ) → ((w : Read) → f w ≤ b) → (reads : List Read) → greatest (map f reads) ≤ b
greatest-most f b h [] = omega arith
greatest-most f b h (w ∷ ws) = let rest : greatest (map f ws) ≤ b = greatest-most f b h ws in let here : f w ≤ b = h w in omega arith

-- a rank is one more than all others at most
pub rule-most : (c : Circuit) (f : Read → ℕ) (b : ℕ) → ((w : Read) → f w ≤ b) → (v : Read) → rank_rule c f v ≤ b + 1
rule-most c f b h (OfNet n) = at (slice_get c.nets n)
  where
    driven : (us : List ℕ) (w : Wire) → if_driven us (above f (wire_reads c w)) ≤ b + 1
    driven [] w = omega arith
    driven (u ∷ us) w = let low : greatest (map f (wire_reads c w)) ≤ b = greatest-most f b h (wire_reads c w) in omega arith

    at : (o : Option Wire) → or_zero (wire_rank c f) o ≤ b + 1
    at None = omega arith
    at (Some w) = driven w.drivers w
rule-most c f b h (OfRegister k) = at (slice_get c.registers k)
  where
    at : (o : Option Register) → or_zero (register_rank f) o ≤ b + 1
    at None = omega arith
    at (Some r) = let low : greatest (map f (row_reads r.reset)) ≤ b = greatest-most f b h (row_reads r.reset) in omega arith

-- a rank stays right where another node gets its own
rank-kept : (c : Circuit) (m : Marks) (v : Read) (x : ℕ) (u : Read) (rank : ℕ) → IsWaiting m v → IsRankOf c m u rank → IsRankOf c (with_mark m v x) u rank
rank-kept c m v x u rank waits is = record {
  ready = all_mono (λ w. IsWaiting m w → ⊥) (λ w. IsWaiting (with_mark m v x) w → ⊥) ready (node_reads c u) is.ready;
  rule = is.rule ∙ rule-agree c (number_in m) (number_in (with_mark m v x)) u
      (all_mono (λ w. IsWaiting m w → ⊥) (λ w. number_in m w ≡ number_in (with_mark m v x) w) same (node_reads c u) is.ready);
}
  where
    apart : (w : Read) → (IsWaiting m w → ⊥) → w ≡ v → ⊥
    apart w no_wait e = no_wait (subst (IsWaiting m) (sym e) waits)

    ready : (w : Read) → (IsWaiting m w → ⊥) → IsWaiting (with_mark m v x) w → ⊥
    ready w no_wait later = no_wait (sym (mark-other m v x w (apart w no_wait)) ∙ later)

    same : (w : Read) → (IsWaiting m w → ⊥) → number_in m w ≡ number_in (with_mark m v x) w
    same w no_wait = ap number_of (sym (mark-other m v x w (apart w no_wait)))

-- one more node gets its rank
pub ranking-next : (c : Circuit) (m : Marks) (v : Read) (x : ℕ) → IsRanking c m → IsWaiting m v → IsRankOf c m v x → IsRanking c (with_mark m v x)
ranking-next c m v x ranking waits is = record {
  nets = (lengths-marked m v x).0 ∙ ranking.nets;
  registers = (lengths-marked m v x).1 ∙ ranking.registers;
  right = right;
  room = room;
}
  where
    mine : (rank : ℕ) → Some (Some x) ≡ Some (Some rank) → rank ≡ x
    mine rank e = ap number_of (sym e)

    right : (u : Read) (rank : ℕ) → mark_in (with_mark m v x) u ≡ Some (Some rank) → IsRankOf c (with_mark m v x) u rank
    right u rank e = at (cases-read u v)
      where
        at : (u ≡ v) ⊎ (u ≡ v → ⊥) → IsRankOf c (with_mark m v x) u rank
        at (inl same) = subst (λ (w : Read). IsRankOf c (with_mark m v x) w rank) (sym same)
            (subst (IsRankOf c (with_mark m v x) v) (sym (ap number_of (sym e ∙ ap (mark_in (with_mark m v x)) same ∙ mark-same m v x waits)))
            (rank-kept c m v x v x waits is))
        at (inr ne) = rank-kept c m v x u rank waits (ranking.right u rank (sym (mark-other m v x u ne) ∙ e))

    most : ℕ
    most = length c.nets + length c.registers

    room : (u : Read) → number_in (with_mark m v x) u + waiting (with_mark m v x) ≤ length c.nets + length c.registers
    room u = at (cases-read u v)
      where
        less : waiting (with_mark m v x) + 1 ≡ waiting m
        less = waiting-marked m v x waits

        all : waiting m ≤ length c.nets + length c.registers
        all = omega (arith, ranking.nets, ranking.registers, blanks-most m.nets, blanks-most m.registers)

        at : (u ≡ v) ⊎ (u ≡ v → ⊥) → number_in (with_mark m v x) u + waiting (with_mark m v x) ≤ length c.nets + length c.registers
        at (inl same) =
            let own : number_in (with_mark m v x) u ≡ x = ap number_of (ap (mark_in (with_mark m v x)) same ∙ mark-same m v x waits) in
            let low : rank_rule c (number_in m) v ≤ length c.nets + length c.registers - waiting m + 1 =
            rule-most c (number_in m) (length c.nets + length c.registers - waiting m) (λ w. omega (arith, ranking.room w, all)) v in
            omega (arith, is.rule, own, low, less, all)
        at (inr ne) =
            let own : number_in (with_mark m v x) u ≡ number_in m u = ap number_of (mark-other m v x u ne) in
            omega (arith, own, less, ranking.room u)

-- no node has a rank
pub ranking-start : (c : Circuit) → IsRanking c (unmarked_of c)
ranking-start c = record {
  nets = length-replicate (length c.nets) None;
  registers = length-replicate (length c.registers) None;
  right = λ v rank e. absurd (unmarked-none c v rank e);
  room = room;
}
  where
    none : (v : Read) (o : Option (Option ℕ)) → mark_in (unmarked_of c) v ≡ o → number_of o ≡ 0
    none v None e = refl
    none v (Some None) e = refl
    none v (Some (Some n)) e = absurd (unmarked-none c v n e)

    room : (v : Read) → number_in (unmarked_of c) v + waiting (unmarked_of c) ≤ length c.nets + length c.registers
    room v =
        omega (
          arith,
          none v (mark_in (unmarked_of c) v) refl,
          blanks-most (unmarked_of c).nets,
          blanks-most (unmarked_of c).registers,
          length-replicate {A = Option ℕ} (length c.nets) None,
          length-replicate {A = Option ℕ} (length c.registers) None,
        )

pub ready-none : (o : Option (Option ℕ)) → None ≡ ready o → o ≡ Some None
ready-none None e = cc
ready-none (Some None) e = refl
ready-none (Some (Some n)) e = cc

pub ready-waits : (o : Option (Option ℕ)) (n : ℕ) → Some n ≡ ready o → o ≡ Some None → ⊥
ready-waits None n e h = cc
ready-waits (Some None) n e h = cc
ready-waits (Some (Some m)) n e h = cc

pub ready-number : (o : Option (Option ℕ)) (n : ℕ) → Some n ≡ ready o → n ≡ number_of o
ready-number None n e = ap (λ (x : Option ℕ). number_of (Some x)) e
ready-number (Some None) n e = cc
ready-number (Some (Some m)) n e = ap (λ (x : Option ℕ). number_of (Some x)) e

pub greatest-more : (f : Read → ℕ) (reads : List Read) (w : Read) → greatest (map f (reads ++ w ∷ [])) ≡ max (f w) (greatest (map f reads))
greatest-more f [] w = refl
greatest-more f (u ∷ us) w = let rest : greatest (map f (us ++ w ∷ [])) ≡ max (f w) (greatest (map f us)) = greatest-more f us w in omega arith

-- the rank of a node that is no net without driver
pub rule-driven : (c : Circuit) (f : Read → ℕ) (v : Read) → IsNode c v → undriven c v ≡ false → rank_rule c f v ≡ greatest (map f (node_reads c v)) + 1
rule-driven c f (OfNet n) node h = at (slice_get c.nets n) refl h
  where
    driven : (w : Wire) (us : List ℕ) → (length us == 0) ≡ false → if_driven us (above f (wire_reads c w)) ≡ above f (wire_reads c w)
    driven w [] e = cc
    driven w (u ∷ us) e = refl

    at : (o : Option Wire) → slice_get c.nets n ≡ o → has_no_driver o ≡ false → or_zero (wire_rank c f) o ≡ greatest (map f (reads_of_wire c o)) + 1
    at None past e = absurd (omega (arith, get-past c.nets n past))
    at (Some w) is e = driven w w.drivers e
rule-driven c f (OfRegister k) node h = at (slice_get c.registers k) refl
  where
    at : (o : Option Register) → slice_get c.registers k ≡ o → or_zero (register_rank f) o ≡ greatest (map f (reads_of_register o)) + 1
    at None past = absurd (omega (arith, get-past c.registers k past))
    at (Some r) is = refl

-- a net without driver has rank 0 and reads nothing
pub undriven-rank : (c : Circuit) (m : Marks) (v : Read) → undriven c v ≡ true → IsRankOf c m v 0
undriven-rank c m (OfNet n) h = at (slice_get c.nets n) refl h
  where
    empty : (us : List ℕ) → (length us == 0) ≡ true → us ≡ []
    empty [] e = refl
    empty (u ∷ us) e = absurd (omega (arith, eqb-true _ _ e))

    of : (w : Wire) → slice_get c.nets n ≡ Some w → w.drivers ≡ [] → IsRankOf c m (OfNet n) 0
    of w is none = record {
      ready = subst (λ (o : Option Wire). AreReady m (reads_of_wire c o)) (sym is)
          (subst (λ (us : List ℕ). AreReady m (flat_map (λ u. driver_reads (slice_get c.units u)) us)) (sym none) tt);
      rule = sym (ap (or_zero (wire_rank c (number_in m))) is ∙ ap (λ (us : List ℕ). if_driven us (above (number_in m) (wire_reads c w))) none);
    }

    at : (o : Option Wire) → slice_get c.nets n ≡ o → has_no_driver o ≡ true → IsRankOf c m (OfNet n) 0
    at None is e = cc
    at (Some w) is e = of w is (empty w.drivers e)
undriven-rank c m (OfRegister k) h = cc

-- after a pass over all nodes that gave no rank, each node that waits reads one that waits
pub all-passed : (c : Circuit) (m : Marks) (nodes : List Read) (i : ℕ) → nodes ≡ all_variables c → IsRanking c m → length nodes ≤ i →
    AllByRecursion (IsPassed c m) (take i nodes) → IsStuck c m
all-passed c m nodes i same ranking end passed v waits =
    among-all (IsPassed c m) v (all_variables c) (subst (AllByRecursion (IsPassed c m)) (take_all i nodes end ∙ same) passed)
    (node-among c v (node-within c m v None ranking.nets ranking.registers waits)) waits
