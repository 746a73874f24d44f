-- The way home, step by step.
use Rattle.std.proofs.Common.{ℕ, suc, ◌≡◌, ◌⊎◌, ◌<◌, ◌≤◌, ◌+◌, List, [], ◌∷◌, ◌++◌, length, take, drop, get_or, Option, Some, None, refl, sym, ap, ◌∙◌, subst, arith, inl, inr}
use Rattle.std.proofs.lemmas.Bool.{cases_lt, cases_eq}
use Rattle.std.proofs.lemmas.List.{append_assoc, append-nil, length-append, take-append-drop, drop_more}
use Rattle.mig_base.specs.declared.circuit.Read.{Read}
use Rattle.mig_base.specs.declared.circuit.Circuit.{Circuit}
use Rattle.mig_base.specs.Accepted.{Walk}
use Rattle.mig_base.specs.Among.{Among}
use Rattle.mig_base.specs.Reads.{node_reads}
use Rattle.mig_base.specs.Structure.{all_variables}
use Rattle.ranks.specs.declared.marks.Marks.{Marks}
use Rattle.ranks.specs.FirstLoop.{IsFirst, IsOnLoop, IsShortest, GoesHome, IsFirstLoop}
use Rattle.ranks.specs.Marked.{mark_in}
use Rattle.ranks.specs.Ways.{IsWayHome, IsStep, IsLoopBack}
use Rattle.mig_base.proofs.Amongs.{node-among}
use Rattle.ranks.proofs.Marking.{node-marked}
use Rattle.ranks.proofs.WayLaws.{walk-node}

-- so far on the way from home: the last node has so many steps left, and each way home from there makes a whole one
pub record IsOnWay (c : Circuit) (ways : Marks) (home : Read) (steps : ℕ) (cycle : List Read) (last : Read) (left : ℕ) : Type 0 where
  pub rest : List Read
  pub whole : cycle ≡ home ∷ rest
  pub long : length rest + left ≡ steps
  pub number : mark_in ways last ≡ Some (Some left)
  pub way : (more : List Read) → length more ≡ left → GoesHome c home last more → GoesHome c home home (rest ++ more)

pub way-start : (c : Circuit) (ways : Marks) (home : Read) (steps : ℕ) (cycle : List Read) → cycle ≡ home ∷ [] → mark_in ways home ≡ Some (Some steps) → IsOnWay c ways home steps cycle home steps
way-start c ways home steps cycle e is = record { rest = []; whole = e; long = omega arith; number = is; way = λ more long way. way }

-- a walk of a step fewer has the number of a step fewer
step-number : (c : Circuit) (ways : Marks) (home last : Read) (left : ℕ) → IsWayHome c home ways → mark_in ways last ≡ Some (Some (suc left)) → (u : Read) → Among u (node_reads c last) →
    Walk c left u home → mark_in ways u ≡ Some (Some left)
step-number c ways home last left home_ways is u a walk = marked (node-marked c ways u home_ways.nets home_ways.registers (walk-node c left u home walk))
  where
    marked : (o : Option ℕ) × (mark_in ways u ≡ Some o) → mark_in ways u ≡ Some (Some left)
    marked (None, e) = absurd (home_ways.every u left walk e)
    marked (Some j, e) = at (cases_eq j left) (cases_lt j left)
      where
        at : (j ≡ left) ⊎ (j ≡ left → ⊥) → (j < left) ⊎ (left ≤ j) → mark_in ways u ≡ Some (Some left)
        at (inl same) order = e ∙ ap (λ (x : ℕ). Some (Some x)) same
        at (inr ne) (inl less) = absurd ((home_ways.sound last (suc left) is).1 (suc j) (omega arith) (u, a, (home_ways.sound u j e).0))
        at (inr ne) (inr more) = absurd ((home_ways.sound u j e).1 left (omega arith) walk)

-- there is a next step
pub step-there : (c : Circuit) (ways : Marks) (home last : Read) (left : ℕ) → IsWayHome c home ways → mark_in ways last ≡ Some (Some (suc left)) →
    (u : Read) × Among u (all_variables c) × IsStep (node_reads c last) ways left u
step-there c ways home last left home_ways is =
    let walk : Walk c (suc left) last home = (home_ways.sound last (suc left) is).0 in
    (walk.0, node-among c walk.0 (walk-node c left walk.0 home walk.2), (walk.1, step-number c ways home last left home_ways is walk.0 walk.1 walk.2))

pub first-same : {T : Type 0} (P Q : T → Type 0) (items : List T) (item : T) → ((x : T) → P x → Q x) → ((x : T) → Q x → P x) → IsFirst P items item → IsFirst Q items item
first-same P Q items item to back first = record {
  before = first.before;
  after = first.after;
  split = first.split;
  has = to item first.has;
  none = λ other a q. first.none other a (back other q);
}

-- one step more
pub way-next : (c : Circuit) (ways : Marks) (home : Read) (steps : ℕ) (cycle more_cycle : List Read) (last next : Read) (left : ℕ) → IsWayHome c home ways →
    IsOnWay c ways home steps cycle last (suc left) → IsFirst (IsStep (node_reads c last) ways left) (all_variables c) next → more_cycle ≡ cycle ++ next ∷ [] →
    IsOnWay c ways home steps more_cycle next left
way-next c ways home steps cycle more_cycle last next left home_ways on first pushed = record {
  rest = on.rest ++ next ∷ [];
  whole = pushed ∙ ap (λ (vs : List Read). vs ++ next ∷ []) on.whole;
  long = omega (arith, on.long, length-append on.rest (next ∷ []));
  number = first.has.1;
  way = way;
}
  where
    to : (u : Read) → IsStep (node_reads c last) ways left u → Among u (node_reads c last) × Walk c left u home
    to u step = (step.0, (home_ways.sound u left step.1).0)

    back : (u : Read) → Among u (node_reads c last) × Walk c left u home → IsStep (node_reads c last) ways left u
    back u h = (h.0, step-number c ways home last left home_ways on.number u h.0 h.1)

    way : (more : List Read) → length more ≡ left → GoesHome c home next more → GoesHome c home home ((on.rest ++ next ∷ []) ++ more)
    way more long goes = subst (GoesHome c home home) (sym (append_assoc on.rest (next ∷ []) more)) (on.way (next ∷ more) (omega (arith, long)) (
      subst (λ (n : ℕ). IsFirst (λ u. Among u (node_reads c last) × Walk c n u home) (all_variables c) next) (sym long)
          (first-same (IsStep (node_reads c last) ways left) (λ u. Among u (node_reads c last) × Walk c left u home) (all_variables c) next to back first),
      goes,
    ))

-- the last step is home
pub way-whole : (c : Circuit) (ways : Marks) (home : Read) (steps : ℕ) (cycle : List Read) (last : Read) → IsWayHome c home ways → mark_in ways home ≡ Some (Some steps) →
    IsOnWay c ways home steps cycle last 0 → IsLoopBack c home cycle
way-whole c ways home steps cycle last home_ways is on = record {
  rest = on.rest;
  whole = on.whole;
  shortest = subst (λ (n : ℕ). IsShortest c n home home) (sym long) (home_ways.sound home steps is);
  way = subst (GoesHome c home home) (append-nil on.rest) (on.way [] refl (home_ways.sound last 0 on.number).0);
}
  where
    long : length on.rest ≡ steps
    long = omega (arith, on.long)

-- a list is split at each place
pub split-at : (nodes : List Read) (i : ℕ) (home d : Read) → i < length nodes → home ≡ get_or nodes i d → nodes ≡ take i nodes ++ home ∷ drop (i + 1) nodes
split-at nodes i home d within is =
    sym (take-append-drop i nodes)
    ∙ ap (λ (vs : List Read). take i nodes ++ vs) (drop_more nodes i d within ∙ ap (λ (v : Read). v ∷ drop (i + 1) nodes) (sym is))

-- the loop of the first node on a loop is the reported one
pub loop-first : (c : Circuit) (nodes : List Read) (i : ℕ) (home d : Read) (cycle : List Read) → nodes ≡ all_variables c → i < length nodes → home ≡ get_or nodes i d →
    ((v : Read) → Among v (take i nodes) → IsOnLoop c v → ⊥) → IsLoopBack c home cycle → IsFirstLoop c cycle
loop-first c nodes i home d cycle same within is none back = subst (IsFirstLoop c) (sym back.whole) (record {
  first = record {
    before = take i nodes;
    after = drop (i + 1) nodes;
    split = sym same ∙ split-at nodes i home d within is;
    has = (length back.rest, back.shortest.0);
    none = none;
  };
  shortest = back.shortest;
  way = back.way;
})
