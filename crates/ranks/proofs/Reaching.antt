-- Nodes tried one behind another.
use Rattle.std.proofs.Common.{ℕ, ◌≡◌, ◌⊎◌, ◌+◌, List, [], ◌∷◌, ◌++◌, length, Some, None, refl, sym, ap, ◌∙◌, subst, arith, inl, inr}
use Rattle.std.proofs.lemmas.List.{length-append}
use Rattle.mig_base.specs.declared.circuit.Read.{Read}
use Rattle.mig_base.specs.Among.{Among}
use Rattle.ranks.specs.declared.marks.Marks.{Marks}
use Rattle.ranks.specs.Marked.{mark_in, number_of, IsWaiting, with_mark, waiting}
use Rattle.ranks.specs.Ways.{IsReached}
use Rattle.mig_base.proofs.Amongs.{among-left, among-right, among-split}
use Rattle.ranks.proofs.Marking.{cases-read, mark-same, mark-other, lengths-marked, waiting-marked}

pub reached-none : (steps : ℕ) (m : Marks) (before : List Read) → IsReached [] steps m before m before
reached-none steps m before = record {
  nets = refl;
  registers = refl;
  kept = λ v n e. e;
  found = λ v n e. inl e;
  waited = λ v waits. waits;
  grows = λ v a. a;
  joined = λ v a. inl a;
  all = λ v a waits. absurd a;
  fewer = refl;
}

-- a node that did not wait
pub reached-passed : (node : Read) (steps : ℕ) (m : Marks) (before : List Read) → (IsWaiting m node → ⊥) → IsReached (node ∷ []) steps m before m before
reached-passed node steps m before no_wait = record {
  nets = refl;
  registers = refl;
  kept = λ v n e. e;
  found = λ v n e. inl e;
  waited = λ v waits. waits;
  grows = λ v a. a;
  joined = λ v a. inl a;
  all = all;
  fewer = refl;
}
  where
    all : (v : Read) → Among v (node ∷ []) → IsWaiting m v → ⊥
    all v (inl e) waits = no_wait (subst (IsWaiting m) e waits)
    all v (inr a) waits = absurd a

-- a node that waited
pub reached-one : (node : Read) (steps : ℕ) (m : Marks) (before next : List Read) → IsWaiting m node → next ≡ before ++ node ∷ [] →
    IsReached (node ∷ []) steps m before (with_mark m node steps) next
reached-one node steps m before next waits more = record {
  nets = (lengths-marked m node steps).0;
  registers = (lengths-marked m node steps).1;
  kept = kept;
  found = found;
  waited = waited;
  grows = λ v a. rw more (among-left v before (node ∷ []) a);
  joined = λ v a. among-split v before (node ∷ []) (subst (Among v) more a);
  all = all;
  fewer = fewer;
}
  where
    kept : (v : Read) (n : ℕ) → mark_in m v ≡ Some (Some n) → mark_in (with_mark m node steps) v ≡ Some (Some n)
    kept v n e = at (cases-read v node)
      where
        at : (v ≡ node) ⊎ (v ≡ node → ⊥) → mark_in (with_mark m node steps) v ≡ Some (Some n)
        at (inl same) = let wrong : Some None ≡ Some (Some n) = sym waits ∙ sym (ap (mark_in m) same) ∙ e in cc
        at (inr ne) = mark-other m node steps v ne ∙ e

    found : (v : Read) (n : ℕ) → mark_in (with_mark m node steps) v ≡ Some (Some n) →
        (mark_in m v ≡ Some (Some n)) ⊎ ((n ≡ steps) × Among v (node ∷ []) × IsWaiting m v × Among v next)
    found v n e = at (cases-read v node)
      where
        at : (v ≡ node) ⊎ (v ≡ node → ⊥) → (mark_in m v ≡ Some (Some n)) ⊎ ((n ≡ steps) × Among v (node ∷ []) × IsWaiting m v × Among v next)
        at (inl same) = inr (
          ap number_of (sym e ∙ ap (mark_in (with_mark m node steps)) same ∙ mark-same m node steps waits),
          inl same,
          ap (mark_in m) same ∙ waits,
          rw more (among-right v before (node ∷ []) (inl same)),
        )
        at (inr ne) = inl (sym (mark-other m node steps v ne) ∙ e)

    waited : (v : Read) → IsWaiting (with_mark m node steps) v → IsWaiting m v
    waited v later = at (cases-read v node)
      where
        at : (v ≡ node) ⊎ (v ≡ node → ⊥) → IsWaiting m v
        at (inl same) = ap (mark_in m) same ∙ waits
        at (inr ne) = sym (mark-other m node steps v ne) ∙ later

    all : (v : Read) → Among v (node ∷ []) → IsWaiting (with_mark m node steps) v → ⊥
    all v (inl same) later = let wrong : Some None ≡ Some (Some steps) = sym later ∙ ap (mark_in (with_mark m node steps)) same ∙ mark-same m node steps waits in cc
    all v (inr a) later = absurd a

    fewer : waiting (with_mark m node steps) + length next ≡ waiting m + length before
    fewer = let more_by_one : length next ≡ length before + 1 = ap length more ∙ length-append before (node ∷ []) in omega (arith, waiting-marked m node steps waits)

-- some nodes tried, and then more
pub reached-more : (xs ys : List Read) (steps : ℕ) (m0 : Marks) (next0 : List Read) (m1 : Marks) (next1 : List Read) (m2 : Marks) (next2 : List Read) →
    IsReached xs steps m0 next0 m1 next1 → IsReached ys steps m1 next1 m2 next2 → IsReached (xs ++ ys) steps m0 next0 m2 next2
reached-more xs ys steps m0 next0 m1 next1 m2 next2 first then = record {
  nets = then.nets ∙ first.nets;
  registers = then.registers ∙ first.registers;
  kept = λ v n e. then.kept v n (first.kept v n e);
  found = found;
  waited = λ v later. first.waited v (then.waited v later);
  grows = λ v a. then.grows v (first.grows v a);
  joined = λ v a. new v (then.joined v a);
  all = λ v a later. all v (among-split v xs ys a) later;
  fewer = then.fewer ∙ first.fewer;
}
  where
    found : (v : Read) (n : ℕ) → mark_in m2 v ≡ Some (Some n) → (mark_in m0 v ≡ Some (Some n)) ⊎ ((n ≡ steps) × Among v (xs ++ ys) × IsWaiting m0 v × Among v next2)
    found v n e = at (then.found v n e)
      where
        early : (mark_in m0 v ≡ Some (Some n)) ⊎ ((n ≡ steps) × Among v xs × IsWaiting m0 v × Among v next1) →
            (mark_in m0 v ≡ Some (Some n)) ⊎ ((n ≡ steps) × Among v (xs ++ ys) × IsWaiting m0 v × Among v next2)
        early (inl old) = inl old
        early (inr h) = inr (h.0, among-left v xs ys h.1, h.2, then.grows v h.3)

        at : (mark_in m1 v ≡ Some (Some n)) ⊎ ((n ≡ steps) × Among v ys × IsWaiting m1 v × Among v next2) →
            (mark_in m0 v ≡ Some (Some n)) ⊎ ((n ≡ steps) × Among v (xs ++ ys) × IsWaiting m0 v × Among v next2)
        at (inl old) = early (first.found v n old)
        at (inr h) = inr (h.0, among-right v xs ys h.1, first.waited v h.2, h.3)

    new : (v : Read) → Among v next1 ⊎ Among v ys → Among v next0 ⊎ Among v (xs ++ ys)
    new v (inl a) = early (first.joined v a)
      where
        early : Among v next0 ⊎ Among v xs → Among v next0 ⊎ Among v (xs ++ ys)
        early (inl b) = inl b
        early (inr b) = inr (among-left v xs ys b)
    new v (inr a) = inr (among-right v xs ys a)

    all : (v : Read) → Among v xs ⊎ Among v ys → IsWaiting m2 v → ⊥
    all v (inl a) later = first.all v a (then.waited v later)
    all v (inr a) later = then.all v a later
