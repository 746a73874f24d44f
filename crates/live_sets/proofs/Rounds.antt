-- Live units are found in rounds: each adds all that the set calls for, until it calls for none that waits.
use Rattle.std.proofs.Common.{ℕ, zero, suc, ◌≡◌, ◌⊎◌, ◌<◌, ◌≤◌, ◌+◌, Bool, true, false, not, ◌&&◌, ◌||◌, List, [], ◌∷◌, filter, length, Option, Some, None, refl, sym, ap, ◌∙◌, subst, inl, inr, arith}
use Rattle.std.specs.Prelude.{slice_get, slice_index_or, nat_lt}
use Rattle.std.specs.List.{list_any}
use Rattle.std.proofs.lemmas.Bool.{ltb-true, lt-ltb, ltb-false, and_parts}
use Rattle.std.proofs.lemmas.Option.{slice_get_within}
use Rattle.std.proofs.lemmas.List.{get_or_past}
use Rattle.mig_base.specs.declared.circuit.Read.{Read}
use Rattle.mig_base.specs.declared.circuit.Read.TheVariants.{OfNet}
use Rattle.mig_base.specs.declared.circuit.Driver.{Driver}
use Rattle.mig_base.specs.declared.circuit.Circuit.{Circuit}
use Rattle.mig_base.specs.Among.{Among}
use Rattle.mig_base.specs.First.{made_from}
use Rattle.mig_base.proofs.Amongs.{any-among, among-any, filter-among, made-among}
use Rattle.mig_base.proofs.ListLaws.{get_or-made_from, length-made_from}
use Rattle.structure.specs.Live.{reads_of_unit, unit_reads, StandsBehind, IsLiveSet, IsLive, IsLiveness}
use Rattle.live_sets.proofs.Calls.{Set, stands_behind, wire_not_handed, drives_port, is_read_by, calls, behind-stands, stands-behind, wire-shown, shown-wire}

-- the numbers of all units
abbrev numbers : Circuit → List ℕ
numbers c = made_from (λ n. n) 0 (length c.units)

-- each unit of the set is live
abbrev IsSound : Circuit → Set → Type 0
IsSound c set = (u : ℕ) → set u ≡ true → IsLive c u

-- each unit is in the set, or waits
abbrev AreThere : Circuit → Set → List ℕ → Type 0
AreThere c set waiting = (u : ℕ) → u < length c.units → (set u ≡ true) ⊎ Among u waiting

-- the set with all that it calls for
abbrev grown : Circuit → Set → Set
grown c set u = set u || calls c set u

-- a set of live units that calls for no unit which it doesn't have
record Closed (c : Circuit) : Type 0 where
  set : Set
  sound : IsSound c set
  whole : (u : ℕ) → u < length c.units → calls c set u ≡ true → set u ≡ true

or-either : (a b : Bool) → (a || b) ≡ true → (a ≡ true) ⊎ (b ≡ true)
or-either true b e = inl refl
or-either false b e = inr e

or-here : (a b : Bool) → a ≡ true → (a || b) ≡ true
or-here true b e = refl
or-here false b e = cc

or-there : (a b : Bool) → b ≡ true → (a || b) ≡ true
or-there true b e = refl
or-there false b e = e

and-both : (a b : Bool) → a ≡ true → b ≡ true → (a && b) ≡ true
and-both true b p q = q
and-both false b p q = cc

-- what a set of live units calls for is live
called-live : (c : Circuit) (set : Set) (w : ℕ) → IsSound c set → calls c set w ≡ true → IsLive c w
called-live c set w sound e = λ other is. at other is (or-either (list_any (drives_port c w) c.ports) (list_any (is_read_by c set w) (numbers c)) e)
  where
    at : (other : ℕ → Bool) → IsLiveSet c other → (list_any (drives_port c w) c.ports ≡ true) ⊎ (list_any (is_read_by c set w) (numbers c) ≡ true) → other w ≡ true
    at other is (inl p) =
        let found = any-among (drives_port c w) c.ports p in
        let both = and_parts (wire_not_handed (slice_get c.nets found.0)) (stands_behind c w (OfNet found.0)) found.2 in
        is.ports found.0 w (found.1, wire-shown (slice_get c.nets found.0) both.0) (behind-stands c w (OfNet found.0) both.1)
    at other is (inr p) =
        let found = any-among (is_read_by c set w) (numbers c) p in
        let both = and_parts (set found.0) (list_any (stands_behind c w) (unit_reads c found.0)) found.2 in
        let read = any-among (stands_behind c w) (unit_reads c found.0) both.1 in
        is.reads found.0 read.0 w (sound found.0 both.0 other is) read.1 (behind-stands c w read.0 read.2)

grown-sound : (c : Circuit) (set : Set) → IsSound c set → IsSound c (grown c set)
grown-sound c set sound u e = at (or-either (set u) (calls c set u) e)
  where
    at : (set u ≡ true) ⊎ (calls c set u ≡ true) → IsLive c u
    at (inl p) = sound u p
    at (inr p) = called-live c set u sound p

-- those that still wait
abbrev left : Circuit → Set → List ℕ → List ℕ
left c set waiting = filter (λ u. not (calls c set u)) waiting

not-called : (b : Bool) → b ≡ false → not b ≡ true
not-called true e = cc
not-called false e = refl

grown-there : (c : Circuit) (set : Set) (waiting : List ℕ) → AreThere c set waiting → AreThere c (grown c set) (left c set waiting)
grown-there c set waiting there u within = at (there u within) (calls c set u) refl
  where
    at : (set u ≡ true) ⊎ Among u waiting → (b : Bool) → calls c set u ≡ b → (grown c set u ≡ true) ⊎ Among u (left c set waiting)
    at (inl p) b e = inl (or-here (set u) (calls c set u) p)
    at (inr a) true e = inl (or-there (set u) (calls c set u) e)
    at (inr a) false e = inr (filter-among (λ v. not (calls c set v)) u waiting (not-called (calls c set u) e) a)

filter-least : (p : ℕ → Bool) (us : List ℕ) → length (filter (λ u. not (p u)) us) ≤ length us
filter-least p [] = omega arith
filter-least p (u ∷ us) = at (p u) refl (filter-least p us)
  where
    at : (b : Bool) → p u ≡ b → length (filter (λ v. not (p v)) us) ≤ length us → length (filter (λ v. not (p v)) (u ∷ us)) ≤ length (u ∷ us)
    at true e less = rw e (omega (arith, less))
    at false e less = rw e (omega (arith, less))

filter-less : (p : ℕ → Bool) (us : List ℕ) → list_any p us ≡ true → length (filter (λ u. not (p u)) us) < length us
filter-less p [] some = cc
filter-less p (u ∷ us) some = at (p u) refl some (filter-less p us)
  where
    at : (b : Bool) → p u ≡ b → (b || list_any p us) ≡ true → (list_any p us ≡ true → length (filter (λ v. not (p v)) us) < length us) →
        length (filter (λ v. not (p v)) (u ∷ us)) < length (u ∷ us)
    at true e any less = rw e (omega (arith, filter-least p us))
    at false e any less = rw e (omega (arith, less any))

-- where no unit that waits is called for, the set is closed
none-called : (c : Circuit) (set : Set) (waiting : List ℕ) → IsSound c set → AreThere c set waiting → list_any (calls c set) waiting ≡ false → Closed c
none-called c set waiting sound there none = record { set = set; sound = sound; whole = λ u within e. at u (there u within) e }
  where
    at : (u : ℕ) → (set u ≡ true) ⊎ Among u waiting → calls c set u ≡ true → set u ≡ true
    at u (inl p) e = p
    at u (inr a) e = let some : list_any (calls c set) waiting ≡ true = among-any (calls c set) u waiting a e in let no : ⊥ = cc in absurd no

-- round by round, at most one for each unit that waits
rounds : (n : ℕ) (c : Circuit) (set : Set) (waiting : List ℕ) → length waiting ≤ n → IsSound c set → AreThere c set waiting → Closed c
rounds zero c set [] few sound there = none-called c set [] sound there refl
rounds zero c set (u ∷ us) few sound there = absurd (omega (arith, few))
rounds (suc n) c set waiting few sound there =
    at (list_any (calls c set) waiting) refl
    (λ e. rounds n c (grown c set) (left c set waiting) (omega (arith, filter-less (calls c set) waiting e, few)) (grown-sound c set sound) (grown-there c set waiting there))
  where
    at : (b : Bool) → list_any (calls c set) waiting ≡ b → (list_any (calls c set) waiting ≡ true → Closed c) → Closed c
    at true e more = more e
    at false e more = none-called c set waiting sound there e

empty : Set
empty u = false

found : (c : Circuit) → Closed c
unfolding empty
found c = rounds (length (numbers c)) c empty (numbers c) (omega arith) (λ u e. cc) (λ u within. inr (made-among (λ n. n) u 0 (length c.units) (omega arith) (omega (arith, within))))

-- the set, with all numbers that are none of units
abbrev with_others : (c : Circuit) → Set → Set
with_others c set u = set u || not (nat_lt u (length c.units))

others-there : (c : Circuit) (set : Set) (u : ℕ) → (u < length c.units → set u ≡ true) → with_others c set u ≡ true
others-there c set u in_set = at (nat_lt u (length c.units)) refl
  where
    at : (b : Bool) → nat_lt u (length c.units) ≡ b → with_others c set u ≡ true
    at true e = or-here (set u) (not (nat_lt u (length c.units))) (in_set (ltb-true u (length c.units) e))
    at false e = or-there (set u) (not (nat_lt u (length c.units))) (not-called (nat_lt u (length c.units)) e)

in-others : (c : Circuit) (set : Set) (u : ℕ) → u < length c.units → with_others c set u ≡ true → set u ≡ true
in-others c set u within e = at (or-either (set u) (not (nat_lt u (length c.units))) e)
  where
    at : (set u ≡ true) ⊎ (not (nat_lt u (length c.units)) ≡ true) → set u ≡ true
    at (inl p) = p
    at (inr p) = let yes : nat_lt u (length c.units) ≡ true = lt-ltb u (length c.units) within in absurd (let q : not true ≡ true = subst (λ (b : Bool). not b ≡ true) yes p in let no : ⊥ = cc in no)

-- it is a live set
closed-live : (c : Circuit) (s : Closed c) → IsLiveSet c (with_others c s.set)
closed-live c s = record {
  ports = λ n u shown behind. others-there c s.set u (λ within. s.whole u within (or-here (list_any (drives_port c u) c.ports) (list_any (is_read_by c s.set u) (numbers c))
      (among-any (drives_port c u) n c.ports shown.0 (and-both (wire_not_handed (slice_get c.nets n)) (stands_behind c u (OfNet n)) (shown-wire (slice_get c.nets n) shown.1) (stands-behind c u (OfNet n) behind)))));
  reads = λ u v w e a behind. others-there c s.set w (λ within. s.whole w within (or-there (list_any (drives_port c w) c.ports) (list_any (is_read_by c s.set w) (numbers c))
      (reading u v w e a behind)));
}
  where
    reading : (u : ℕ) (v : Read) (w : ℕ) → with_others c s.set u ≡ true → Among v (unit_reads c u) → StandsBehind c w v → list_any (is_read_by c s.set w) (numbers c) ≡ true
    reading u v w e a behind = at (slice_get c.units u) refl a
      where
        at : (o : Option Driver) → slice_get c.units u ≡ o → Among v (reads_of_unit c o) → list_any (is_read_by c s.set w) (numbers c) ≡ true
        at None past b = absurd b
        at (Some d) is b =
            let within : u < length c.units = slice_get_within c.units u d is in
            among-any (is_read_by c s.set w) u (numbers c) (made-among (λ n. n) u 0 (length c.units) (omega arith) (omega (arith, within)))
            (and-both (s.set u) (list_any (stands_behind c w) (unit_reads c u)) (in-others c s.set u within e) (among-any (stands_behind c w) v (unit_reads c u) a (stands-behind c w v behind)))

-- as flags
pub has-liveness : (c : Circuit) → (live : List Bool) × IsLiveness c live
has-liveness c =
    let s = found c in (
      made_from s.set 0 (length c.units),
      record {
        units = length-made_from s.set 0 (length c.units);
        sound = λ u e. s.sound u (flagged s.set (length c.units) u e);
        every = λ u within live. get_or-made_from s.set 0 (length c.units) u false within ∙ ap s.set (let same : 0 + u ≡ u = omega arith in same) ∙ in-others c s.set u within (live (with_others c s.set) (closed-live c s));
      },
    )
  where
    flagged : (f : ℕ → Bool) (n u : ℕ) → slice_index_or (made_from f 0 n) u false ≡ true → f u ≡ true
    flagged f n u e = at (nat_lt u n) refl
      where
        at : (b : Bool) → nat_lt u n ≡ b → f u ≡ true
        at true p = let same : f (0 + u) ≡ f u = ap f (omega arith) in sym same ∙ sym (get_or-made_from f 0 n u false (ltb-true u n p)) ∙ e
        at false p = let none : slice_index_or (made_from f 0 n) u false ≡ false = get_or_past (made_from f 0 n) u false (omega (arith, length-made_from f 0 n, ltb-false u n p)) in let no : ⊥ = cc in absurd no
