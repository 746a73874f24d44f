-- Where no rule on lines is broken, all absorbed units are absorbable.
use Rattle.std.proofs.Common.{ℕ, zero, suc, ◌≡◌, ◌⊎◌, ◌+◌, ◌<◌, Bool, true, false, cond, ◌||◌, eqb, ltb, List, [], ◌∷◌, length, Option, Some, None, refl, sym, ap, ◌∙◌, subst, arith, inl, inr, below_more}
use Rattle.std.specs.Prelude.{not, slice_get}
use Rattle.std.specs.List.{list_any, position_or_len}
use Rattle.std.specs.Str.{bytes_eq}
use Rattle.std.proofs.lemmas.Bool.{and_parts, not-true}
use Rattle.std.proofs.lemmas.Option.{slice_get_within}
use Rattle.std.proofs.lemmas.Bool.Decides.{Decides-eqb, Decides-ltb}
use Rattle.std.proofs.lemmas.Slice.Eq.{bytes_eq-Decides}
use Rattle.mig_base.specs.declared.circuit.Circuit.{Circuit}
use Rattle.mig_base.specs.declared.circuit.Wire.{Wire}
use Rattle.mig_base.specs.declared.nets.PinName.{PinName}
use Rattle.mig_base.specs.declared.plans.Plan.{Plan}
use Rattle.mig_base.specs.declared.plans.PlanLine.{PlanLine}
use Rattle.mig_base.specs.declared.plans.PlanLine.TheVariants.{Place, Absorb}
use Rattle.mig_base.specs.declared.plans.Breach.{Breach}
use Rattle.mig_base.specs.declared.plans.Breach.TheVariants as breach
use Rattle.mig_base.specs.Among.{Among}
use Rattle.mig_base.specs.Boards.{places_from}
use Rattle.mig_base.specs.Given.{IsGiven}
use Rattle.mig_base.specs.WrittenBoard.{are_distinct}
use Rattle.mig_base.proofs.Amongs.{among-split, any-among, among-any}
use Rattle.mig_base.proofs.Distinct.{same-refl, same-is}
use Rattle.structure.specs.Absorbable.{is_plain, AbsorbsAt, IsAbsorbable}
use Rattle.board.specs.Joined.{Joined, equations_of}
use Rattle.joiner.specs.AbsorbedNets.{AreAbsorbable}
use Rattle.plans.specs.FirstOf.{NoneOf}
use Rattle.plans.specs.LineBreaches.{GivesNotAbsorbable}
use Rattle.plans.specs.Placings.{same_pin, unit_names, unit_named, absorbs, is_absorbed_in, absorbed_units}
use Rattle.plans.specs.Breaches.{NotAbsorbable, RuleGives, line_rules}
use Rattle.plans.proofs.Firsts.{none-each}
use Rattle.fit.proofs.UnitNames.{pins-equal, unit-names-apart}

-- whether a unit can be absorbed at a net is decided
at-net : (c : Circuit) (n u : ℕ) → AbsorbsAt c n u ⊎ (AbsorbsAt c n u → ⊥)
at-net c n u = on (slice_get c.nets n) refl
  where
    same : (w : Wire) → slice_get c.nets n ≡ Some w → (a : AbsorbsAt c n u) → w ≡ a.wire
    same w e a = let wires : Some w ≡ Some a.wire = sym e ∙ a.on in cc

    plain : (w : Wire) → slice_get c.nets n ≡ Some w → w.drivers ≡ u ∷ [] → (Among n c.ports → ⊥) → (t : Bool) → is_plain (slice_get c.units u) ≡ t → AbsorbsAt c n u ⊎ (AbsorbsAt c n u → ⊥)
    plain w e d p true t = inl (record { wire = w; on = e; alone = d; no_port = p; plain = t })
    plain w e d p false t = inr (λ a. let wrong : true ≡ false = sym a.plain ∙ t in cc)

    port : (w : Wire) → slice_get c.nets n ≡ Some w → w.drivers ≡ u ∷ [] → (t : Bool) → list_any (eqb n) c.ports ≡ t → AbsorbsAt c n u ⊎ (AbsorbsAt c n u → ⊥)
    port w e d true t =
        let found = any-among (eqb n) c.ports t in
        inr (λ a. a.no_port (subst (λ m. Among m c.ports) (sym ((Decides-eqb n found.0).0 found.2)) found.1))
    port w e d false t = plain w e d (λ m. let wrong : true ≡ false = sym (among-any (eqb n) n c.ports m ((Decides-eqb n n).1 refl)) ∙ t in cc) (is_plain (slice_get c.units u)) refl

    alone : (w : Wire) → slice_get c.nets n ≡ Some w → (t : Bool) → bytes_eq w.drivers (u ∷ []) ≡ t → AbsorbsAt c n u ⊎ (AbsorbsAt c n u → ⊥)
    alone w e true t = port w e ((bytes_eq-Decides w.drivers (u ∷ [])).0 t) (list_any (eqb n) c.ports) refl
    alone w e false t =
        inr (λ a. let wrong : true ≡ false = sym ((bytes_eq-Decides w.drivers (u ∷ [])).1 (ap (λ (x : Wire). x.drivers) (same w e a) ∙ a.alone)) ∙ t in cc)

    on : (o : Option Wire) → slice_get c.nets n ≡ o → AbsorbsAt c n u ⊎ (AbsorbsAt c n u → ⊥)
    on None e = inr (λ a. let wrong : None ≡ Some a.wire = sym e ∙ a.on in cc)
    on (Some w) e = alone w e (bytes_eq w.drivers (u ∷ [])) refl

-- at one of the first nets, or at none of them
at-nets : (c : Circuit) (u m : ℕ) → IsAbsorbable c u ⊎ ((n : ℕ) → n < m → AbsorbsAt c n u → ⊥)
at-nets c u zero = inr (λ n lt a. absurd (omega (arith, lt)))
at-nets c u (suc m) = behind (at-nets c u m)
  where
    here : ((n : ℕ) → n < m → AbsorbsAt c n u → ⊥) → AbsorbsAt c m u ⊎ (AbsorbsAt c m u → ⊥) → IsAbsorbable c u ⊎ ((n : ℕ) → n < suc m → AbsorbsAt c n u → ⊥)
    here none (inl a) = inl (m, a)
    here none (inr never) = inr (λ n lt. below_more (λ k. AbsorbsAt c k u → ⊥) m none never n (omega (arith, lt)))

    behind : IsAbsorbable c u ⊎ ((n : ℕ) → n < m → AbsorbsAt c n u → ⊥) → IsAbsorbable c u ⊎ ((n : ℕ) → n < suc m → AbsorbsAt c n u → ⊥)
    behind (inl a) = inl a
    behind (inr none) = here none (at-net c m u)

not-not : (c : Circuit) (u : ℕ) → ((IsAbsorbable c u → ⊥) → ⊥) → IsAbsorbable c u
not-not c u h = at (at-nets c u (length c.nets))
  where
    at : IsAbsorbable c u ⊎ ((n : ℕ) → n < length c.nets → AbsorbsAt c n u → ⊥) → IsAbsorbable c u
    at (inl a) = a
    at (inr none) = absurd (h (λ a. none a.0 (slice_get_within c.nets a.0 a.1.wire a.1.on) a.1))

-- the name at a place that passes is first found at that place
record IsFoundAt (test : PinName → Bool) (names : List PinName) (i u : ℕ) : Type 0 where
  name : PinName
  passes : test name ≡ true
  place : position_or_len (same_pin name) names + i ≡ u
  there : list_any (same_pin name) names ≡ true
  within : position_or_len (same_pin name) names < length names

found-here : (test : PinName → Bool) (n : PinName) (ns : List PinName) (i : ℕ) → test n ≡ true → IsFoundAt test (n ∷ ns) i i
found-here test n ns i e =
    let self : same_pin n n ≡ true = same-refl pins-equal n in
    let first : position_or_len (same_pin n) (n ∷ ns) ≡ 0 = ap (λ (t : Bool). cond (not t) (1 + position_or_len (same_pin n) ns) 0) self in
    record { name = n; passes = e; place = omega (arith, first); there = ap (λ (t : Bool). t || list_any (same_pin n) ns) self; within = omega (arith, first) }

or-right : (s : Bool) → (s || true) ≡ true
or-right true = refl
or-right false = refl

found-behind : (test : PinName → Bool) (n : PinName) (ns : List PinName) (i u : ℕ) → list_any (same_pin n) ns ≡ false → IsFoundAt test ns (i + 1) u → IsFoundAt test (n ∷ ns) i u
found-behind test n ns i u other f =
    let apart : same_pin f.name n ≡ false = differ (same_pin f.name n) refl in
    let behind : position_or_len (same_pin f.name) (n ∷ ns) ≡ 1 + position_or_len (same_pin f.name) ns = ap (λ (t : Bool). cond (not t) (1 + position_or_len (same_pin f.name) ns) 0) apart in
    record {
      name = f.name;
      passes = f.passes;
      place = omega (arith, behind, f.place);
      there = ap (λ (t : Bool). same_pin f.name n || t) f.there ∙ or-right (same_pin f.name n);
      within = omega (arith, behind, f.within);
    }
  where
    differ : (t : Bool) → same_pin f.name n ≡ t → same_pin f.name n ≡ false
    differ true e =
        let here : list_any (same_pin n) ns ≡ true = ap (λ (m : PinName). list_any (same_pin m) ns) (sym (same-is pins-equal f.name n e)) ∙ f.there in
        let wrong : true ≡ false = sym here ∙ other in
        cc
    differ false e = e

found-at : (test : PinName → Bool) (names : List PinName) (i u : ℕ) → are_distinct same_pin names ≡ true → Among u (places_from test i names) → IsFoundAt test names i u
found-at test [] i u apart m = absurd m
found-at test (n ∷ ns) i u apart m =
    let parts : (not (list_any (same_pin n) ns) ≡ true) × (are_distinct same_pin ns ≡ true) = and_parts _ _ apart in
    at (test n) refl (among-split u (cond (test n) (i ∷ []) []) (places_from test (i + 1) ns) m) (λ k. found-behind test n ns i u (not-true _ parts.0) (found-at test ns (i + 1) u parts.1 k))
  where
    at : (t : Bool) → test n ≡ t → Among u (cond (test n) (i ∷ []) []) ⊎ Among u (places_from test (i + 1) ns) → (Among u (places_from test (i + 1) ns) → IsFoundAt test (n ∷ ns) i u) → IsFoundAt test (n ∷ ns) i u
    at t e (inr k) later = later k
    at true e (inl k) later = one (subst (λ (q : Bool). Among u (cond q (i ∷ []) [])) e k)
      where
        one : Among u (i ∷ []) → IsFoundAt test (n ∷ ns) i u
        one (inl s) = subst (IsFoundAt test (n ∷ ns) i) (sym s) (found-here test n ns i e)
        one (inr bad) = absurd bad
    at false e (inl k) later = absurd (subst (λ (q : Bool). Among u (cond q (i ∷ []) [])) e k)

-- the number of the unit of that name
found-named : (b : Joined) (test : PinName → Bool) (u : ℕ) (f : IsFoundAt test (unit_names b) 0 u) → unit_named b f.name ≡ Some u
found-named b test u f =
    let place : position_or_len (same_pin f.name) (unit_names b) ≡ u = omega (arith, f.place) in
    let within : ltb (position_or_len (same_pin f.name) (unit_names b)) (length (unit_names b)) ≡ true = (Decides-ltb _ _).1 f.within in
    ap (λ (t : Bool). cond t (Some (position_or_len (same_pin f.name) (unit_names b))) None) within ∙ ap Some place

-- a line that absorbs the unit is no breach of its rule
by-line : (b : Joined) (u : ℕ) (name : PinName) → unit_named b name ≡ Some u → (l : PlanLine) → absorbs name l ≡ true → ((x : Breach) → GivesNotAbsorbable b l x → ⊥) → IsAbsorbable (equations_of b) u
by-line b u name e (Place unit chip pin) a none = cc
by-line b u name e (Absorb unit) a none =
    let same : unit ≡ name = same-is pins-equal unit name a in
    not-not (equations_of b) u (λ bars. none (breach.NotAbsorbable unit) (record { number = u; named = ap (unit_named b) same ∙ e; bars = bars; names = refl }))

pub absorbed-absorbable : (b : Joined) (p : Plan) → IsGiven b.net b.chips → NoneOf (RuleGives b p) line_rules → AreAbsorbable b (absorbed_units b p)
absorbed-absorbable b p given none u m =
    let f = found-at (is_absorbed_in p.lines) (unit_names b) 0 u (unit-names-apart b given) m in
    let line = any-among (absorbs f.name) p.lines f.passes in
    let kept : NoneOf (GivesNotAbsorbable b) p.lines = none-each (RuleGives b p) line_rules none NotAbsorbable (inr (inr (inr (inr (inr (inr (inl refl))))))) in
    by-line b u f.name (found-named b (is_absorbed_in p.lines) u f) line.0 line.2 (none-each (GivesNotAbsorbable b) p.lines kept line.0 line.1)
