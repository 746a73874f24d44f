-- The table of absorbed nets.
use Rattle.std.proofs.Common.{ℕ, zero, suc, ◌≡◌, ◌⊎◌, ◌<◌, ◌+◌, Bool, true, false, List, [], ◌∷◌, ◌++◌, length, replicate, take, Option, Some, None, refl, sym, ap, ◌∙◌, subst, inl, inr, arith, zero-add}
use Rattle.std.specs.Prelude.{slice_get, if◌then◌else◌}
use Rattle.std.proofs.Math.ListN.{get_or, set}
use Rattle.std.proofs.lemmas.List.{length-map, length-replicate, length-set, get_or-set_same, take_more}
use Rattle.std.proofs.lemmas.Option.{slice_get_within, same_Some}
use Rattle.mig_base.specs.Among.{Among}
use Rattle.mig_base.specs.Boards.{ChipUnit, driver_of, drives, kinds_of, places_from, units_from, wires_from}
use Rattle.mig_base.specs.First.{made_from}
use Rattle.mig_base.specs.declared.circuit.NetKind.{NetKind}
use Rattle.mig_base.specs.declared.circuit.Wire.{Wire}
use Rattle.mig_base.specs.declared.nets.Net.{Net as Wiring}
use Rattle.mig_base.specs.declared.nets.Pull.{Pull}
use Rattle.mig_base.specs.declared.nets.Var.TheVariants.{Net}
use Rattle.mig_base.proofs.Amongs.{among-left, among-right}
use Rattle.mig_base.proofs.PlaceLaws.{places-within}
use Rattle.mig_base.proofs.ListLaws.{length-made_from, item-at}
use Rattle.structure.proofs.NeededNodes.{among-last, flag-kept, flag-raised}
use Rattle.structure.proofs.Wakings.{flag-within}
use Rattle.board.specs.Enables.{drivers_of}
use Rattle.board.specs.Joined.{Joined, equations_of}
use Rattle.joiner.specs.AbsorbedNets.{AreAbsorbedNets, AreListed, sole_listed}
use Rattle.joiner.specs.declared.marks.Marks.{Marks}
use Rattle.joiner.specs.Joined.{IsAbsorbed}
use Rattle.joiner.specs.Marked.{AreNeededNets, marked, needed_at, unit_at}
use Rattle.joiner.proofs.Passing.{at-entry, entry-at}
use Rattle.joiner.proofs.Marking.{flag-none}

-- no unit is listed
pub listed-first : (units : ℕ) → AreListed units [] (replicate units false)
listed-first units = record { long = length-replicate units false; each = λ u within. (λ e. flag-none units u e, λ a. absurd a) }

-- one more listed unit
pub listed-more : (units : ℕ) (absorbed : List ℕ) (i : ℕ) (flags new : List Bool) → i < length absorbed → AreListed units (take i absorbed) flags →
    new ≡ set flags (get_or absorbed i 0) true → AreListed units (take (i + 1) absorbed) new
listed-more units absorbed i flags new within are is = subst (AreListed units (take (i + 1) absorbed)) (sym is) (record {
  long = length-set flags w true ∙ are.long;
  each = λ u inside. (λ e. subst (Among u) (sym more) (there u inside (flag-raised flags w u e)), λ a. back u inside (among-last u w (take i absorbed) (subst (Among u) more a)));
})
  where
    w : ℕ
    w = get_or absorbed i 0

    more : take (i + 1) absorbed ≡ take i absorbed ++ w ∷ []
    more = take_more absorbed i 0 within

    there : (u : ℕ) → u < units → (get_or flags u false ≡ true) ⊎ (u ≡ w) → Among u (take i absorbed ++ w ∷ [])
    there u inside (inl h) = among-left u (take i absorbed) (w ∷ []) ((are.each u inside).0 h)
    there u inside (inr e) = among-right u (take i absorbed) (w ∷ []) (inl e)

    back : (u : ℕ) → u < units → Among u (take i absorbed) ⊎ (u ≡ w) → get_or (set flags w true) u false ≡ true
    back u inside (inl a) = flag-kept flags w u ((are.each u inside).1 a)
    back u inside (inr e) = subst (λ (v : ℕ). get_or (set flags v true) u false ≡ true) e (get_or-set_same flags u true false (omega (arith, are.long)))

wire-drivers : (net : Wiring) (units : List ChipUnit) (first : ℕ) (kinds : List (NetKind × Pull)) (n : ℕ) (w : Wire) → slice_get (wires_from net units first kinds) n ≡ Some w →
    (m : ℕ) × (w.drivers ≡ places_from (drives net units m) 0 units)
wire-drivers net units first [] n w e = cc
wire-drivers net units first (k ∷ ks) zero w e = (first, ap (λ (o : Option Wire). drivers_of o) (sym e))
wire-drivers net units first (k ∷ ks) (suc n) w e = wire-drivers net units (first + 1) ks n w e

driver-within : (b : Joined) (n u : ℕ) (w : Wire) → slice_get (equations_of b).nets n ≡ Some w → Among u w.drivers → u < length (equations_of b).units
driver-within b n u w e a =
    let units : List ChipUnit = units_from 0 b.chips in
    let m = wire-drivers b.net units 0 (kinds_of b.net) n w e in
    let within : u < 0 + length units = places-within (drives b.net units m.0) 0 units u (subst (Among u) m.1 a) in
    let long : length (equations_of b).units ≡ length units = length-map units (driver_of b.net units) in
    omega arith

-- a place of a list that is made from numbers
get-made : {T : Type 0} (f : ℕ → T) (first n i : ℕ) → i < n → slice_get (made_from f first n) i ≡ Some (f (first + i))
get-made f first zero i h = absurd (omega arith)
get-made f first (suc n) zero h = let e : first ≡ first + 0 = omega arith in ap (λ (k : ℕ). Some (f k)) e
get-made f first (suc n) (suc i) h = let e : first + 1 + i ≡ first + suc i = omega arith in get-made f (first + 1) n i (omega arith) ∙ ap (λ (k : ℕ). Some (f k)) e

made-at : {T : Type 0} (f : ℕ → T) (n i : ℕ) → i < n → slice_get (made_from f 0 n) i ≡ Some (f i)
made-at f n i h = get-made f 0 n i h ∙ ap (λ (k : ℕ). Some (f k)) (zero-add i)

sole-is : (flags : List Bool) (us : List ℕ) (u : ℕ) → sole_listed flags us ≡ Some u → (us ≡ u ∷ []) × (get_or flags u false ≡ true)
sole-is flags [] u e = cc
sole-is flags (w ∷ []) u e = at (get_or flags w false) refl e
  where
    at : (q : Bool) → get_or flags w false ≡ q → (if q then Some w else None) ≡ Some u → (w ∷ [] ≡ u ∷ []) × (get_or flags u false ≡ true)
    at true is h = let same : w ≡ u = same_Some w u h in (ap (λ (v : ℕ). v ∷ []) same, subst (λ (v : ℕ). get_or flags v false ≡ true) same is)
    at false is h = cc
sole-is flags (w ∷ v ∷ us) u e = cc

pub nets-absorbed : (b : Joined) (absorbed : List ℕ) (flags : List Bool) (nets : List (Option ℕ)) → AreListed (length (equations_of b).units) absorbed flags →
    nets ≡ made_from (λ n. sole_listed flags (drivers_of (slice_get (equations_of b).nets n))) 0 (length (equations_of b).nets) → AreAbsorbedNets b absorbed nets
nets-absorbed b absorbed flags nets are is = subst (AreAbsorbedNets b absorbed) (sym is) (record { long = length-made_from entry 0 many; each = λ n u. (there n u, back n u) })
  where
    many : ℕ
    many = length (equations_of b).nets

    entry : ℕ → Option ℕ
    entry n = sole_listed flags (drivers_of (slice_get (equations_of b).nets n))

    there : (n u : ℕ) → slice_get (made_from entry 0 many) n ≡ Some (Some u) → IsAbsorbed b absorbed n u
    there n u e =
        let within : n < many = omega (arith, slice_get_within (made_from entry 0 many) n (Some u) e, length-made_from entry 0 many) in
        let at : entry n ≡ Some u = same_Some (entry n) (Some u) (sym (made-at entry many n within) ∙ e) in
        let wire = item-at (equations_of b).nets n within in
        let sole = sole-is flags (drivers_of (slice_get (equations_of b).nets n)) u at in
        let inside : u < length (equations_of b).units = omega (arith, flag-within flags u sole.1, are.long) in
        record { wire = wire.0; on = wire.1; alone = sym (ap drivers_of wire.1) ∙ sole.0; listed = (are.each u inside).0 sole.1 }

    back : (n u : ℕ) → IsAbsorbed b absorbed n u → slice_get (made_from entry 0 many) n ≡ Some (Some u)
    back n u a =
        let within : n < many = slice_get_within (equations_of b).nets n a.wire a.on in
        let inside : u < length (equations_of b).units = driver-within b n u a.wire a.on (subst (Among u) (sym a.alone) (inl refl)) in
        let flag : get_or flags u false ≡ true = (are.each u inside).1 a.listed in
        let drivers : drivers_of (slice_get (equations_of b).nets n) ≡ u ∷ [] = ap drivers_of a.on ∙ a.alone in
        let at : entry n ≡ Some u = ap (sole_listed flags) drivers ∙ ap (λ (q : Bool). if q then Some u else None) flag in
        made-at entry many n within ∙ ap Some at

-- the table without those nets that are not marked
pub nets-needed : (b : Joined) (absorbed : List ℕ) (m : Marks) (nets needed : List (Option ℕ)) → AreAbsorbedNets b absorbed nets →
    needed ≡ made_from (needed_at nets m) 0 (length (equations_of b).nets) → AreNeededNets b absorbed m needed
nets-needed b absorbed m nets needed are is = subst (AreNeededNets b absorbed m) (sym is) (record { sound = sound; every = every })
  where
    many : ℕ
    many = length (equations_of b).nets

    table : List (Option ℕ)
    table = made_from (needed_at nets m) 0 many

    of_marked : (n u : ℕ) (q : Bool) → (if q then unit_at nets n else None) ≡ Some u → unit_at nets n ≡ Some u
    of_marked n u true e = e
    of_marked n u false e = cc

    sound : (n u : ℕ) → unit_at table n ≡ Some u → IsAbsorbed b absorbed n u
    sound n u e =
        let entry : slice_get table n ≡ Some (Some u) = entry-at table n u e in
        let within : n < many = omega (arith, slice_get_within table n (Some u) entry, length-made_from (needed_at nets m) 0 many) in
        let at : needed_at nets m n ≡ Some u = same_Some (needed_at nets m n) (Some u) (sym (made-at (needed_at nets m) many n within) ∙ entry) in
        (are.each n u).0 (entry-at nets n u (of_marked n u (marked m (Net n)) at))

    every : (n u : ℕ) → IsAbsorbed b absorbed n u → marked m (Net n) ≡ true → unit_at table n ≡ Some u
    every n u a mark =
        let within : n < many = slice_get_within (equations_of b).nets n a.wire a.on in
        let at : needed_at nets m n ≡ Some u = ap (λ (q : Bool). if q then unit_at nets n else None) mark ∙ at-entry nets n u ((are.each n u).1 a) in
        at-entry table n u (made-at (needed_at nets m) many n within ∙ ap Some at)
