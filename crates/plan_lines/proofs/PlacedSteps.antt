-- One more unit that is placed or absorbed.
use Rattle.std.proofs.Common.{ℕ, ◌≡◌, ◌+◌, ◌<◌, ◌≤◌, Bool, cond, List, [], ◌∷◌, ◌++◌, length, drop, get_or, Option, Some, None, refl, sym, ap, ◌∙◌, arith, append_assoc}
use Rattle.std.specs.List.{filter_map, cons_option}
use Rattle.std.proofs.lemmas.List.{drop_more, drop_all, append-nil}
use Rattle.mig_base.specs.declared.nets.PinName.{PinName}
use Rattle.mig_base.specs.declared.plans.Plan.{Plan}
use Rattle.mig_base.specs.declared.plans.PlanLine.{PlanLine}
use Rattle.mig_base.specs.Boards.{places_from}
use Rattle.board.specs.declared.Unit.{Unit as NamedUnit}
use Rattle.board.specs.Joined.{Joined}
use Rattle.board.specs.UnitLists.{units_on}
use Rattle.plans.specs.declared.placing.Placing.{Placing}
use Rattle.plans.specs.Placings.{placing_of, placings, numbered_units, unit_names, is_absorbed_in}
use Rattle.plan_lines.proofs.Names.{length-units-named, length-names, unit-at, name-at}

put : {T : Type 0} (o : Option T) (xs : List T) → cons_option o [] ++ xs ≡ cons_option o xs
put None xs = refl
put (Some x) xs = refl

kept-step : {S T : Type 0} (f : S → Option T) (ss : List S) (i : ℕ) (s : S) (o : Option T) (before after all : List T) → i < length ss → s ≡ get_or ss i s → o ≡ f s → after ≡ before ++ cons_option o [] →
    before ++ filter_map f (drop i ss) ≡ all → after ++ filter_map f (drop (i + 1) ss) ≡ all
kept-step {S} {T} f ss i s o before after all lt is e k h =
    ap (λ (xs : List T). xs ++ filter_map f (drop (i + 1) ss)) k ∙ append_assoc before (cons_option o []) (filter_map f (drop (i + 1) ss))
    ∙ ap (λ (xs : List T). before ++ xs) (put o (filter_map f (drop (i + 1) ss)) ∙ ap (λ (p : Option T). cons_option p (filter_map f (drop (i + 1) ss))) (e ∙ ap f is) ∙ ap (filter_map f) (sym (drop_more ss i s lt))) ∙ h

pub placed-more : (b : Joined) (p : Plan) (units : List NamedUnit) (i : ℕ) (unit : NamedUnit) (o : Option Placing) (before after : List Placing) → units ≡ units_on b.net b.chips → i < length units → unit ≡ get_or units i unit →
    o ≡ placing_of p (i, unit.name) → after ≡ before ++ cons_option o [] → before ++ filter_map (placing_of p) (drop i (numbered_units b)) ≡ placings b p →
    after ++ filter_map (placing_of p) (drop (i + 1) (numbered_units b)) ≡ placings b p
placed-more b p units i unit o before after e lt is k a h =
    let long : length (numbered_units b) ≡ length units = length-units-named b units e in
    kept-step (placing_of p) (numbered_units b) i (i, unit.name) o before after (placings b p) (omega arith) (unit-at b units i unit e lt is) k a h

pub placed-all : (b : Joined) (p : Plan) (units : List NamedUnit) (i : ℕ) (placed : List Placing) → units ≡ units_on b.net b.chips → length units ≤ i → placed ++ filter_map (placing_of p) (drop i (numbered_units b)) ≡ placings b p → placed ≡ placings b p
placed-all b p units i placed e done h =
    let long : length (numbered_units b) ≡ length units = length-units-named b units e in
    sym (append-nil placed) ∙ ap (λ (us : List (ℕ × PinName)). placed ++ filter_map (placing_of p) us) (sym (drop_all i (numbered_units b) (omega arith))) ∙ h

pub absorbed-more : (b : Joined) (lines : List PlanLine) (units : List NamedUnit) (i : ℕ) (unit : NamedUnit) (t : Bool) (before after all : List ℕ) → units ≡ units_on b.net b.chips → i < length units → unit ≡ get_or units i unit →
    t ≡ is_absorbed_in lines unit.name → after ≡ before ++ cond t (i ∷ []) [] → before ++ places_from (is_absorbed_in lines) i (drop i (unit_names b)) ≡ all →
    after ++ places_from (is_absorbed_in lines) (i + 1) (drop (i + 1) (unit_names b)) ≡ all
absorbed-more b lines units i unit t before after all e lt is k a h =
    let long : length (unit_names b) ≡ length units = length-names b units e in
    let rest = places_from (is_absorbed_in lines) (i + 1) (drop (i + 1) (unit_names b)) in
    ap (λ (xs : List ℕ). xs ++ rest) a ∙ append_assoc before (cond t (i ∷ []) []) rest
    ∙ ap (λ (u : Bool). before ++ (cond u (i ∷ []) [] ++ rest)) (k ∙ ap (is_absorbed_in lines) (name-at b units i unit e lt is))
    ∙ ap (λ (ns : List PinName). before ++ places_from (is_absorbed_in lines) i ns) (sym (drop_more (unit_names b) i unit.name (omega arith))) ∙ h

pub absorbed-all : (b : Joined) (lines : List PlanLine) (units : List NamedUnit) (i : ℕ) (numbers all : List ℕ) → units ≡ units_on b.net b.chips → length units ≤ i → numbers ++ places_from (is_absorbed_in lines) i (drop i (unit_names b)) ≡ all → numbers ≡ all
absorbed-all b lines units i numbers all e done h =
    let long : length (unit_names b) ≡ length units = length-names b units e in
    sym (append-nil numbers) ∙ ap (λ (ns : List PinName). numbers ++ places_from (is_absorbed_in lines) i ns) (sym (drop_all i (unit_names b) (omega arith))) ∙ h
