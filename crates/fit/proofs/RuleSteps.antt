-- The rules on placed units, one behind the other.
use Rattle.std.proofs.Common.{◌≡◌, List, [], ◌∷◌, Option, Some, None, subst, inl, inr}
use Rattle.mig_base.specs.declared.plans.Plan.{Plan}
use Rattle.mig_base.specs.declared.plans.Breach.{Breach}
use Rattle.board.specs.Joined.{Joined}
use Rattle.plans.specs.FirstOf.{FirstOf, NoneOf, Gives, GivesFirst}
use Rattle.plans.specs.declared.placing.Placing.{Placing}
use Rattle.plans.specs.Placings.{placings, absorbed_units}
use Rattle.plans.specs.UnitBreaches.{GivesConeWide, GivesPrimesOver, GivesReset, GivesEnable, GivesTermsOver}
use Rattle.plans.specs.Breaches.{Rule, ConeWide, PrimesOver, WrongReset, WrongEnable, TermsOver, RuleGives}
use Rattle.plan_lines.proofs.FirstSteps.{first-next, first-append, first-of-front, gives-map}
use Rattle.fit.specs.declared.places.PlaceRule.{PlaceRule}
use Rattle.fit.specs.declared.places.PlaceRule.TheVariants as place
use Rattle.fit.specs.declared.breaks.PartRule.{PartRule}
use Rattle.fit.specs.declared.breaks.PartRule.TheVariants as part
use Rattle.fit.specs.UnitAnswers.{place_rules, part_rules, unit_rules}
use Rattle.fit.specs.RuleLists.{rule_of_place, rule_of_part, PlaceGives, PartGives}

-- what a rule gives that asks for no part
abbrev pub ByPlace : Joined → Plan → PlaceRule → Breach → Type 0
ByPlace b p r x = RuleGives b p (rule_of_place r) x

-- what a rule on parts gives
abbrev pub ByPart : Joined → Plan → PartRule → Breach → Type 0
ByPart b p r x = RuleGives b p (rule_of_part r) x

place-on : (b : Joined) (p : Plan) (r : PlaceRule) (o : Option Breach) → GivesFirst (PlaceGives b p r) (placings b p) o → Gives (ByPlace b p) r o
place-on b p place.WrongMode None h = h
place-on b p place.WrongMode (Some x) h = h
place-on b p place.WrongClock None h = h
place-on b p place.WrongClock (Some x) h = h
place-on b p place.WrongPhase None h = h
place-on b p place.WrongPhase (Some x) h = h

-- the first placed unit that breaks it
pub place-first : (b : Joined) (p : Plan) (units : List Placing) (r : PlaceRule) (o : Option Breach) → units ≡ placings b p → GivesFirst (PlaceGives b p r) units o → Gives (ByPlace b p) r o
place-first b p units r o e h = place-on b p r o (subst (λ (us : List Placing). GivesFirst (PlaceGives b p r) us o) e h)

part-on : (b : Joined) (p : Plan) (r : PartRule) (o : Option Breach) → GivesFirst (PartGives b p r) (placings b p) o → Gives (ByPart b p) r o
part-on b p part.ConeWide None h = h
part-on b p part.ConeWide (Some x) h = h
part-on b p part.PrimesOver None h = h
part-on b p part.PrimesOver (Some x) h = h
part-on b p part.WrongReset None h = h
part-on b p part.WrongReset (Some x) h = h
part-on b p part.WrongEnable None h = h
part-on b p part.WrongEnable (Some x) h = h

pub part-first : (b : Joined) (p : Plan) (units : List Placing) (r : PartRule) (o : Option Breach) → units ≡ placings b p → GivesFirst (PartGives b p r) units o → Gives (ByPart b p) r o
part-first b p units r o e h = part-on b p r o (subst (λ (us : List Placing). GivesFirst (PartGives b p r) us o) e h)

abbrev pub places : List PlaceRule
places = place.WrongMode ∷ place.WrongClock ∷ place.WrongPhase ∷ []

abbrev pub parts : List PartRule
parts = part.ConeWide ∷ part.PrimesOver ∷ part.WrongReset ∷ part.WrongEnable ∷ []

abbrev first_parts : List Rule
first_parts = ConeWide ∷ PrimesOver ∷ WrongReset ∷ WrongEnable ∷ []

pub places-give : (b : Joined) (p : Plan) (o : Option Breach) → GivesFirst (ByPlace b p) places o → GivesFirst (RuleGives b p) place_rules o
places-give b p o h = gives-map rule_of_place (RuleGives b p) places o h

-- a part that breaks a rule before the last
pub parts-give : (b : Joined) (p : Plan) (x : Breach) → FirstOf (ByPart b p) parts x → FirstOf (RuleGives b p) part_rules x
parts-give b p x h = first-of-front (RuleGives b p) first_parts (TermsOver ∷ []) x (gives-map rule_of_part (RuleGives b p) parts (Some x) h)

last-rule : (b : Joined) (p : Plan) (o : Option Breach) → GivesFirst (GivesTermsOver b (absorbed_units b p)) (placings b p) o → GivesFirst (RuleGives b p) (TermsOver ∷ []) o
last-rule b p None h = first-next (RuleGives b p) TermsOver [] h None (λ x k. k)
last-rule b p (Some x) h = inl h

-- where none does, terms are left
pub terms-left : (b : Joined) (p : Plan) (units : List Placing) (o : Option Breach) → units ≡ placings b p → NoneOf (ByPart b p) parts → GivesFirst (GivesTermsOver b (absorbed_units b p)) units o → GivesFirst (RuleGives b p) part_rules o
terms-left b p units o e none h =
    first-append (RuleGives b p) first_parts (TermsOver ∷ []) (gives-map rule_of_part (RuleGives b p) parts None none) o
    (last-rule b p o (subst (λ (us : List Placing). GivesFirst (GivesTermsOver b (absorbed_units b p)) us o) e h))

-- no cover has too many primes then
pub none-over : (b : Joined) (p : Plan) → NoneOf (ByPart b p) parts → (y : Breach) → RuleGives b p PrimesOver y → ⊥
none-over b p none y h = none y (inr ((λ z g. none z (inl g)), inl h))

-- both lists of rules

pub place-breaks : (b : Joined) (p : Plan) (x : Breach) → FirstOf (RuleGives b p) place_rules x → FirstOf (RuleGives b p) unit_rules x
place-breaks b p x h = first-of-front (RuleGives b p) place_rules part_rules x h

pub part-breaks : (b : Joined) (p : Plan) (o : Option Breach) → NoneOf (RuleGives b p) place_rules → GivesFirst (RuleGives b p) part_rules o → GivesFirst (RuleGives b p) unit_rules o
part-breaks b p o none h = first-append (RuleGives b p) place_rules part_rules none o h

-- what a unit gives by a rule on parts

pub by-wide : (b : Joined) (p : Plan) (x : Placing) (o : Option Breach) → Gives (GivesConeWide b (absorbed_units b p)) x o → Gives (PartGives b p part.ConeWide) x o
by-wide b p x None h = h
by-wide b p x (Some y) h = h

pub by-over : (b : Joined) (p : Plan) (x : Placing) (o : Option Breach) → Gives (GivesPrimesOver b (absorbed_units b p)) x o → Gives (PartGives b p part.PrimesOver) x o
by-over b p x None h = h
by-over b p x (Some y) h = h

pub by-reset : (b : Joined) (p : Plan) (x : Placing) (o : Option Breach) → Gives (GivesReset b p) x o → Gives (PartGives b p part.WrongReset) x o
by-reset b p x None h = h
by-reset b p x (Some y) h = h

pub by-enable : (b : Joined) (p : Plan) (x : Placing) (o : Option Breach) → Gives (GivesEnable b p) x o → Gives (PartGives b p part.WrongEnable) x o
by-enable b p x None h = h
by-enable b p x (Some y) h = h
