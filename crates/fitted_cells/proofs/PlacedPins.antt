-- Placed units: each on a macrocell pin of its chip, no two on one.
use Rattle.std.proofs.Common.{ℕ, ◌≡◌, Bool, true, false, List, [], ◌∷◌, ◌++◌, Option, Some, None, refl, sym, ap, ◌∙◌, subst, inl, inr, eq-eqb}
use Rattle.std.specs.List.{list_any}
use Rattle.std.proofs.lemmas.Bool.{and_from}
use Rattle.std.proofs.lemmas.Option.{same_Some}
use Rattle.mig_base.specs.Among.{Among}
use Rattle.mig_base.specs.First.{or_else}
use Rattle.mig_base.specs.declared.nets.PinName.{PinName}
use Rattle.mig_base.specs.declared.plans.Plan.{Plan}
use Rattle.mig_base.specs.declared.plans.PlanChip.{PlanChip}
use Rattle.mig_base.specs.declared.plans.PlanLine.{PlanLine}
use Rattle.mig_base.specs.declared.plans.PlanLine.TheVariants.{Place, Absorb}
use Rattle.mig_base.specs.declared.plans.Breach.TheVariants as breach
use Rattle.mig_base.proofs.Amongs.{among-any}
use Rattle.mig_base.proofs.Distinct.{bytes-equal, same-refl, same-is}
use Rattle.board.specs.Joined.{Joined}
use Rattle.new_board.specs.NewChip.{when}
use Rattle.plans.specs.FirstOf.{Says, behind}
use Rattle.plans.specs.declared.placing.Placing.{Placing}
use Rattle.plans.specs.Placings.{same_pin, target_by, target_in, chip_named, placing_on, placing_at, placing_of}
use Rattle.plans.specs.LineBreaches.{takes_pin, pin_taken}
use Rattle.plans.specs.Breaches.{PinTaken, all_rules, RuleGives, HasNoBreach}
use Rattle.plans.proofs.Firsts.{none-each}
use Rattle.fit.proofs.UnitNames.{pins-equal}
use Rattle.fitted_cells.proofs.PlanRules.{fails, held, last-among}

-- what is known of a placed unit
pub record IsTarget (p : Plan) (name : PinName) (x : Placing) : Type 0 where
  pub target : PinName
  pub found : target_in p.lines name ≡ Some target
  pub chip : chip_named p.chips target.chip ≡ Some x.chip
  pub pin : x.pin ≡ target.pin

target-on : (p : Plan) (u : ℕ) (name t : PinName) (o : Option PlanChip) (x : Placing) → target_in p.lines name ≡ Some t → chip_named p.chips t.chip ≡ o → placing_on u name t.pin o ≡ Some x → IsTarget p name x
target-on p u name t None x e k h = cc
target-on p u name t (Some c) x e k h =
    let same : record { unit = u; name = name; chip = c; pin = t.pin } ≡ x = same_Some (record { unit = u; name = name; chip = c; pin = t.pin }) x h in
    record { target = t; found = e; chip = k ∙ ap (λ (y : Placing). Some y.chip) same; pin = sym (ap (λ (y : Placing). y.pin) same) }

target-at : (p : Plan) (u : ℕ) (name : PinName) (o : Option PinName) (x : Placing) → target_in p.lines name ≡ o → placing_at p.chips u name o ≡ Some x → IsTarget p name x
target-at p u name None x e h = cc
target-at p u name (Some t) x e h = target-on p u name t (chip_named p.chips t.chip) x e refl h

pub is-target : (p : Plan) (u : ℕ × PinName) (x : Placing) → placing_of p u ≡ Some x → IsTarget p u.1 x
is-target p u x e = target-at p u.0 u.1 (target_in p.lines u.1) x refl e

-- the line of a target
target-by : (name : PinName) (l : PlanLine) (t : PinName) → target_by name l ≡ Some t → (unit : PinName) × (l ≡ Place unit t.chip t.pin) × (same_pin unit name ≡ true)
target-by name (Absorb unit) t e = cc
target-by name (Place unit chip pin) t e = at (same_pin unit name) refl e
  where
    at : (q : Bool) → same_pin unit name ≡ q → when q (Some (record { chip = chip; pin = pin })) ≡ Some t → (v : PinName) × (Place unit chip pin ≡ Place v t.chip t.pin) × (same_pin v name ≡ true)
    at false is k = cc
    at true is k = (unit, ap (λ (q : PinName). Place unit q.chip q.pin) (same_Some (record { chip = chip; pin = pin }) t k), is)

pub target-line : (lines : List PlanLine) (name t : PinName) → target_in lines name ≡ Some t → (unit : PinName) × Among (Place unit t.chip t.pin) lines
target-line [] name t e = cc
target-line (l ∷ ls) name t e = at (target_by name l) refl e (target-line ls name t)
  where
    at : (o : Option PinName) → target_by name l ≡ o → or_else o (target_in ls name) ≡ Some t → (target_in ls name ≡ Some t → (unit : PinName) × Among (Place unit t.chip t.pin) ls) →
        (unit : PinName) × Among (Place unit t.chip t.pin) (l ∷ ls)
    at None is k more = let rest = more k in (rest.0, inr rest.1)
    at (Some s) is k more = let by = target-by name l t (is ∙ k) in (by.0, inl (sym by.1))

-- no line has the pin of one before it
abbrev pub NoneTaken : List PlanLine → List PlanLine → Type 0
NoneTaken before lines = (front : List PlanLine) (unit : PinName) (chip : List ℕ) (pin : ℕ) → Among (front, Place unit chip pin) (behind before lines) → list_any (takes_pin chip pin) front ≡ false

-- a line and a target behind it
behind-apart : (before ls : List PlanLine) (unit m t : PinName) → NoneTaken before (Place unit t.chip t.pin ∷ ls) → target_in ls m ≡ Some t → ⊥
behind-apart before ls unit m t none e =
    let line = target-line ls m t e in
    let there = held (before ++ Place unit t.chip t.pin ∷ []) ls (Place line.0 t.chip t.pin) line.1 in
    let takes : takes_pin t.chip t.pin (Place unit t.chip t.pin) ≡ true = and_from _ _ (same-refl bytes-equal t.chip) (eq-eqb t.pin t.pin refl) in
    let taken = among-any (takes_pin t.chip t.pin) (Place unit t.chip t.pin) there.0 (there.2 (Place unit t.chip t.pin) (last-among (Place unit t.chip t.pin) before)) takes in
    let wrong : true ≡ false = sym taken ∙ none there.0 line.0 t.chip t.pin (inr there.1) in
    cc

pub targets-apart : (before lines : List PlanLine) (n m t : PinName) → NoneTaken before lines → target_in lines n ≡ Some t → target_in lines m ≡ Some t → n ≡ m
targets-apart before [] n m t none e k = cc
targets-apart before (l ∷ ls) n m t none e k = at (target_by n l) (target_by m l) refl refl e k (targets-apart (before ++ l ∷ []) ls n m t (λ f u c q a. none f u c q (inr a)))
  where
    here : (o : PinName) (q : Option PinName) → target_by o l ≡ q → q ≡ Some t → (w : PinName) → target_in ls w ≡ Some t → ⊥
    here o q is e w k =
        let by = target-by o l t (is ∙ e) in
        behind-apart before ls by.0 w t (subst (λ (z : PlanLine). NoneTaken before (z ∷ ls)) by.1 none) k

    at : (o q : Option PinName) → target_by n l ≡ o → target_by m l ≡ q → or_else o (target_in ls n) ≡ Some t → or_else q (target_in ls m) ≡ Some t →
        (target_in ls n ≡ Some t → target_in ls m ≡ Some t → n ≡ m) → n ≡ m
    at None None is js e k rest = rest e k
    at None (Some s) is js e k rest = absurd (here m (Some s) js k n e)
    at (Some s) None is js e k rest = absurd (here n (Some s) is e m k)
    at (Some s) (Some r) is js e k rest =
        let a = target-by n l t (is ∙ e) in
        let c = target-by m l t (js ∙ k) in
        let same : a.0 ≡ c.0 = one a.0 c.0 t (sym a.1 ∙ c.1) in
        sym (same-is pins-equal a.0 n a.2) ∙ same ∙ same-is pins-equal c.0 m c.2
      where
        one : (u v t : PinName) → Place u t.chip t.pin ≡ Place v t.chip t.pin → u ≡ v
        one u v t e = cc

pub none-taken : (b : Joined) (p : Plan) → HasNoBreach b p → NoneTaken [] p.lines
none-taken b p none front unit chip pin a = fails (list_any (takes_pin chip pin) front) (breach.PinTaken unit pin)
    (λ y e. none-each (Says pin_taken) (behind [] p.lines) (none-each (RuleGives b p) all_rules none PinTaken (inr (inr (inr (inr (inr (inl refl))))))) (front, Place unit chip pin) a y e)
