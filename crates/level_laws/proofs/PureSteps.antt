-- Steps and runs from power-up leave pure nodes at 0 or 1.
use Rattle.std.proofs.Common.{ℕ, zero, suc, ◌≡◌, Bool, true, false, List, [], ◌∷◌, length, Option, Some, None, refl, sym, ap, ◌∙◌, subst}
use Rattle.std.specs.Prelude.{slice_get, if◌then◌else◌, IfSome}
use Rattle.std.specs.List.{AllByRecursion, list_all}
use Rattle.std.proofs.lemmas.Bool.{and_parts}
use Rattle.std.proofs.lemmas.List.{get_or-replicate}
use Rattle.std.proofs.lemmas.Option.{slice_get_within}
use Rattle.mig_base.specs.declared.levels.Level.{Level}
use Rattle.mig_base.specs.declared.levels.Level.TheVariants.{Zero, X}
use Rattle.mig_base.specs.declared.circuit.Read.{Read}
use Rattle.mig_base.specs.declared.circuit.Read.TheVariants.{OfNet, OfRegister}
use Rattle.mig_base.specs.declared.circuit.Register.{Register}
use Rattle.mig_base.specs.declared.circuit.Circuit.{Circuit}
use Rattle.mig_base.specs.declared.circuit.Levels.{Levels}
use Rattle.mig_base.specs.Accepted.{IsAccepted}
use Rattle.mig_base.specs.Levels.{level_at, or_x}
use Rattle.mig_base.specs.Reads.{edge_reads}
use Rattle.level_laws.specs.Runs.{IsRunFrom, IsStep, next_stored, power_up, rises, shown_levels, taken}
use Rattle.level_laws.specs.SameBehaviour.{IsBit, IsLawful}
use Rattle.level_laws.proofs.Unique.{level_at-map}
use Rattle.structure.specs.Pure.{register_rule, IsPureSet}
use Rattle.level_laws.specs.PureLevels.{DriversAreUnits, HasPureLevels, HasPureStored, IsPureAfter, LeadsTo, ShowsPure}
use Rattle.level_laws.proofs.PureBits.{IsBitAt, taken-bit}
use Rattle.level_laws.proofs.PureNodes.{settled-pure}

next-bit : (c : Circuit) (l : Levels) (before now : List Level) (rs : List Register) (qs : List Level) (k : ℕ) (r : Register) → slice_get rs k ≡ Some r → IsBit (taken l r) → IsBit (level_at qs k) →
    IsBit (level_at (next_stored c l before now rs qs) k)
next-bit c l before now [] qs k r e new old = cc
next-bit c l before now (p ∷ rs) [] k r e new old = absurd old
next-bit c l before now (p ∷ rs) (q ∷ qs) zero r e new old = at (rises c before now p.clock)
  where
    same : (a b : Register) → Some a ≡ Some b → a ≡ b
    same a b e = cc

    at : (b : Bool) → IsBit (if b then taken l p else q)
    at true = subst (λ (s : Register). IsBit (taken l s)) (sym (same p r e)) new
    at false = old
next-bit c l before now (p ∷ rs) (q ∷ qs) (suc k) r e new old = next-bit c l before now rs qs k r e new old

all-pure : (c : Circuit) (set : Read → Bool) (l : Levels) → IsPureSet c set → HasPureLevels c l → (vs : List Read) → list_all set vs ≡ true → AllByRecursion (IsBitAt l) vs
all-pure c set l keeps pure [] e = tt
all-pure c set l keeps pure (v ∷ vs) e =
    let parts = and_parts (set v) (list_all set vs) e in
    (pure v (set, keeps, parts.0), all-pure c set l keeps pure vs parts.1)

-- what registers store next
next-pure : (c : Circuit) (l : Levels) (before now : List Level) → HasPureLevels c l → HasPureStored c (next_stored c l before now c.registers l.visible)
next-pure c l before now levels k pure = at (slice_get c.registers k) refl (pure.1 (OfRegister k) pure.2)
  where
    at : (o : Option Register) → slice_get c.registers k ≡ o → register_rule pure.0 o ≡ true → IsBit (level_at (next_stored c l before now c.registers l.visible) k)
    at None e rule = cc
    at (Some r) e rule = next-bit c l before now c.registers l.visible k r e (taken-bit l r (all-pure c pure.0 l pure.1 levels (edge_reads r) rule)) (levels (OfRegister k) pure)

pub step-pure : (c : Circuit) (stored : List Level) (last : Option (List Level)) (inputs now : List Level) → IsAccepted c → DriversAreUnits c → HasPureStored c stored →
    IfSome last (IsLawful c) → IsStep c stored last inputs now → HasPureStored c now
step-pure c stored None inputs now accepted units pure lawful step = subst (HasPureStored c) (sym step) pure
step-pure c stored (Some last) inputs now accepted units pure lawful step =
    subst (HasPureStored c) (sym step.2) (next-pure c step.0 last inputs (settled-pure c stored last step.0 accepted units pure lawful step.1))

pub start-pure : (c : Circuit) → HasPureStored c (power_up c)
start-pure c k pure = at (slice_get c.registers k) refl (pure.1 (OfRegister k) pure.2)
  where
    at : (o : Option Register) → slice_get c.registers k ≡ o → register_rule pure.0 o ≡ true → IsBit (level_at (power_up c) k)
    at None e rule = cc
    at (Some r) e rule =
        subst IsBit (sym (get_or-replicate (length c.registers) k Zero X (slice_get_within c.registers k r e))) tt

reach-pure : (c : Circuit) → IsAccepted c → DriversAreUnits c → (inputs : List (List Level)) (stored : List Level) (last : Option (List Level)) (now : List Level) (after : Option (List Level)) →
    HasPureStored c stored → IfSome last (IsLawful c) → AllByRecursion (IsLawful c) inputs → LeadsTo c stored last inputs now after → IsPureAfter c now after
reach-pure c accepted units [] stored last now after pure lawful given reach =
    let stored_pure : HasPureStored c now = subst (HasPureStored c) (sym reach.0) pure in record {
      stored_levels = stored_pure;
      levels = λ inputs l is settled.
          let under : IfSome (Some inputs) (IsLawful c) = subst (λ (o : Option (List Level)). IfSome o (IsLawful c)) (sym reach.1 ∙ is) lawful in
          settled-pure c now inputs l accepted units stored_pure under settled;
    }
reach-pure c accepted units (inputs ∷ rest) stored last now after pure lawful given reach =
    reach-pure c accepted units rest reach.0 (Some inputs) now after (step-pure c stored last inputs reach.0 accepted units pure lawful reach.1) given.0 given.1 reach.2

pub reached-pure : (c : Circuit) (inputs : List (List Level)) (stored : List Level) (last : Option (List Level)) → IsAccepted c → DriversAreUnits c → AllByRecursion (IsLawful c) inputs →
    LeadsTo c (power_up c) None inputs stored last → IsPureAfter c stored last
reached-pure c inputs stored last accepted units lawful reach = reach-pure c accepted units inputs (power_up c) None stored last (start-pure c) tt lawful reach

shown-pure : (c : Circuit) (l : Levels) → HasPureLevels c l → ShowsPure c (shown_levels c l)
shown-pure c l pure i n is node =
    subst IsBit (sym (level_at-map (level_at l.nets) c.ports i ∙ ap (or_x (level_at l.nets)) is)) (pure (OfNet n) node)

run-pure : (c : Circuit) → IsAccepted c → DriversAreUnits c → (inputs showns : List (List Level)) (stored : List Level) (last : Option (List Level)) →
    HasPureStored c stored → IfSome last (IsLawful c) → AllByRecursion (IsLawful c) inputs → IsRunFrom c stored last inputs showns → AllByRecursion (ShowsPure c) showns
run-pure c accepted units [] [] stored last pure lawful given run = tt
run-pure c accepted units [] (shown ∷ showns) stored last pure lawful given run = absurd run
run-pure c accepted units (inputs ∷ rest) [] stored last pure lawful given run = absurd run
run-pure c accepted units (inputs ∷ rest) (shown ∷ showns) stored last pure lawful given run =
    let next : HasPureStored c run.0 = step-pure c stored last inputs run.0 accepted units pure lawful run.2 in
    let levels : HasPureLevels c run.1 = settled-pure c run.0 inputs run.1 accepted units next given.0 run.3 in (
      subst (ShowsPure c) (sym run.4) (shown-pure c run.1 levels),
      run-pure c accepted units rest showns run.0 (Some inputs) next given.0 given.1 run.5,
    )

pub runs-pure : (c : Circuit) (inputs showns : List (List Level)) → IsAccepted c → DriversAreUnits c → AllByRecursion (IsLawful c) inputs →
    IsRunFrom c (power_up c) None inputs showns → AllByRecursion (ShowsPure c) showns
runs-pure c inputs showns accepted units lawful run = run-pure c accepted units inputs showns (power_up c) None (start-pure c) tt lawful run
