-- Settled levels and steps of a board leave pure nodes at 0 or 1.
use Rattle.std.proofs.Common.{◌≡◌, Bool, true, false, List, length, Option, Some, None, Result, Ok, Err, refl, sym, ap, ◌∙◌, subst}
use Rattle.std.specs.Prelude.{IfOk, IfSome, if◌then◌else◌}
use Rattle.mig_base.specs.declared.levels.Level.{Level}
use Rattle.mig_base.specs.declared.circuit.Circuit.{Circuit}
use Rattle.mig_base.specs.declared.circuit.Levels.{Levels}
use Rattle.mig_base.specs.Accepted.{IsAccepted}
use Rattle.level_laws.specs.Settled.{IsSettled}
use Rattle.level_laws.specs.Runs.{IsStep, power_up}
use Rattle.level_laws.specs.SameBehaviour.{IsLawful}
use Rattle.level_laws.specs.PureLevels.{HasPureStored, HasPureLevels}
use Rattle.level_laws.proofs.PureNodes.{settled-pure}
use Rattle.level_laws.proofs.PureSteps.{step-pure, start-pure}
use Rattle.level_laws.proofs.DriverUnits.{drivers-units}
use Rattle.settle.specs.declared.config.Config.{Config}
use Rattle.mig_base.specs.declared.levels.Level.TheVariants.{Zero, X}
use Rattle.settle.specs.Configs.{IsMadeFor, last_of}
use Rattle.settle.specs.Rules.{unknown_levels}
use Rattle.settle.specs.Made.{AreKnown, IsConfigFor, IsPureConfig}
use Rattle.settle.proofs.Known.{known-same, none-given}
use Rattle.board.specs.Joined.{Joined, equations_of}

-- levels that settle on a board
pub board-settles : (b : Joined) (stored inputs : List Level) (l : Levels) → IsAccepted (equations_of b) → IsLawful (equations_of b) inputs →
    IsSettled (equations_of b) stored inputs l → HasPureStored (equations_of b) stored → HasPureLevels (equations_of b) l
board-settles b stored inputs l accepted lawful settled pure =
    settled-pure (equations_of b) stored inputs l accepted (drivers-units b.net b.chips) pure lawful settled

-- the last inputs of a configuration, where there are any
last-lawful : (c : Circuit) (config : Config) → IsConfigFor c config → IfSome (last_of config) (IsLawful c)
last-lawful c config is = at config.stepped is.lawful
  where
    at : (b : Bool) → (b ≡ true → IsLawful c config.last) → IfSome (if b then Some config.last else None) (IsLawful c)
    at true h = h refl
    at false h = tt

-- a step of a board
pub board-steps : (b : Joined) (old new : Config) (inputs : List Level) → IsAccepted (equations_of b) → IsConfigFor (equations_of b) old → IsLawful (equations_of b) inputs →
    IsStep (equations_of b) old.stored (last_of old) inputs new.stored → IsSettled (equations_of b) new.stored inputs new.levels →
    HasPureStored (equations_of b) old.stored → IsPureConfig (equations_of b) new
board-steps b old new inputs accepted is lawful step settled pure =
    let next : HasPureStored (equations_of b) new.stored =
    step-pure (equations_of b) old.stored (last_of old) inputs new.stored accepted (drivers-units b.net b.chips) pure (last-lawful (equations_of b) old is) step in
    record { stored = next; levels = λ stepped. board-settles b new.stored inputs new.levels accepted lawful settled next }

-- a board at power-up
board-starts : (c : Circuit) (config : Config) → config.stored ≡ power_up c → last_of config ≡ None → IsPureConfig c config
board-starts c config stored last = record {
  stored = subst (HasPureStored c) (sym stored) (start-pure c);
  levels = λ stepped. absurd (none-given config last stepped);
}

pub started : {E : Type 0} (board c : Circuit) (r : Result Config E) → board ≡ c → IfOk r (λ (config : Config). config.stored ≡ power_up board) →
    IfOk r (λ (config : Config). last_of config ≡ None) → IfOk r (IsPureConfig c)
started board c (Ok config) same stored last = board-starts c config (stored ∙ ap power_up same) last
started board c (Err e) same stored last = tt

-- the same settled levels and steps, of equal boards and levels
pub same-settled : (a b : Circuit) (stored levels given inputs : List Level) (l : Levels) → a ≡ b → levels ≡ stored → given ≡ inputs → IsSettled a levels given l → IsSettled b stored inputs l
same-settled a b stored levels given inputs l board is same settled =
    subst (λ (q : List Level). IsSettled b stored q l) same (subst (λ (q : List Level). IsSettled b q given l) is (subst (λ (q : Circuit). IsSettled q levels given l) board settled))

pub same-step : (a b : Circuit) (stored : List Level) (last : Option (List Level)) (given inputs now : List Level) → a ≡ b → given ≡ inputs → IsStep a stored last given now → IsStep b stored last inputs now
same-step a b stored last given inputs now board same step =
    subst (λ (q : List Level). IsStep b stored last q now) same (subst (λ (q : Circuit). IsStep q stored last given now) board step)

-- what is made for a board at power-up
made-at-start : (c : Circuit) (config : Config) → IsMadeFor c config → config.stored ≡ power_up c → last_of config ≡ None → config.levels ≡ unknown_levels c → IsConfigFor c config
made-at-start c config made stored last levels = record {
  made = made;
  stored = subst AreKnown (sym stored) (known-same (length c.registers) Zero (λ e. cc));
  visible = subst AreKnown (sym (ap (λ (l : Levels). l.visible) levels)) (known-same (length c.registers) X (λ e. cc));
  lawful = λ stepped. absurd (none-given config last stepped);
}

pub started-made : {E : Type 0} (board c : Circuit) (r : Result Config E) → board ≡ c → IfOk r (IsMadeFor board) → IfOk r (λ (config : Config). config.stored ≡ power_up board) →
    IfOk r (λ (config : Config). last_of config ≡ None) → IfOk r (λ (config : Config). config.levels ≡ unknown_levels board) → IfOk r (IsConfigFor c)
started-made board c (Ok config) same made stored last levels =
    made-at-start c config (subst (λ (q : Circuit). IsMadeFor q config) same made) (stored ∙ ap power_up same) last (levels ∙ ap unknown_levels same)
started-made board c (Err e) same made stored last levels = tt
