-- Levels that don't float.
use Rattle.std.proofs.Common.{ℕ, zero, suc, ◌≡◌, ◌≢◌, ◌<◌, Bool, true, false, List, [], ◌∷◌, length, replicate, Option, Some, None, refl, sym, ap, ◌∙◌, subst, arith}
use Rattle.std.specs.Prelude.{slice_index_or, if◌then◌else◌}
use Rattle.std.proofs.lemmas.List.{get_or-replicate, length-replicate}
use Rattle.mig_base.specs.declared.levels.Level.{Level}
use Rattle.mig_base.specs.declared.levels.Level.TheVariants.{Z}
use Rattle.mig_base.specs.Levels.{not3, or3}
use Rattle.mig_base.specs.Values.{inverted, sum_value, row_value}
use Rattle.mig_base.specs.declared.circuit.Register.{Register}
use Rattle.mig_base.specs.declared.circuit.Circuit.{Circuit}
use Rattle.mig_base.specs.declared.circuit.Levels.{Levels}
use Rattle.level_laws.specs.Settled.{IsSettled, visible_levels}
use Rattle.level_laws.specs.Runs.{rises, taken, next_stored, IsStep}
use Rattle.settle.specs.declared.config.Config.{Config}
use Rattle.settle.specs.Configs.{last_of}
use Rattle.settle.proofs.LevelLaws.{and-known}
use Rattle.settle.specs.Made.{AreKnown}

-- equal levels
pub known-same : (n : ℕ) (level : Level) → level ≢ Z → AreKnown (replicate n level)
known-same n level known k d lt = λ e. known (sym (get_or-replicate n k level d (omega (arith, length-replicate n level))) ∙ e)

visible-known : (l : Levels) (rs : List Register) (ss : List Level) (k : ℕ) (d : Level) → k < length (visible_levels l rs ss) → slice_index_or (visible_levels l rs ss) k d ≢ Z
visible-known l [] ss k d lt = absurd (omega arith)
visible-known l (r ∷ rs) [] k d lt = absurd (omega arith)
visible-known l (r ∷ rs) (s ∷ ss) zero d lt = and-known s (not3 (row_value l r.reset))
visible-known l (r ∷ rs) (s ∷ ss) (suc k) d lt = visible-known l rs ss k d (omega arith)

-- the visible Q of all registers
pub known-visible : (c : Circuit) (stored inputs : List Level) (l : Levels) → IsSettled c stored inputs l → AreKnown l.visible
known-visible c stored inputs l settled = subst AreKnown (sym settled.visible) (visible-known l c.registers stored)

next-known : (c : Circuit) (l : Levels) (before now : List Level) (rs : List Register) (qs : List Level) → AreKnown qs →
    (k : ℕ) (d : Level) → k < length (next_stored c l before now rs qs) → slice_index_or (next_stored c l before now rs qs) k d ≢ Z
next-known c l before now [] qs known k d lt = absurd (omega arith)
next-known c l before now (r ∷ rs) [] known k d lt = absurd (omega arith)
next-known c l before now (r ∷ rs) (q ∷ qs) known zero d lt = at (rises c before now r.clock)
  where
    at : (b : Bool) → (if b then taken l r else q) ≢ Z
    at true = and-known (or3 (inverted r.low (sum_value l r.terms)) (row_value l r.preset)) (not3 (row_value l r.reset))
    at false = known zero d (omega arith)
next-known c l before now (r ∷ rs) (q ∷ qs) known (suc k) d lt = next-known c l before now rs qs (λ j e less. known (suc j) e (omega arith)) k d (omega arith)

-- the stored levels after a step
pub known-step : (c : Circuit) (stored : List Level) (last : Option (List Level)) (inputs now : List Level) → AreKnown stored → IsStep c stored last inputs now → AreKnown now
known-step c stored None inputs now known step = subst AreKnown (sym step) known
known-step c stored (Some last) inputs now known step =
    subst AreKnown (sym step.2) (next-known c step.0 last inputs c.registers step.0.visible (known-visible c stored last step.0 step.1))

-- once a step was made
pub last-given : (config : Config) (inputs : List Level) → last_of config ≡ Some inputs → config.stepped ≡ true → config.last ≡ inputs
last-given config inputs given stepped =
    let last : Some config.last ≡ Some inputs = sym (ap (λ (b : Bool). if b then Some config.last else None) stepped) ∙ given in cc

pub none-given : (config : Config) → last_of config ≡ None → config.stepped ≡ true → ⊥
none-given config none stepped =
    let last : Some config.last ≡ None = sym (ap (λ (b : Bool). if b then Some config.last else None) stepped) ∙ none in cc

pub was-stepped : (config : Config) (inputs : List Level) → last_of config ≡ Some inputs → config.stepped ≡ true
was-stepped config inputs given = at config.stepped given
  where
    at : (b : Bool) → (if b then Some config.last else None) ≡ Some inputs → b ≡ true
    at true e = refl
    at false e = cc
