-- Stored levels of a board: at power-up, and after a step.
use Rattle.std.proofs.Common.{ℕ, zero, suc, ◌≡◌, ◌≢◌, ◌<◌, Bool, true, false, List, [], ◌∷◌, length, Option, Some, None, refl, sym, ap, ◌∙◌, subst, arith}
use Rattle.std.specs.Prelude.{slice_index_or, if◌then◌else◌, All, IfSome}
use Rattle.std.proofs.lemmas.List.{get_or-replicate, length-replicate}
use Rattle.mig_base.specs.declared.levels.Level.{Level}
use Rattle.mig_base.specs.declared.levels.Level.TheVariants.{Zero, One, Z, X}
use Rattle.mig_base.specs.Levels.{not3, and3, or3}
use Rattle.mig_base.specs.Values.{inverted, sum_value, row_value}
use Rattle.mig_base.specs.Accepted.{IsAccepted}
use Rattle.mig_base.specs.declared.circuit.Register.{Register}
use Rattle.mig_base.specs.declared.circuit.Circuit.{Circuit}
use Rattle.mig_base.specs.declared.circuit.Levels.{Levels}
use Rattle.level_laws.specs.Settled.{IsSettled, visible_levels}
use Rattle.level_laws.specs.Runs.{rises, taken, next_stored, IsStep, power_up}
use Rattle.level_laws.specs.SameBehaviour.{IsLawful}
use Rattle.level_laws.specs.PureLevels.{DriversAreUnits}
use Rattle.level_laws.proofs.PureSteps.{step-pure, start-pure}
use Rattle.matchings.specs.Pairs.{IsState}

and-known : (a b : Level) → and3 a b ≢ Z
and-known Zero b e = cc
and-known One Zero e = cc
and-known One One e = cc
and-known One Z e = cc
and-known One X e = cc
and-known Z Zero e = cc
and-known Z One e = cc
and-known Z Z e = cc
and-known Z X e = cc
and-known X Zero e = cc
and-known X One e = cc
and-known X Z e = cc
and-known X X e = cc

zero-known : Zero ≢ Z
zero-known e = cc

visible-known : (l : Levels) (rs : List Register) (ss : List Level) (k : ℕ) (d : Level) → k < length (visible_levels l rs ss) → slice_index_or (visible_levels l rs ss) k d ≢ Z
visible-known l [] ss k d lt = absurd (omega arith)
visible-known l (r ∷ rs) [] k d lt = absurd (omega arith)
visible-known l (r ∷ rs) (s ∷ ss) zero d lt = and-known s (not3 (row_value l r.reset))
visible-known l (r ∷ rs) (s ∷ ss) (suc k) d lt = visible-known l rs ss k d (omega arith)

next-known : (c : Circuit) (l : Levels) (before now : List Level) (rs : List Register) (qs : List Level) → All (λ level. level ≢ Z) qs →
    (k : ℕ) (d : Level) → k < length (next_stored c l before now rs qs) → slice_index_or (next_stored c l before now rs qs) k d ≢ Z
next-known c l before now [] qs known k d lt = absurd (omega arith)
next-known c l before now (r ∷ rs) [] known k d lt = absurd (omega arith)
next-known c l before now (r ∷ rs) (q ∷ qs) known zero d lt = at (rises c before now r.clock)
  where
    at : (b : Bool) → (if b then taken l r else q) ≢ Z
    at true = and-known (or3 (inverted r.low (sum_value l r.terms)) (row_value l r.preset)) (not3 (row_value l r.reset))
    at false = known zero d (omega arith)
next-known c l before now (r ∷ rs) (q ∷ qs) known (suc k) d lt = next-known c l before now rs qs (λ j e less. known (suc j) e (omega arith)) k d (omega arith)

visible-length : (l : Levels) (rs : List Register) (ss : List Level) → length ss ≡ length rs → length (visible_levels l rs ss) ≡ length rs
visible-length l [] ss e = refl
visible-length l (r ∷ rs) [] e = absurd (omega arith)
visible-length l (r ∷ rs) (s ∷ ss) e = ap suc (visible-length l rs ss (omega arith))

pub next-length : (c : Circuit) (l : Levels) (before now : List Level) (rs : List Register) (qs : List Level) → length qs ≡ length rs → length (next_stored c l before now rs qs) ≡ length rs
next-length c l before now [] qs e = refl
next-length c l before now (r ∷ rs) [] e = absurd (omega arith)
next-length c l before now (r ∷ rs) (q ∷ qs) e = ap suc (next-length c l before now rs qs (omega arith))

-- a step
pub step-state : (c : Circuit) (stored : List Level) (last : Option (List Level)) (inputs now : List Level) → IsAccepted c → DriversAreUnits c → IsState c stored →
    IfSome last (IsLawful c) → IsStep c stored last inputs now → IsState c now
step-state c stored None inputs now accepted units state lawful step = subst (IsState c) (sym step) state
step-state c stored (Some last) inputs now accepted units state lawful step = record {
  lengths = ap length step.2 ∙ next-length c step.0 last inputs c.registers step.0.visible
      (ap length step.1.visible ∙ visible-length step.0 c.registers stored state.lengths);
  known = subst (All (λ level. level ≢ Z)) (sym step.2) (next-known c step.0 last inputs c.registers step.0.visible
      (subst (All (λ level. level ≢ Z)) (sym step.1.visible) (visible-known step.0 c.registers stored)));
  pure = step-pure c stored (Some last) inputs now accepted units state.pure lawful step;
}

-- power-up
pub start-state : (c : Circuit) → IsState c (power_up c)
start-state c = record {
  lengths = length-replicate (length c.registers) Zero;
  known = λ k d lt e. zero-known (sym (get_or-replicate (length c.registers) k Zero d (omega (arith, length-replicate (length c.registers) Zero))) ∙ e);
  pure = start-pure c;
}

-- settled visible levels, one for each register
pub settled-length : (c : Circuit) (stored inputs : List Level) (l : Levels) → IsState c stored → IsSettled c stored inputs l → length l.visible ≡ length c.registers
settled-length c stored inputs l state settled = ap length settled.visible ∙ visible-length l c.registers stored state.lengths
