-- Steps and whole runs of a board from power-up.
use Rattle.std.specs.Prelude.{ℕ, ◌≡◌, Bool, ◌&&◌, List, [], ◌∷◌, if◌then◌else◌, map, Option, Some, None, slice_get, length, replicate}
use Rattle.mig_base.specs.declared.levels.Level.{Level}
use Rattle.mig_base.specs.declared.levels.Level.TheVariants.{Zero, One, X}
use Rattle.mig_base.specs.Levels.{not3, and3, or3, level_at, same_level, or_x}
use Rattle.mig_base.specs.declared.circuit.Register.{Register}
use Rattle.mig_base.specs.declared.circuit.NetKind.{NetKind}
use Rattle.mig_base.specs.declared.circuit.Circuit.{Circuit}
use Rattle.mig_base.specs.declared.circuit.Levels.{Levels}
use Rattle.mig_base.specs.declared.circuit.NetKind.TheVariants.{Ground, Power, Handed, Shared, Inner}
use Rattle.mig_base.specs.Values.{inverted, sum_value, row_value}
use Rattle.level_laws.specs.Settled.{IsSettled}

-- a clock net is an Input port or a constant
abbrev pub clock_by : List Level → NetKind → Level
clock_by inputs Ground = Zero
clock_by inputs Power = One
clock_by inputs (Handed j) = level_at inputs j
clock_by inputs (Shared j) = X
clock_by inputs Inner = X

abbrev pub clock_level : Circuit → List Level → ℕ → Level
clock_level c inputs n = or_x (λ w. clock_by inputs w.kind) (slice_get c.nets n)

-- a clock rises where it was 0 before and is 1 now
abbrev pub rises : Circuit → List Level → List Level → ℕ → Bool
rises c before now n = same_level (clock_level c before n) Zero && same_level (clock_level c now n) One

-- what a register takes where its clock rises
abbrev pub taken : Levels → Register → Level
taken l r = and3 (or3 (inverted r.low (sum_value l r.terms)) (row_value l r.preset)) (not3 (row_value l r.reset))

-- the stored levels after a step from these settled levels
abbrev pub next_stored : Circuit → Levels → List Level → List Level → List Register → List Level → List Level
next_stored c l before now [] visible = []
next_stored c l before now (r ∷ rs) [] = []
next_stored c l before now (r ∷ rs) (q ∷ qs) =
    (if rises c before now r.clock then taken l r else q) ∷ next_stored c l before now rs qs

-- the first step only sets the inputs
abbrev pub IsStep : Circuit → List Level → Option (List Level) → List Level → List Level → Type 0
IsStep c stored None inputs now = now ≡ stored
IsStep c stored (Some last) inputs now =
    (l : Levels) × IsSettled c stored last l × (now ≡ next_stored c l last inputs c.registers l.visible)

-- the levels of all ports, in board order
abbrev pub shown_levels : Circuit → Levels → List Level
shown_levels c l = map (level_at l.nets) c.ports

-- from these stored levels and last inputs the board shows these levels under these inputs
abbrev pub IsRunFrom : Circuit → List Level → Option (List Level) → List (List Level) → List (List Level) → Type 0
IsRunFrom c stored last [] [] = Unit {0}
IsRunFrom c stored last [] (shown ∷ showns) = ⊥
IsRunFrom c stored last (inputs ∷ rest) [] = ⊥
IsRunFrom c stored last (inputs ∷ rest) (shown ∷ showns) =
    (now : List Level) × (l : Levels) × IsStep c stored last inputs now × IsSettled c now inputs l
    × (shown ≡ shown_levels c l) × IsRunFrom c now (Some inputs) rest showns

-- all registers store 0
abbrev pub power_up : Circuit → List Level
power_up c = replicate (length c.registers) Zero

-- from power-up
abbrev pub IsRun : Circuit → List (List Level) → List (List Level) → Type 0
IsRun c inputs showns = IsRunFrom c (power_up c) None inputs showns
