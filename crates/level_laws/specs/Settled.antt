-- The settled levels of a board: every net, drive and visible Q fits all the others.
use Rattle.std.specs.Prelude.{◌≡◌, List, [], ◌∷◌, map}
use Rattle.mig_base.specs.declared.levels.Level.{Level}
use Rattle.mig_base.specs.declared.levels.Level.TheVariants.{Zero, One, Z, X}
use Rattle.mig_base.specs.Levels.{not3, and3, level_at}
use Rattle.mig_base.specs.Resolve.{resolved}
use Rattle.mig_base.specs.declared.nets.Pull.{Pull}
use Rattle.mig_base.specs.declared.circuit.Gives.{Gives}
use Rattle.mig_base.specs.declared.circuit.Driver.{Driver}
use Rattle.mig_base.specs.declared.circuit.Register.{Register}
use Rattle.mig_base.specs.declared.circuit.NetKind.{NetKind}
use Rattle.mig_base.specs.declared.circuit.Wire.{Wire}
use Rattle.mig_base.specs.declared.circuit.Circuit.{Circuit}
use Rattle.mig_base.specs.declared.circuit.Levels.{Levels}
use Rattle.mig_base.specs.declared.circuit.Gives.TheVariants.{Sum, Visible}
use Rattle.mig_base.specs.declared.circuit.NetKind.TheVariants.{Ground, Power, Handed, Shared, Inner}
use Rattle.mig_base.specs.Values.{inverted, sum_value, row_value}

-- what a unit gives where it is enabled
abbrev pub gives_level : Levels → Gives → Level
gives_level l (Sum terms) = sum_value l terms
gives_level l (Visible k) = level_at l.visible k

-- a driver's level: its own where its enable is 1, Z where 0, X where X
abbrev pub gated : Level → Level → Level
gated One level = level
gated Zero level = Z
gated Z level = X
gated X level = X

-- a unit's drive: its level, inverted where low, behind its enable
abbrev pub drive_level : Levels → Driver → Level
drive_level l d = gated (row_value l d.enable) (inverted d.low (gives_level l d.gives))

-- a register's visible Q: the stored level, and 0 where reset
abbrev pub visible_level : Levels → Register → Level → Level
visible_level l r stored = and3 stored (not3 (row_value l r.reset))

-- GND is 0, VCC is 1, an Input port has its handed level; every other net is what its drivers, the handed level of a Both port and its pull make of it
abbrev pub level_by : List Level → NetKind → Pull → List Level → Level
level_by inputs Ground pull driven = Zero
level_by inputs Power pull driven = One
level_by inputs (Handed j) pull driven = level_at inputs j
level_by inputs (Shared j) pull driven = resolved pull (level_at inputs j ∷ driven)
level_by inputs Inner pull driven = resolved pull driven

-- the level of a net, given the drives
abbrev pub wire_level : List Level → Levels → Wire → Level
wire_level inputs l w = level_by inputs w.kind w.pull (map (level_at l.drives) w.drivers)

-- the visible Q of each of these registers
abbrev pub visible_levels : Levels → List Register → List Level → List Level
visible_levels l [] stored = []
visible_levels l (r ∷ rs) [] = []
visible_levels l (r ∷ rs) (s ∷ ss) = visible_level l r s ∷ visible_levels l rs ss

-- every net, drive and visible Q is what the others make of it, all at once
pub record IsSettled (c : Circuit) (stored inputs : List Level) (l : Levels) : Type 0 where
  pub nets : l.nets ≡ map (wire_level inputs l) c.nets
  pub drives : l.drives ≡ map (drive_level l) c.units
  pub visible : l.visible ≡ visible_levels l c.registers stored
