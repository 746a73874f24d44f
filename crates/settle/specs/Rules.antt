-- What a node of a board is made of, from the levels of what it reads.
use Rattle.std.specs.Prelude.{ℕ, ◌≡◌, List, [], ◌∷◌, map, length, replicate, slice_get, slice_set}
use Rattle.mig_base.specs.declared.levels.Level.{Level}
use Rattle.mig_base.specs.declared.levels.Level.TheVariants.{Zero, One, Z, X}
use Rattle.mig_base.specs.declared.circuit.Read.{Read}
use Rattle.mig_base.specs.declared.circuit.Read.TheVariants.{OfNet, OfRegister}
use Rattle.mig_base.specs.declared.circuit.Wire.{Wire}
use Rattle.mig_base.specs.declared.circuit.Circuit.{Circuit}
use Rattle.mig_base.specs.declared.circuit.Levels.{Levels}
use Rattle.mig_base.specs.Levels.{resolve2, level_at, or_x}
use Rattle.mig_base.specs.declared.nets.Pull.{Pull}
use Rattle.mig_base.specs.Resolve.{pulled}
use Rattle.level_laws.specs.Settled.{drive_level, visible_levels, level_by, wire_level}

-- all drivers on one net
abbrev pub wired : List Level → Level
wired [] = Z
wired (x ∷ xs) = resolve2 x (wired xs)

-- a floating net gets what its pull makes of it
abbrev pub pulled_from : Pull → Level → Level
pulled_from pull Z = pulled pull
pulled_from pull Zero = Zero
pulled_from pull One = One
pulled_from pull X = X

-- the drive of a unit by its number
abbrev pub drive_of : Circuit → Levels → ℕ → Level
drive_of c l u = or_x (drive_level l) (slice_get c.units u)

-- the level of a net by its number, as the drives stand
abbrev pub resolved_of : Circuit → List Level → Levels → ℕ → Level
resolved_of c inputs l n = or_x (wire_level inputs l) (slice_get c.nets n)

-- the visible Q of a register by its place
abbrev pub visible_of : Circuit → List Level → Levels → ℕ → Level
visible_of c stored l k = level_at (visible_levels l c.registers stored) k

-- the level of a net, its drives made anew
abbrev pub net_level : Circuit → List Level → Levels → Wire → Level
net_level c inputs l w = level_by inputs w.kind w.pull (map (drive_of c l) w.drivers)

-- the level of a node, made anew
abbrev pub new_level : Circuit → List Level → List Level → Levels → Read → Level
new_level c stored inputs l (OfNet n) = or_x (net_level c inputs l) (slice_get c.nets n)
new_level c stored inputs l (OfRegister k) = visible_of c stored l k

-- the levels with another one at a node
abbrev pub placed : Levels → Read → Level → Levels
placed l (OfNet n) x = record { nets = slice_set l.nets n x; drives = l.drives; visible = l.visible }
placed l (OfRegister k) x = record { nets = l.nets; drives = l.drives; visible = slice_set l.visible k x }

-- the lists have the board's lengths
pub record HasLengths (c : Circuit) (l : Levels) : Type 0 where
  pub nets : length l.nets ≡ length c.nets
  pub drives : length l.drives ≡ length c.units
  pub visible : length l.visible ≡ length c.registers

-- all levels unknown
abbrev pub unknown_levels : Circuit → Levels
unknown_levels c = record { nets = replicate (length c.nets) X; drives = replicate (length c.units) X; visible = replicate (length c.registers) X }

-- the levels with these drives
abbrev pub with_drives : Levels → List Level → Levels
with_drives l drives = record { nets = l.nets; drives = drives; visible = l.visible }
