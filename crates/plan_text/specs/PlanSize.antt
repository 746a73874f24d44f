-- Plans whose text fits a file.
use Rattle.std.specs.Prelude.{◌<◌, ◌≤◌, length}
use Rattle.std.specs.List.{AllByRecursion}
use Rattle.mig_base.specs.declared.nets.PinName.{PinName}
use Rattle.mig_base.specs.declared.plans.Plan.{Plan}
use Rattle.mig_base.specs.declared.plans.PlanLine.{PlanLine}
use Rattle.mig_base.specs.declared.plans.PlanLine.TheVariants.{Place, Absorb}

-- a name of at most 24 bytes, and a pin number of a byte
abbrev pub IsShortPin : PinName → Type 0
IsShortPin u = (length u.chip ≤ 24) × (u.pin < 256)

abbrev pub IsShortLine : PlanLine → Type 0
IsShortLine (Place unit chip pin) = IsShortPin unit × IsShortPin (record { chip = chip; pin = pin })
IsShortLine (Absorb unit) = IsShortPin unit

-- at most 64 chips and 1,024 lines, of names and pin numbers
pub record IsShort (p : Plan) : Type 0 where
  pub few_chips : length p.chips ≤ 64
  pub few_lines : length p.lines ≤ 1024
  pub chips : AllByRecursion (λ c. length c.name ≤ 24) p.chips
  pub lines : AllByRecursion IsShortLine p.lines
