use Rattle.level_laws.proofs.DriverUnits.{drivers-units}
use Rattle.level_laws.proofs.drivers_are_units.Goals as goal

pub returns : goal.returns
returns c = drivers-units
