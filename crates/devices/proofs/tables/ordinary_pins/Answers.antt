use Rattle.std.proofs.Common.{arith}
use Rattle.devices.proofs.OrdinaryPins.{ordinary-20, ordinary-24}
use Rattle.devices.proofs.tables.ordinary_pins.Goals as goal

pub returns-then-pins-eq20 : goal.returns-then-pins-eq20
returns-then-pins-eq20 c = ordinary-20 c.args.kind (omega arith)

pub returns-else-pins-eq20 : goal.returns-else-pins-eq20
returns-else-pins-eq20 c = ordinary-24 c.args.kind (λ e. omega arith)
