use Rattle.planned_parts.proofs.ClockNets.{register-placed}
use Rattle.planned_parts.proofs.planned_registers_are_placed.Goals as goal

pub returns : goal.returns
returns c = λ b absorbed live chips kept accepted nets k now e. register-placed b absorbed live chips kept accepted nets k now e
