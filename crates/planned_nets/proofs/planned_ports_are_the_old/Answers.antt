use Rattle.planned_nets.proofs.OldPorts.{ports-kept, ports-shown}
use Rattle.planned_nets.proofs.planned_ports_are_the_old.Goals as goal

pub returns : goal.returns
returns c = λ b absorbed chips may. (ports-kept b chips, λ m a. ports-shown b chips absorbed may m a)
