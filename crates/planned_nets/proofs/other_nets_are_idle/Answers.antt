use Rattle.planned_nets.proofs.IdleNets.{idle}
use Rattle.planned_nets.proofs.other_nets_are_idle.Goals as goal

pub returns : goal.returns
returns c = λ b absorbed live chips given accepted fit planned once m w on seen. idle b absorbed live chips given accepted fit planned once m w on seen
