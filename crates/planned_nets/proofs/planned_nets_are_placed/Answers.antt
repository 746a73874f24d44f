use Rattle.planned_nets.proofs.PlacedNets.{placed}
use Rattle.planned_nets.proofs.planned_nets_are_placed.Goals as goal

pub returns : goal.returns
returns c = λ b absorbed live chips given accepted fit planned once units m seen. placed b absorbed live chips given accepted fit planned once units m seen
