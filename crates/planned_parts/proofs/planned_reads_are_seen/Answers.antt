use Rattle.planned_parts.proofs.NodeReads.{node-sees}
use Rattle.planned_parts.proofs.planned_reads_are_seen.Goals as goal

pub returns : goal.returns
returns c = λ b absorbed chips kept v w m. node-sees b absorbed chips kept v w m
