use Rattle.planned_parts.proofs.NodeReads.{edge-sees}
use Rattle.planned_parts.proofs.planned_edges_are_seen.Goals as goal

pub returns : goal.returns
returns c = λ b absorbed chips kept k r w e m. edge-sees b absorbed chips kept k r w e m
