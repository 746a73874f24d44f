use Rattle.planned_rows.proofs.FormRows.{gate-is-rows}
use Rattle.planned_rows.proofs.gates_are_rows.Goals as goal

pub returns : goal.returns
returns c = gate-is-rows
