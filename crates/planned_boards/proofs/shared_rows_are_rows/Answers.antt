use Rattle.planned_boards.proofs.SharedRows.{shared-rows}
use Rattle.planned_boards.proofs.shared_rows_are_rows.Goals as goal

pub returns : goal.returns
returns c = shared-rows
