use Rattle.planned_boards.proofs.EnableRows.{enable-row}
use Rattle.planned_boards.proofs.enable_pins_are_rows.Goals as goal

pub returns : goal.returns
returns c = enable-row
