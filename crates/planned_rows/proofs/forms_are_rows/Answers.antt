use Rattle.planned_rows.proofs.FormRows.{form-rows}
use Rattle.planned_rows.proofs.forms_are_rows.Goals as goal

pub returns : goal.returns
returns c = form-rows
