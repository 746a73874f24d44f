use Rattle.planned_boards.proofs.RegUnits.{placed-on-22}
use Rattle.planned_boards.proofs.registered_units_on_22v10_are_placed.Goals as goal

pub returns : goal.returns
returns c = λ b absorbed chips given v u at n fit rows k is on. placed-on-22 b absorbed chips given v u at n fit rows k is on
