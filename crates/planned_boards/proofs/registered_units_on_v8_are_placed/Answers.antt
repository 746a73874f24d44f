use Rattle.planned_boards.proofs.PinUnits.{placed-on-v8}
use Rattle.planned_boards.proofs.registered_units_on_v8_are_placed.Goals as goal

pub returns : goal.returns
returns c = λ b absorbed chips given v u at n fit planned k is on. placed-on-v8 b absorbed chips given v u at n fit planned k is on
