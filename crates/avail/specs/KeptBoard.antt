-- What is kept beside a board that is rebuilt.
use Rattle.std.specs.Prelude.{◌≡◌, ◌<◌, ◌≤◌, List, length}
use Rattle.std.specs.List.{All}
use Rattle.mig_base.specs.declared.nets.Net.{Net}
use Rattle.mig_base.specs.declared.circuit.Read.{Read}
use Rattle.mig_base.specs.Boards.{ChipUnit}
use Rattle.mig_base.specs.Structure.{all_variables}
use Rattle.new_board.specs.NewChip.{OldBoard}

-- the wiring whose nets are numbered, and the variables in order
pub record IsOld (numbered : Net) (variables : List Read) (b : OldBoard) : Type 0 where
  pub numbered_is : numbered ≡ b.net
  pub variables_are : variables ≡ all_variables b.circuit
  pub few_nets : length b.net.nets ≤ 1024
  pub few_chips : length b.net.chips ≤ 64
  pub within : All (λ (u : ChipUnit). u.chip < length b.net.chips) b.units
