use Rattle.rebuilt_boards.proofs.BuiltWell.{built-well}
use Rattle.rebuilt_boards.proofs.laws.boards_are_built_well.Goals as goal

pub returns : goal.returns
returns c = built-well
