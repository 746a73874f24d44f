use Rattle.rebuilt_boards.proofs.TakenBoards.{taken-rebuilt}
use Rattle.rebuilt_boards.proofs.laws.boards_are_rebuilt.Goals as goal

pub returns : goal.returns
returns c = taken-rebuilt
