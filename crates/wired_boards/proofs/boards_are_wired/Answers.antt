use Rattle.wired_boards.proofs.ApartUnits.{well-wired}
use Rattle.wired_boards.proofs.boards_are_wired.Goals as goal

pub returns : goal.returns
returns c = well-wired
