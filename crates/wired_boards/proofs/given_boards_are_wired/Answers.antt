use Rattle.wired_boards.proofs.ApartUnits.{given-wired}
use Rattle.wired_boards.proofs.given_boards_are_wired.Goals as goal

pub returns : goal.returns
returns c = given-wired
