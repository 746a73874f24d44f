use Rattle.joined_rows.proofs.JoinedRows.{direct-rows}
use Rattle.joined_rows.proofs.OwnLiterals.{given-own}
use Rattle.joined_rows.proofs.joined_parts_are_rows.Goals as goal

pub returns : goal.returns
returns c = λ b absorbed given. direct-rows b absorbed (given-own b given)
