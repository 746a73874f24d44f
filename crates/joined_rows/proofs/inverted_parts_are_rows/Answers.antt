use Rattle.joined_rows.proofs.JoinedRows.{inverted-rows}
use Rattle.joined_rows.proofs.OwnLiterals.{given-own}
use Rattle.joined_rows.proofs.inverted_parts_are_rows.Goals as goal

pub returns : goal.returns
returns c = λ b absorbed given. inverted-rows b absorbed (given-own b given)
