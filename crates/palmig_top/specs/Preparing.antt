-- What is prepared for saving.
use Rattle.std.specs.Prelude.{◌≡◌, map, length}
use Rattle.answers.specs.declared.shows.Counted.{Counted}
use Rattle.board.specs.Joined.{Joined, equations_of, HasRank}
use Rattle.palmig_top.specs.declared.prepared.Prepared.{Prepared}
use Rattle.palmig_top.specs.Saving.{file_of}
use Rattle.verdicts.specs.Outcomes.{Outcome}

-- as the outcome that it is
abbrev pub outcome_in : Prepared → Outcome
outcome_in p = record { answer = p.answer; saves = map file_of p.saves; report = p.report.items }

-- these are the numbers of a board
pub record IsCounted (b : Joined) (counted : Counted) : Type 0 where
  pub chips : counted.chips ≡ length b.net.chips
  pub nets : counted.nets ≡ length b.net.nets
  pub units : counted.units ≡ length (equations_of b).units
  pub registers : counted.registers ≡ length (equations_of b).registers
  pub rank : HasRank (equations_of b) counted.rank
