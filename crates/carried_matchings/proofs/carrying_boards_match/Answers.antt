use Rattle.carried_matchings.proofs.Proving.{classes-count, carries-proving}
use Rattle.carried_matchings.proofs.carrying_boards_match.Goals as goal

pub returns-clause-count : goal.returns-clause-count
returns-clause-count c = λ a b old kept. classes-count a b old kept

pub returns-clause-proving : goal.returns-clause-proving
returns-clause-proving c = λ a b absorbed old kept rank top same carries accepted wired new_wired ranked. carries-proving a b absorbed old kept rank top same carries accepted wired new_wired ranked
