use Rattle.carried_plans.proofs.CarriedPlans.{is-accepted, new-given, proving-matching, shows-alike, shows-same}
use Rattle.carried_plans.proofs.plans_carry_boards.Goals as goal

pub returns-clause-given : goal.returns-clause-given
returns-clause-given c = new-given

pub returns-clause-accepted : goal.returns-clause-accepted
returns-clause-accepted c = λ b p chips given accepted plan none are. is-accepted b p chips given accepted plan none are

pub returns-clause-same : goal.returns-clause-same
returns-clause-same c = λ b p chips given accepted plan none are. shows-alike b p chips given accepted plan none are

pub returns-clause-shown : goal.returns-clause-shown
returns-clause-shown c = λ b p chips given accepted plan none are. shows-same b p chips given accepted plan none are

pub returns-clause-proving : goal.returns-clause-proving
returns-clause-proving c = λ b p chips given accepted plan none are. proving-matching b p chips given accepted plan none are
