use Rattle.std.specs.Prelude.{not}
use Rattle.mig_base.proofs.ReadLaws.{all-sum_reads}
use Rattle.taken_boards.specs.TakenBoards.{is_combinational_net}
use Rattle.taken_boards.proofs.circuits.is_level_registered.Goals as goal

pub returns-in-Sum : goal.returns-in-Sum
returns-in-Sum c = let e = all-sum_reads (λ v. not (is_combinational_net c.args.circuit.now v)) c.in-Sum.terms in rw c.in-Sum.is (cc e)
