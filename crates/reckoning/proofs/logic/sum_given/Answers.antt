use Rattle.mig_base.specs.Values.{sum_value, sum_reads}
use Rattle.settle.proofs.LevelLaws.{sum-known}
use Rattle.reckoning.proofs.Units.{known-triple}
use Rattle.reckoning.proofs.logic.sum_given.Goals as goal

pub returns-clause-triple : goal.returns-clause-triple
returns-clause-triple c =
    known-triple c.args.graph.now c.sum.new.graph c.args.table.now (sum_reads c.args.terms.now) (λ l. sum_value l c.args.terms.now) c.in_ok-value.value c.constant-float.result
    (λ l. sum-known l c.args.terms.now) c.constant-float.ensures.constant c.in_ok-value.ensures.value
