use Rattle.std.proofs.Common.{sym, subst, List}
use Rattle.std.specs.Prelude.{IfOk}
use Rattle.mig_base.specs.declared.circuit.Literal.{Literal}
use Rattle.mig_base.specs.declared.circuit.Gives.{Gives}
use Rattle.mig_base.specs.Reads.{gives_reads}
use Rattle.mig_base.specs.Values.{sum_value, sum_reads}
use Rattle.level_laws.specs.Settled.{gives_level}
use Rattle.reckoning.specs.Tables.{IsTripleOf}
use Rattle.reckoning.proofs.logic.given.Goals as goal

pub returns-in-Sum-clause-triple : goal.returns-in-Sum-clause-triple
returns-in-Sum-clause-triple c =
    subst (λ (g : Gives). IfOk c.sum_given.result (IsTripleOf c.args.graph.now c.sum_given.new.graph c.args.table.now (gives_reads g) (λ l. gives_level l g))) (sym c.in-Sum.is)
    (subst (λ (xs : List (List Literal)). IfOk c.sum_given.result (IsTripleOf c.args.graph.now c.sum_given.new.graph c.args.table.now (sum_reads xs) (λ l. sum_value l xs))) c.items.ensures c.sum_given.ensures.triple)
