use Rattle.std.proofs.Common.{List, subst}
use Rattle.mig_base.specs.declared.circuit.Literal.{Literal}
use Rattle.mig_base.specs.Values.{sum_reads, sum_value}
use Rattle.reckoning.specs.Tables.{IsValueOf}
use Rattle.reckoning.proofs.ListLaws.{taken-made}
use Rattle.reckoning.proofs.lists.taken.Goals as goal

pub returns-clause-triple : goal.returns-clause-triple
returns-clause-triple c =
    taken-made c.args.graph.now c.sum.new.graph c.row.new.graph c.row-2.new.graph c.either.new.graph c.both.new.graph c.args.table.now c.args.register.now
    c.in_ok-terms.terms c.inverted.result c.in_ok-preset.preset c.in_ok-reset.reset c.inverted-2.result c.in_ok-level.level c.in_ok-level-2.level c.constant-float.result
    c.requires c.in_ok-terms.ensures.keeps c.in_ok-preset.ensures.keeps c.in_ok-reset.ensures.keeps c.in_ok-level.ensures.keeps
    (subst (λ (ts : List (List Literal)). IsValueOf c.args.graph.now c.sum.new.graph c.args.table.now (sum_reads ts) (λ l. sum_value l ts) c.in_ok-terms.terms) c.items.ensures c.in_ok-terms.ensures.value)
    c.in_ok-preset.ensures.value c.in_ok-reset.ensures.value
    (c.inverted.ensures.means c.row-2.new.graph) c.in_ok-level.ensures.made (c.inverted-2.ensures.means c.either.new.graph) c.in_ok-level-2.ensures.made c.constant-float.ensures.constant
