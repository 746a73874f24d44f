use Rattle.std.proofs.Common.{sym, ◌∙◌}
use Rattle.joiner.proofs.PairLaws.{reads_listed_ok, known_listed}
use Rattle.joiner.proofs.sums.literal.Goals as goal

pub returns-clause-literal : goal.returns-clause-literal
returns-clause-literal c =
    reads_listed_ok c.args.rails.now.vars c.row.new.self.graph c.args.pairs.now c.args.lit c.row.result
    (known_listed c.args.rails.now.vars c.args.pairs.now c.args.lit.var c.requires.known (sym c.in_default.is ∙ c.pair_of.ensures)) c.row.ensures.row c.row.ensures.monotone
