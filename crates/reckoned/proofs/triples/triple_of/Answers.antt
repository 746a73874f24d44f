use Rattle.reckoned.proofs.TripleLaws.{triple-after}
use Rattle.reckoned.proofs.triples.triple_of.Goals as goal

pub returns-clause-triple : goal.returns-clause-triple
returns-clause-triple c =
    triple-after c.row.new.self.graph c.row-2.new.self.graph c.graph.result.now c.float_of.new.graph c.args.rails.now.vars c.row.new.self.vars c.args.var c.args.is_pure c.floats-floats.result
    c.in_ok-one.one c.in_ok-zero.zero c.in-Ok.float c.in_ok-one.ensures.vars c.graph.ensures.graph c.floats-floats.ensures c.in_ok-zero.ensures.keeps c.in-Ok.ensures.keeps c.in_ok-one.ensures.row.valid
    c.in_ok-zero.ensures.row.valid c.in_ok-one.ensures.level c.in_ok-zero.ensures.level c.in-Ok.ensures.float
