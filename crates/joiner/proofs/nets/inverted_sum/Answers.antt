use Rattle.joiner.proofs.JoiningLaws.{inverse_ok, inverted_ok}
use Rattle.joiner.proofs.PairLaws.{pairs_kept}
use Rattle.joiner.proofs.nets.inverted_sum.Goals as goal

pub returns-clause-sum : goal.returns-clause-sum
returns-clause-sum c =
    let vars = c.args.rails.now.vars in
    let a = c.sum.new.rails.graph in
    let b = c.invert.new.self.graph in
    inverted_ok vars b c.args.pairs.now c.args.terms.now c.args.low c.invert.result c.if-not-low.false
    (inverse_ok vars c.sum.new.rails.vars a b c.args.pairs.now c.args.terms.now c.in_ok-plain.plain c.invert.result c.in_ok-plain.ensures.vars c.invert.ensures.keeps
    (pairs_kept vars c.args.rails.now.graph a c.args.pairs.now c.in_ok-plain.ensures.keeps c.requires.pairs)
    c.in_ok-plain.ensures.sum c.invert.ensures.inverse c.invert.ensures.monotone)
