use Rattle.std.proofs.Common.{get_or}
use Rattle.std.proofs.lemmas.List.{take_more}
use Rattle.mig_base.specs.declared.nets.Var.TheVariants.{Net}
use Rattle.structure.proofs.NeededNodes.{among-at}
use Rattle.joiner.proofs.ConeLaws.{paired-more}
use Rattle.joiner.proofs.cone.with_purity.Goals as goal

pub is_pure-requires : goal.is_pure-requires
is_pure-requires c = c.requires (get_or c.args.variables.now c.loop-variable.variable-index (Net 0)) (among-at c.args.variables.now c.loop-variable.variable-index (Net 0) c.loop-variable-test.true)

pub loop-variable-preserved : goal.loop-variable-preserved
loop-variable-preserved c =
    let vs = c.args.variables.now in
    let i = c.loop-variable.variable-index in
    paired-more c.args.board.now vs i (get_or vs i (Net 0)) c.is_pure.result c.loop-variable.pairs.items c.push.new.self.items c.loop-variable.invariant (take_more vs i (Net 0) c.loop-variable-test.true)
    c.in_ok-push.ensures.items c.is_pure.ensures.yes c.is_pure.ensures.no
