use Rattle.std.proofs.Common.{◌+◌, take, drop, refl}
use Rattle.mig_base.specs.declared.circuit.Read.TheVariants.{OfNet}
use Rattle.ranks.specs.Ways.{IsStep}
use Rattle.ranks.proofs.LoopLaws.{split-at}
use Rattle.ranks.proofs.Finishing.{none-next}
use Rattle.ranks.proofs.loops.first_step.Goals as goal

pub returns-then-is_step : goal.returns-then-is_step
returns-then-is_step c =
    let nodes = c.args.nodes.now in
    let i = c.loop-node.node-index in
    record {
      before = take i nodes;
      after = drop (i + 1) nodes;
      split = split-at nodes i _ (OfNet 0) c.loop-node-test.true refl;
      has = c.is_step.ensures.yes c.if-is_step.true;
      none = c.loop-node.invariant;
    }

pub loop-node-preserved : goal.loop-node-preserved
loop-node-preserved c =
    none-next (IsStep c.args.reads.now c.args.ways.now c.args.steps) c.args.nodes.now c.loop-node.node-index (OfNet 0) c.loop-node-test.true c.loop-node.invariant (c.is_step.ensures.no c.if-is_step.false)
