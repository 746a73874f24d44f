use Rattle.std.proofs.Common.{subst}
use Rattle.std.proofs.lemmas.List.{take_more}
use Rattle.mig_base.specs.Among.{Among}
use Rattle.settle.proofs.ChangeLaws.{inputs-more}
use Rattle.settle.proofs.inputs.mark_inputs.Goals as goal

pub loop-net-preserved : goal.loop-net-preserved
loop-net-preserved c = record {
  marked = λ n a. inputs-more c.args.circuit.now c.args.before.now c.args.now.now _ _ c.loop-net.marks c.mark_input.new.marks c.loop-net.invariant.marked c.mark_input.ensures.mark c.mark_input.ensures.keeps n
      (subst (Among n) (take_more c.args.nets.now c.loop-net.net-index _ c.loop-net-test.true) a);
  keeps = λ r h. c.mark_input.ensures.keeps r (c.loop-net.invariant.keeps r h);
}
