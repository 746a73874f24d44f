use Rattle.trials.specs.Trials.{drawn_steps}
use Rattle.trials.proofs.MoreSteps.{drawn-more}
use Rattle.trials.proofs.drawing.drawn_steps.Goals as goal

pub loop-done-preserved : goal.loop-done-preserved
loop-done-preserved c =
    drawn-more c.args.ports.now c.loop-done.steps.items c.push.new.self.items c.in_ok-given.given c.args.count c.loop-done.done c.loop-done.number c.in_ok-given.next
    (drawn_steps c.args.count c.args.ports.now c.args.start) c.loop-done-test.true c.in_ok-push.ensures.items c.in_ok-given.ensures.levels c.in_ok-given.ensures.last c.loop-done.invariant
