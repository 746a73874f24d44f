use Rattle.sim_run.specs.Statements.{slot_level}
use Rattle.text_lines.proofs.Judging.{kept-more}
use Rattle.sim_run.proofs.levels.inputs.Goals as goal

pub loop-slot-preserved : goal.loop-slot-preserved
loop-slot-preserved c =
    kept-more (slot_level c.args.levels.now) c.args.slots.now c.loop-slot.slot-index _ c.level.result c.loop-slot.given.items _ c.loop-slot-test.true c.level.ensures c.loop-slot.invariant c.in_ok-keep.ensures
