use Rattle.std.proofs.Common.{rules, map, reverse, replicate, true, false}
use Rattle.mig_base.specs.WrittenCells as written
use Rattle.v8.proofs.Again.{parts-written}
use Rattle.v8.proofs.writing.push_settings.Goals as goal

pub returns : goal.returns
returns c =
    let cells = c.args.cells.now in
    parts-written c.args.fuses.now.items c.push_xor.new.fuses.items c.push_states.new.fuses.items c.push_ac1.new.fuses.items c.push_states-2.new.fuses.items c.push.new.self.items c.push-2.new.self.items (map written.xor_fuse (reverse cells.cells)) (replicate 64 false) (map (written.ac1_fuse cells.mode) (reverse cells.cells)) (replicate 64 true) (written.syn_fuse cells.mode) (written.ac0_fuse cells.mode)
    (search rules) (search rules) (search rules) (search rules) (search rules) (search rules)
