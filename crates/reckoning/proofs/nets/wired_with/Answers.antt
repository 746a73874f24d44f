use Rattle.std.proofs.Common.{ℕ, List, take_all, map, subst}
use Rattle.std.specs.Prelude.{slice_get}
use Rattle.std.specs.List.{flat_map}
use Rattle.mig_base.specs.Levels.{resolve2}
use Rattle.mig_base.specs.Reads.{driver_reads}
use Rattle.settle.specs.Rules.{wired, drive_of}
use Rattle.reckoning.specs.Tables.{IsWiredOf}
use Rattle.reckoning.proofs.Kept.{keeps_refl, keeps_trans, table_kept, triple_kept}
use Rattle.reckoning.proofs.NetLaws.{wired-none, wired-more}
use Rattle.reckoning.proofs.nets.wired_with.Goals as goal

pub loop-unit-init : goal.loop-unit-init
loop-unit-init c = record {
  keeps = keeps_refl c.args.graph.now;
  canonical = c.vars-count.ensures.canonical;
  wired = wired-none c.args.graph.now c.args.table.now c.args.start c.requires.start;
}

pub drive_of-requires : goal.drive_of-requires
drive_of-requires c = table_kept c.args.graph.now c.loop-unit.graph c.args.table.now c.loop-unit.invariant.keeps c.requires.table

pub wired-requires-clause-so_far : goal.wired-requires-clause-so_far
wired-requires-clause-so_far c = triple_kept c.loop-unit.graph c.drive_of.new.graph c.loop-unit.so_far c.in_ok-drive.ensures.keeps c.loop-unit.invariant.wired.valid

pub loop-unit-preserved : goal.loop-unit-preserved
loop-unit-preserved c =
    let a = c.args.graph.now in
    let b = c.loop-unit.graph in
    let m = c.drive_of.new.graph in
    let e = c.wired.new.graph in
    record {
      keeps = keeps_trans a b e c.loop-unit.invariant.keeps (keeps_trans b m e c.in_ok-drive.ensures.keeps c.in_ok-so_far.ensures.keeps);
      canonical = c.in_ok-so_far.ensures.canonical;
      wired = wired-more a b m e c.args.table.now c.args.start c.loop-unit.so_far c.in_ok-drive.drive c.in_ok-so_far.so_far (λ u. driver_reads (slice_get c.args.circuit.now.units u)) (drive_of c.args.circuit.now)
          c.args.drivers.now c.loop-unit.unit-index 0 c.loop-unit-test.true c.requires.table c.loop-unit.invariant.keeps c.in_ok-drive.ensures.keeps c.loop-unit.invariant.wired
          c.in_ok-drive.ensures.triple c.in_ok-so_far.ensures.wired;
    }

pub returns-clause-wired : goal.returns-clause-wired
returns-clause-wired c =
    subst (λ (us : List ℕ). IsWiredOf c.args.graph.now c.loop-unit.graph c.args.table.now c.args.start (flat_map (λ u. driver_reads (slice_get c.args.circuit.now.units u)) us)
    (λ m x. resolve2 x (wired (map (drive_of c.args.circuit.now m) us))) c.loop-unit.so_far)
    (take_all c.loop-unit.unit-index c.args.drivers.now c.loop-unit-test.false) c.loop-unit.invariant.wired
