use Rattle.std.proofs.Common.{◌+◌, ◌++◌, [], take, take_all, sym, ◌∙◌, subst}
use Rattle.mig_base.specs.Reads.{gives_reads}
use Rattle.mig_base.specs.Values.{row_reads}
use Rattle.level_laws.specs.Settled.{drive_level}
use Rattle.reckoning.specs.Made.{AreOf}
use Rattle.reckoning.proofs.Kept.{keeps_refl, keeps_trans, table_kept}
use Rattle.reckoning.proofs.ListLaws.{list-start, list-more}
use Rattle.reckoning.proofs.lists.drives.Goals as goal

pub loop-unit-init : goal.loop-unit-init
loop-unit-init c = record {
  keeps = keeps_refl c.args.graph.now;
  canonical = c.vars-count.ensures.canonical;
  made = subst (AreOf c.args.graph.now c.args.graph.now c.args.table.now drive_level []) (sym c.new-made.ensures.items) (list-start c.args.graph.now c.args.table.now drive_level);
}

pub drive-requires : goal.drive-requires
drive-requires c = table_kept c.args.graph.now c.loop-unit.graph c.args.table.now c.loop-unit.invariant.keeps c.requires

pub loop-unit-preserved : goal.loop-unit-preserved
loop-unit-preserved c =
    let a = c.args.graph.now in
    let b = c.loop-unit.graph in
    let d = c.drive.new.graph in
    let item = c.unit-item.result in
    record {
      keeps = keeps_trans a b d c.loop-unit.invariant.keeps c.in_ok-three.ensures.keeps;
      canonical = c.in_ok-three.ensures.canonical;
      made = subst (AreOf a d c.args.table.now drive_level (take (c.loop-unit.unit-index + 1) c.items-units.result.now)) (sym c.in_ok-push.ensures.items)
          (list-more a b d c.args.table.now drive_level c.items-units.result.now c.loop-unit.unit-index item item c.loop-unit.made.items c.in_ok-three.three
          (row_reads item.enable ++ gives_reads item.gives) c.loop-unit-test.true c.unit-item.is c.requires c.loop-unit.invariant.keeps c.in_ok-three.ensures.keeps c.loop-unit.invariant.made c.in_ok-three.ensures.triple);
    }

pub returns-clause-drives : goal.returns-clause-drives
returns-clause-drives c = subst (λ xs. AreOf c.args.graph.now c.loop-unit.graph c.args.table.now drive_level xs c.loop-unit.made.items)
    (take_all c.loop-unit.unit-index c.items-units.result.now c.loop-unit-test.false ∙ c.items-units.ensures) c.loop-unit.invariant.made
