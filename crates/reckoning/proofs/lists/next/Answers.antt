use Rattle.std.proofs.Common.{◌+◌, [], take, take_all, sym, ◌∙◌, subst}
use Rattle.mig_base.specs.Reads.{edge_reads}
use Rattle.level_laws.specs.Runs.{taken}
use Rattle.reckoning.specs.Triples.{NeverFloat}
use Rattle.reckoning.specs.Made.{AreOf}
use Rattle.reckoning.proofs.Kept.{keeps_refl, keeps_trans, never_kept, table_kept}
use Rattle.reckoning.proofs.ListLaws.{never-push, list-start, list-more}
use Rattle.reckoning.proofs.lists.next.Goals as goal

pub loop-register-init : goal.loop-register-init
loop-register-init c = record {
  keeps = keeps_refl c.args.graph.now;
  canonical = c.vars-count.ensures.canonical;
  known = subst (NeverFloat c.args.graph.now) (sym c.new-made.ensures.items) (λ n. tt);
  made = subst (AreOf c.args.graph.now c.args.graph.now c.args.table.now taken []) (sym c.new-made.ensures.items) (list-start c.args.graph.now c.args.table.now taken);
}

pub taken-requires : goal.taken-requires
taken-requires c = table_kept c.args.graph.now c.loop-register.graph c.args.table.now c.loop-register.invariant.keeps c.requires

pub loop-register-preserved : goal.loop-register-preserved
loop-register-preserved c =
    let a = c.args.graph.now in
    let b = c.loop-register.graph in
    let d = c.taken.new.graph in
    let item = c.register-item.result in
    record {
      keeps = keeps_trans a b d c.loop-register.invariant.keeps c.in_ok-three.ensures.keeps;
      canonical = c.in_ok-three.ensures.canonical;
      known = subst (NeverFloat d) (sym c.in_ok-push.ensures.items) (never-push d c.loop-register.made.items c.in_ok-three.three (never_kept b d c.loop-register.made.items c.in_ok-three.ensures.keeps c.loop-register.invariant.known) c.in_ok-three.ensures.known);
      made = subst (AreOf a d c.args.table.now taken (take (c.loop-register.register-index + 1) c.items-registers.result.now)) (sym c.in_ok-push.ensures.items)
          (list-more a b d c.args.table.now taken c.items-registers.result.now c.loop-register.register-index item item c.loop-register.made.items c.in_ok-three.three
          (edge_reads item) c.loop-register-test.true c.register-item.is c.requires c.loop-register.invariant.keeps c.in_ok-three.ensures.keeps c.loop-register.invariant.made c.in_ok-three.ensures.triple);
    }

pub returns-clause-taken : goal.returns-clause-taken
returns-clause-taken c = subst (λ xs. AreOf c.args.graph.now c.loop-register.graph c.args.table.now taken xs c.loop-register.made.items)
    (take_all c.loop-register.register-index c.items-registers.result.now c.loop-register-test.false ∙ c.items-registers.ensures) c.loop-register.invariant.made
