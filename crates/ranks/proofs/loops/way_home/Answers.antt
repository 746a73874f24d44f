use Rattle.std.proofs.Common.{◌≡◌, ◌-◌, ◌∙◌, ℕ, suc, Some, List, sym, subst, arith}
use Rattle.mig_base.specs.declared.circuit.Read.{Read}
use Rattle.mig_base.specs.Among.{Among}
use Rattle.mig_base.specs.Reads.{node_reads}
use Rattle.mig_base.specs.Structure.{all_variables}
use Rattle.ranks.specs.FirstLoop.{IsFirst}
use Rattle.ranks.specs.Marked.{mark_in}
use Rattle.ranks.specs.Ways.{IsStep, IsLoopBack}
use Rattle.ranks.proofs.LoopLaws.{IsOnWay, step-there, way-next, way-whole}
use Rattle.ranks.proofs.loops.way_home.Goals as goal

pub first_step-last-requires : goal.first_step-last-requires
first_step-last-requires c =
    let board = c.args.circuit.now in
    let ways = c.args.ways.now in
    let less : c.loop-left.left ≡ suc (c.loop-left.left - 1) = omega (arith, c.loop-left-test.true) in
    let there = step-there board ways c.args.home c.loop-left.last (c.loop-left.left - 1) c.requires.ways
    (subst (λ (n : ℕ). mark_in ways c.loop-left.last ≡ Some (Some n)) less c.loop-left.invariant.number) in
    subst (λ (reads : List Read). (u : Read) × Among u c.items.result.now × IsStep reads ways (c.loop-left.left - 1) u) (sym (c.of.ensures ∙ c.requires.graph.reads.is c.loop-left.last))
    (subst (λ (nodes : List Read). (u : Read) × Among u nodes × IsStep (node_reads board c.loop-left.last) ways (c.loop-left.left - 1) u) (sym (c.items.ensures ∙ c.requires.graph.nodes)) there)

pub loop-left-preserved : goal.loop-left-preserved
loop-left-preserved c =
    let board = c.args.circuit.now in
    let ways = c.args.ways.now in
    let less : c.loop-left.left ≡ suc (c.loop-left.left - 1) = omega (arith, c.loop-left-test.true) in
    way-next board ways c.args.home c.args.steps c.loop-left.cycle.items _ c.loop-left.last c.first_step-last.result (c.loop-left.left - 1) c.requires.ways
    (subst (IsOnWay board ways c.args.home c.args.steps c.loop-left.cycle.items c.loop-left.last) less c.loop-left.invariant)
    (subst (λ (reads : List Read). IsFirst (IsStep reads ways (c.loop-left.left - 1)) (all_variables board) c.first_step-last.result) (c.of.ensures ∙ c.requires.graph.reads.is c.loop-left.last)
    (subst (λ (nodes : List Read). IsFirst (IsStep c.of.result.now ways (c.loop-left.left - 1)) nodes c.first_step-last.result) (c.items.ensures ∙ c.requires.graph.nodes) c.first_step-last.ensures))
    c.in_ok-push-2.ensures.items

pub returns : goal.returns
returns c =
    let board = c.args.circuit.now in
    let none : c.loop-left.left ≡ 0 = omega (arith, c.loop-left-test.false) in
    subst (IsLoopBack board c.args.home) (sym c.new.ensures)
    (way-whole board c.args.ways.now c.args.home c.args.steps c.loop-left.cycle.items c.loop-left.last c.requires.ways c.requires.steps
    (subst (IsOnWay board c.args.ways.now c.args.home c.args.steps c.loop-left.cycle.items c.loop-left.last) none c.loop-left.invariant))
