use Rattle.std.proofs.Common.{◌≡◌, ◌<◌, ◌≤◌, ◌++◌, ◌∷◌, [], List, length, get_or, sym, ap, subst, ◌∙◌, arith}
use Rattle.std.proofs.lemmas.List.{map-append}
use Rattle.mig_base.specs.declared.levels.Level.{Level}
use Rattle.mig_base.specs.declared.circuit.Inputs.{Inputs}
use Rattle.board.specs.Joined.{equations_of}
use Rattle.level_laws.specs.Runs.{IsRun}
use Rattle.level_laws.proofs.RanksExist.{accepted-runs-once}
use Rattle.settle.specs.Configs.{last_of}
use Rattle.settle.specs.Made.{IsInputFor}
use Rattle.settle.proofs.StepLaws.{run-more, run-ends}
use Rattle.sim_run.specs.declared.shows.Shown.{Shown}
use Rattle.sim_run.proofs.PureRuns.{board-runs}
use Rattle.sim_run.proofs.Running.{levels_of, levels-at, levels-long, levels-short, shown_of}
use Rattle.sim_run.proofs.scripts.run_script.Goals as goal

pub step-requires-clause-inputs : goal.step-requires-clause-inputs
step-requires-clause-inputs c =
    let i = c.loop-inputs.inputs-index in
    let inputs = c.inputs-item.result in
    let lt : i < length c.args.script.now.steps = omega (arith, ap length c.items-inputs-items.ensures) in
    let item : inputs ≡ get_or c.args.script.now.steps i inputs = subst (λ (all : List Inputs). inputs ≡ get_or all i inputs) c.items-inputs-items.ensures c.inputs-item.is in
    subst (λ (g : Inputs). IsInputFor (equations_of c.args.b.now) g.levels) (sym item) (c.requires.script i inputs lt)

pub loop-inputs-preserved : goal.loop-inputs-preserved
loop-inputs-preserved c =
    let board = equations_of c.args.b.now in
    let steps = c.args.script.now.steps in
    let i = c.loop-inputs.inputs-index in
    let old = c.loop-inputs.config in
    let new = c.step.new.config in
    let inputs = c.inputs-item.result in
    let shown = c.in_ok-shown_of.field-0 in
    let showns = c.loop-inputs.showns.items in
    let lt : i < length steps = omega (arith, ap length c.items-inputs-items.ensures) in
    let item : inputs ≡ get_or steps i inputs = subst (λ (all : List Inputs). inputs ≡ get_or all i inputs) c.items-inputs-items.ensures c.inputs-item.is in
    let whole : shown_of c.push.new.self.items ≡ shown_of showns ++ shown.levels ∷ [] =
    ap shown_of c.in_ok-push.ensures.items ∙ map-append (λ (s : Shown). s.levels) showns (shown ∷ []) in record {
      made = c.step.ensures.made;
      so_far = λ rest tail. subst (λ (seen : List (List Level)). IsRun board (levels_of steps) (seen ++ rest)) (sym whole)
          (run-more board (levels_of steps) i inputs.levels old.stored (last_of old) new.stored (last_of new) new.levels shown.levels (shown_of showns)
          (levels-long steps i lt) (levels-at steps i inputs lt item) c.step.ensures.step c.step.ensures.last c.step.ensures.settled c.in_ok-shown_of.ensures.shown c.loop-inputs.invariant.so_far rest tail);
    }

pub returns-clause-run : goal.returns-clause-run
returns-clause-run c =
    let steps = c.args.script.now.steps in
    let all : length steps ≤ c.loop-inputs.inputs-index = omega (arith, ap length c.items-inputs-items.ensures) in
    run-ends (equations_of c.args.b.now) (levels_of steps) c.loop-inputs.inputs-index c.loop-inputs.config.stored (last_of c.loop-inputs.config) _
    (levels-short steps c.loop-inputs.inputs-index all) c.loop-inputs.invariant.so_far

pub returns-clause-only : goal.returns-clause-only
returns-clause-only c =
    λ others run. accepted-runs-once (equations_of c.args.b.now) c.circuit.ensures.accepted (levels_of c.args.script.now.steps) _ others (returns-clause-run c) run

pub returns-clause-pure : goal.returns-clause-pure
returns-clause-pure c =
    board-runs c.args.b.now c.args.script.now.steps c.loop-inputs.showns.items c.circuit.ensures.accepted c.requires.script (returns-clause-run c)
