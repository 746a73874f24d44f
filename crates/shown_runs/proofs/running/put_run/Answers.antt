use Rattle.std.proofs.Common.{ℕ, ◌≡◌, ◌≤◌, ◌+◌, List, length, ◌∙◌, refl, sym, None, Result, string_bytes, subst}
use Rattle.std.proofs.lemmas.Result.{err_from_is_err_and}
use Rattle.mig_io.specs.declared.sink.PutError.{PutError}
use Rattle.shown_runs.specs.Sending.{PutsRun}
use Rattle.mig_io.specs.declared.sink.PutError.TheVariants.{Memory}
use Rattle.mig_io.specs.Holding.{Puts}
use Rattle.answers.specs.Reports.{ports_line}
use Rattle.mig_base.specs.declared.circuit.Inputs.{Inputs}
use Rattle.board.specs.Joined.{equations_of}
use Rattle.level_laws.specs.Runs.{power_up}
use Rattle.settle.specs.Configs.{last_of}
use Rattle.shown_runs.proofs.Sent.{nothing-part}
use Rattle.shown_runs.proofs.Progressing.{step-handed, on-way-begins, on-way-stepped, on-way-sent, on-way-breaks, on-way-ends}
use Rattle.shown_runs.proofs.running.put_run.Goals as goal

-- as many steps as were lent
ended : (steps mine : List Inputs) (i : ℕ) → steps ≡ mine → length steps ≤ i → length mine ≤ i
ended steps mine i e all = subst (λ (xs : List Inputs). length xs ≤ i) e all

pub returns-in_default-clause-sent : goal.returns-in_default-clause-sent
returns-in_default-clause-sent g c =
    let b = c.args.board.now in
    let sent = g.O.Sink.sent c.args.out.now in
    on-way-breaks b c.args.script.now 0 (power_up (equations_of b)) None (ports_line b.net.nets) sent sent sent Memory c.begin.ensures.accepted
    (on-way-begins b c.args.script.now (power_up (equations_of b)) None (ports_line b.net.nets) sent refl refl refl) (nothing-part sent (ports_line b.net.nets))

pub loop-inputs-init : goal.loop-inputs-init
loop-inputs-init g c = record {
  made = c.in-Ok.ensures.made;
  places = c.in-Ok.ensures.places;
  way = on-way-begins c.args.board.now c.args.script.now c.in-Ok.progress.config.stored (last_of c.in-Ok.progress.config) (string_bytes c.in-Ok.progress.text) (g.O.Sink.sent c.args.out.now)
      c.in-Ok.ensures.stored c.in-Ok.ensures.last c.in-Ok.ensures.text;
  calm = refl;
}

pub show_step-requires-clause-inputs : goal.show_step-requires-clause-inputs
show_step-requires-clause-inputs g c =
    step-handed c.args.board.now c.args.script.now.steps c.items-inputs-items.result.now c.loop-inputs.inputs-index c.inputs-item.result c.requires c.items-inputs-items.ensures
    c.loop-inputs-test.true c.inputs-item.is

pub returns-in_err-show_step-clause-sent : goal.returns-in_err-show_step-clause-sent
returns-in_err-show_step-clause-sent g c =
    let p = err_from_is_err_and c.from_residual.result c.from_residual.ensures.1 in
    let old = g.O.Sink.sent c.args.out.now in
    let mid = g.O.Sink.sent c.loop-inputs.out in
    let progress = c.loop-inputs.progress in
    subst (λ (r : Result (Unit {0}) PutError). PutsRun c.args.board.now c.args.script.now old mid r) (sym p.1)
    (on-way-breaks c.args.board.now c.args.script.now c.loop-inputs.inputs-index progress.config.stored (last_of progress.config) (string_bytes progress.text)
    old mid mid p.0 c.begin.ensures.accepted c.loop-inputs.invariant.way (nothing-part mid (string_bytes progress.text)))

pub returns-in_err-put_piece-clause-sent : goal.returns-in_err-put_piece-clause-sent
returns-in_err-put_piece-clause-sent g c =
    let p = err_from_is_err_and c.from_residual-in_err-put_piece.result c.from_residual-in_err-put_piece.ensures.1 in
    let sent = g.O.Sink.sent c.args.out.now in
    let mid = g.O.Sink.sent c.loop-inputs.out in
    let after = g.O.Sink.sent c.put_piece.new.out in
    let old = c.loop-inputs.progress in
    let new = c.show_step.new.run in
    let way = on-way-stepped c.args.board.now c.args.script.now c.items-inputs-items.result.now c.loop-inputs.inputs-index c.inputs-item.result old.config.stored (last_of old.config)
    new.config.stored (last_of new.config) new.config.levels (string_bytes old.text) (string_bytes new.text) sent mid c.loop-inputs.invariant.way c.items-inputs-items.ensures
    c.loop-inputs-test.true c.inputs-item.is c.show_step.ensures.step c.show_step.ensures.last c.show_step.ensures.settled c.in_ok-show_step.ensures.text in
    subst (λ (r : Result (Unit {0}) PutError). PutsRun c.args.board.now c.args.script.now sent after r) (sym p.1)
    (on-way-breaks c.args.board.now c.args.script.now (c.loop-inputs.inputs-index + 1) new.config.stored (last_of new.config) (string_bytes new.text)
    sent mid after p.0 c.begin.ensures.accepted way c.in_err-put_piece.ensures.sent)

pub loop-inputs-preserved : goal.loop-inputs-preserved
loop-inputs-preserved g c =
    let mid = g.O.Sink.sent c.loop-inputs.out in
    let old = c.loop-inputs.progress in
    let new = c.show_step.new.run in
    let way = on-way-stepped c.args.board.now c.args.script.now c.items-inputs-items.result.now c.loop-inputs.inputs-index c.inputs-item.result old.config.stored (last_of old.config)
    new.config.stored (last_of new.config) new.config.levels (string_bytes old.text) (string_bytes new.text) (g.O.Sink.sent c.args.out.now) mid c.loop-inputs.invariant.way c.items-inputs-items.ensures
    c.loop-inputs-test.true c.inputs-item.is c.show_step.ensures.step c.show_step.ensures.last c.show_step.ensures.settled c.in_ok-show_step.ensures.text in
    record {
      made = c.show_step.ensures.made;
      places = c.show_step.ensures.places;
      way = on-way-sent c.args.board.now c.args.script.now (c.loop-inputs.inputs-index + 1) new.config.stored (last_of new.config) (string_bytes new.text) (string_bytes c.put_piece.new.text)
          (g.O.Sink.sent c.args.out.now) mid (g.O.Sink.sent c.put_piece.new.out) way c.in_ok-put_piece.ensures.sent;
      calm = c.in_ok-put_piece.ensures.causes.same (λ e. let no : ⊥ = cc in no) ∙ c.loop-inputs.invariant.calm;
    }

pub returns-clause-sent : goal.returns-clause-sent
returns-clause-sent g c =
    let mid = g.O.Sink.sent c.loop-inputs.out in
    on-way-ends c.args.board.now c.args.script.now c.loop-inputs.inputs-index c.loop-inputs.progress.config.stored (last_of c.loop-inputs.progress.config) (string_bytes c.loop-inputs.progress.text)
    (g.O.Sink.sent c.args.out.now) mid (g.O.Sink.sent c.put.new.self) c.put.result (ended c.items-inputs-items.result.now c.args.script.now.steps c.loop-inputs.inputs-index c.items-inputs-items.ensures c.loop-inputs-test.false)
    c.loop-inputs.invariant.way (subst (λ (bytes : List ℕ). Puts mid (g.O.Sink.sent c.put.new.self) bytes c.put.result) c.as_bytes.ensures.value c.put.ensures.sent)
