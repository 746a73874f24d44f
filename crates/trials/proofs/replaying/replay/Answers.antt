use Rattle.std.proofs.Common.{ℕ, ◌≡◌, ◌<◌, ◌≤◌, ◌∙◌, List, length, Some, ap, subst, sym, arith}
use Rattle.std.specs.Prelude.{slice_get}
use Rattle.std.proofs.lemmas.Option.{slice_get_within}
use Rattle.mig_base.specs.declared.circuit.Circuit.{Circuit}
use Rattle.mig_base.specs.declared.circuit.Inputs.{Inputs}
use Rattle.mig_base.specs.declared.levels.Level.{Level}
use Rattle.board.specs.Joined.{equations_of}
use Rattle.level_laws.specs.SameBehaviour.{port_names}
use Rattle.trials.specs.Differences.{IsReplay, inputs_of}
use Rattle.trials.specs.Places.{level_by_place}
use Rattle.trials.proofs.FirstOnes.{ports-count, shows-count, stepped-at}
use Rattle.trials.proofs.HandedOver.{paired}
use Rattle.trials.proofs.NamedLevels.{level_or_x}
use Rattle.trials.proofs.Replays.{last-begins, last-stepped, replay-first, replay-shows}
use Rattle.trials.proofs.replaying.replay.Goals as goal

pub loop-given-init : goal.loop-given-init
loop-given-init c = record {
  made_a = c.in_ok-pair.ensures.a.made;
  made_b = c.in_ok-pair.ensures.b.made;
  room = c.in_ok-pair.ensures.given;
  left = c.in_ok-pair.ensures.left;
  right = c.in_ok-pair.ensures.right;
  run = last-begins c.args.a.now c.args.b.now (inputs_of c.args.t.now.script) c.in_ok-pair.pair.a c.in_ok-pair.pair.b c.in_ok-pair.pair.left.items c.in_ok-pair.pair.right.items c.in_ok-pair.ensures.a
      c.in_ok-pair.ensures.b;
}

pub loop-given-preserved : goal.loop-given-preserved
loop-given-preserved c =
    let a = c.args.a.now in
    let b = c.args.b.now in
    let old = c.loop-given.pair in
    let new = c.step_both.new.pair in
    let given = c.given-item.result in
    let i = c.loop-given.given-index in
    record {
      made_a = c.step_both.ensures.a.made;
      made_b = c.step_both.ensures.b.made;
      room = c.step_both.ensures.room;
      left = c.step_both.ensures.left;
      right = c.step_both.ensures.right;
      run = last-stepped a b (inputs_of c.args.t.now.script) i given.levels old.a old.b new.a new.b old.left.items old.right.items new.left.items new.right.items
          (stepped-at a b c.items-given-items.result.now c.args.t.now.script.steps i given old.a old.b new.a new.b new.left.items new.right.items c.items-given-items.ensures c.loop-given-test.true
          c.given-item.is c.step_both.ensures.a c.step_both.ensures.b)
          c.loop-given.invariant.run;
    }

pub shown_levels-requires : goal.shown_levels-requires
shown_levels-requires c =
    let a = c.args.a.now in
    let b = c.args.b.now in
    let k = c.place_of-place.result in
    let shows = c.in_ok-pairing.pairing.shows in
    let lt : k < length c.items.result.now = slice_get_within c.items.result.now k c.args.t.now.port c.place_of-place.ensures in
    let these : length c.items.result.now ≡ length (equations_of a).ports = ap length (c.items.ensures ∙ ap (λ (e : Circuit). e.ports) c.circuit.ensures.circuit) in
    let e : length shows ≡ length (port_names a.net) = shows-count a b shows (paired a b c.in_ok-pairing.pairing c.requires.ports c.in_ok-pairing.ensures) in
    let f : length (equations_of a).ports ≡ length (port_names a.net) = ports-count a.net a.chips in
    omega arith

pub returns-clause-levels : goal.returns-clause-levels
returns-clause-levels c =
    let a = c.args.a.now in
    let b = c.args.b.now in
    let t = c.args.t.now in
    let k = c.place_of-place.result in
    let pair = c.loop-given.pair in
    let shows = c.in_ok-pairing.pairing.shows in
    let all : length t.script.steps ≤ c.loop-given.given-index = subst (λ (xs : List Inputs). length xs ≤ c.loop-given.given-index) c.items-given-items.ensures c.loop-given-test.false in
    let port : slice_get (equations_of a).ports k ≡ Some t.port =
    subst (λ (ps : List ℕ). slice_get ps k ≡ Some t.port) (c.items.ensures ∙ ap (λ (e : Circuit). e.ports) c.circuit.ensures.circuit) c.place_of-place.ensures in
    subst (λ (x : Level). IsReplay a b t x c.shown_levels.result.1) (sym c.shown_levels.ensures.left)
    (subst (IsReplay a b t (level_or_x (level_by_place pair.left.items (Some k)))) (sym c.shown_levels.ensures.right)
    (replay-shows a b shows t c.loop-given.given-index pair.a pair.b pair.left.items pair.right.items k (paired a b c.in_ok-pairing.pairing c.requires.ports c.in_ok-pairing.ensures)
    c.loop-given.invariant.run all c.requires.steps c.loop-given.invariant.left c.loop-given.invariant.right port))

pub returns-clause-first : goal.returns-clause-first
returns-clause-first c =
    λ f. replay-first c.args.a.now c.args.b.now c.args.t.now c.shown_levels.result.0 c.shown_levels.result.1 c.in_ok-pairing.ensures.accepted_a c.in_ok-pairing.ensures.accepted_b f (returns-clause-levels c)
