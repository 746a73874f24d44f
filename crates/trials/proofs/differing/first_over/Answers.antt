use Rattle.std.proofs.Common.{◌≡◌, ◌≤◌, List, length, arith, subst}
use Rattle.std.proofs.lemmas.List.{length-map}
use Rattle.mig_base.specs.declared.circuit.Inputs.{Inputs}
use Rattle.trials.specs.Differences.{inputs_of}
use Rattle.trials.proofs.FirstOnes.{even-begins, even-stepped, first-here, none-over, stepped-at}
use Rattle.trials.proofs.HandedOver.{paired}
use Rattle.trials.proofs.differing.first_over.Goals as goal

pub loop-n-init : goal.loop-n-init
loop-n-init c = record {
  made_a = c.in_ok-pair.ensures.a.made;
  made_b = c.in_ok-pair.ensures.b.made;
  room = c.in_ok-pair.ensures.given;
  left = c.in_ok-pair.ensures.left;
  right = c.in_ok-pair.ensures.right;
  even = even-begins c.args.a.now c.args.b.now c.args.pairing.now.shows (inputs_of c.args.script.now) c.in_ok-pair.pair.a c.in_ok-pair.pair.b c.in_ok-pair.ensures.a c.in_ok-pair.ensures.b;
}

pub loop-n-preserved : goal.loop-n-preserved
loop-n-preserved c =
    let a = c.args.a.now in
    let b = c.args.b.now in
    let old = c.loop-n.pair in
    let new = c.step_both.new.pair in
    let given = c.given-item.result in
    record {
      made_a = c.step_both.ensures.a.made;
      made_b = c.step_both.ensures.b.made;
      room = c.step_both.ensures.room;
      left = c.step_both.ensures.left;
      right = c.step_both.ensures.right;
      even = even-stepped a b c.args.pairing.now.shows (inputs_of c.args.script.now) c.loop-n.n given.levels old.a old.b new.a new.b new.left.items new.right.items
          (stepped-at a b c.items-given-items.result.now c.args.script.now.steps c.loop-n.n given old.a old.b new.a new.b new.left.items new.right.items c.items-given-items.ensures c.loop-n-test.true
          c.given-item.is c.step_both.ensures.a c.step_both.ensures.b)
          c.loop-n.invariant.even c.in_default.ensures;
    }

pub returns-in-Some : goal.returns-in-Some
returns-in-Some c =
    let a = c.args.a.now in
    let b = c.args.b.now in
    let old = c.loop-n.pair in
    let new = c.step_both.new.pair in
    let given = c.given-item.result in
    record {
      first = first-here a b c.args.pairing.now.shows (inputs_of c.args.script.now) c.loop-n.n given.levels old.a old.b new.a new.b new.left.items new.right.items c.in-Some.uneven
          (paired a b c.args.pairing.now c.requires.ports c.requires.pairing)
          (stepped-at a b c.items-given-items.result.now c.args.script.now.steps c.loop-n.n given old.a old.b new.a new.b new.left.items new.right.items c.items-given-items.ensures c.loop-n-test.true
          c.given-item.is c.step_both.ensures.a c.step_both.ensures.b)
          c.loop-n.invariant.even c.step_both.ensures.left c.step_both.ensures.right c.in-Some.ensures;
    }

pub returns : goal.returns
returns c =
    let a = c.args.a.now in
    let b = c.args.b.now in
    let all : length c.args.script.now.steps ≤ c.loop-n.n = subst (λ (xs : List Inputs). length xs ≤ c.loop-n.n) c.items-given-items.ensures c.loop-n-test.false in
    let long : length (inputs_of c.args.script.now) ≡ length c.args.script.now.steps = length-map c.args.script.now.steps (λ (s : Inputs). s.levels) in
    record {
      first = none-over a b c.args.pairing.now.shows (inputs_of c.args.script.now) c.loop-n.n c.loop-n.pair.a c.loop-n.pair.b (paired a b c.args.pairing.now c.requires.ports c.requires.pairing) (omega arith)
          c.loop-n.invariant.even;
    }
