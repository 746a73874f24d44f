use Rattle.std.proofs.Common.{◌≡◌, ◌∙◌, List, sym, subst}
use Rattle.mig_base.specs.declared.levels.Level.{Level}
use Rattle.board.specs.Joined.{equations_of}
use Rattle.settle.specs.Made.{IsInputFor}
use Rattle.trials.specs.Places.{handed_over}
use Rattle.trials.specs.Stepping.{IsStepped}
use Rattle.trials.proofs.HandedOver.{over-input, over-made, over-room}
use Rattle.trials.proofs.configs.step_both.Goals as goal

pub hand_over-requires : goal.hand_over-requires
hand_over-requires c = c.requires.room ∙ sym (over-room c.args.a.now c.args.b.now c.args.pairing.now c.items.result.now c.requires.pairing c.items.ensures)

pub advance-requires-2-clause-given : goal.advance-requires-2-clause-given
advance-requires-2-clause-given c =
    let a = c.args.a.now in
    let b = c.args.b.now in
    let made : c.hand_over.new.to ≡ handed_over a.net b.net c.args.given.now.levels =
    over-made a b c.args.pairing.now c.items.result.now c.items-2.result.now c.args.given.now.levels c.hand_over.new.to c.requires.pairing c.items.ensures c.items-2.ensures c.hand_over.ensures in
    subst (IsInputFor (equations_of b)) (sym made) (over-input a b c.args.given.now.levels c.requires.ports c.requires.pairing.wiring c.requires.given)

pub returns-clause-b : goal.returns-clause-b
returns-clause-b c =
    let a = c.args.a.now in
    let b = c.args.b.now in
    let made : c.hand_over.new.to ≡ handed_over a.net b.net c.args.given.now.levels =
    over-made a b c.args.pairing.now c.items.result.now c.items-2.result.now c.args.given.now.levels c.hand_over.new.to c.requires.pairing c.items.ensures c.items-2.ensures c.hand_over.ensures in
    subst (λ (given : List Level). IsStepped (equations_of b) given c.args.pair.now.b c.advance-2.new.config c.advance-2.new.shown.items) made c.advance-2.ensures.stepped
