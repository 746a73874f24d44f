use Rattle.std.proofs.Common.{ℕ, ◌≤◌, ◌*◌, ◌+◌, ◌∙◌, List, length, drop, get_or, refl, sym, arith, subst}
use Rattle.class_leaves.proofs.PlaceLaws.{classes-more, end-end, leaves-end, within-more}
use Rattle.class_leaves.proofs.PureLaws.{led-here}
use Rattle.class_leaves.proofs.counting.register_leaves.Goals as goal

pub next_leaf-leaf-requires-clause-within : goal.next_leaf-leaf-requires-clause-within
next_leaf-leaf-requires-clause-within c =
    let low : get_or c.args.classes.now c.loop-class.class-index 0 ≤ c.loop-class.class-index = led-here c.args.classes.now c.loop-class.class-index (get_or c.args.classes.now c.loop-class.class-index 0) c.requires.led c.loop-class-test.true refl in
    omega (arith, low, c.loop-class.invariant.count, c.as_slice.ensures.len, c.as_slice.ensures.value)

pub loop-class-preserved : goal.loop-class-preserved
loop-class-preserved c =
    classes-more c.args.bits.now c.args.classes.now c.loop-class.class-index c.loop-class.place c.next_place-place.result (get_or c.args.classes.now c.loop-class.class-index 0) c.loop-class.leaves.items
    c.as_slice.result.now c.as_slice-in-loop-class.result.now c.push.new.self.items c.next_leaf-leaf.result c.requires.led c.loop-class-test.true refl c.as_slice.ensures.value c.as_slice-in-loop-class.ensures.value
    c.next_leaf-leaf.ensures c.next_place-place.ensures c.in_ok-push.ensures.items c.loop-class.invariant

pub returns-clause-leaves : goal.returns-clause-leaves
returns-clause-leaves c = sym (leaves-end c.args.bits.now c.loop-class.place c.loop-class.leaves.items c.args.classes.now c.loop-class.class-index c.loop-class-test.false) ∙ c.loop-class.invariant.made

pub returns-clause-end : goal.returns-clause-end
returns-clause-end c = sym (end-end c.args.bits.now c.loop-class.place c.loop-class.leaves.items c.args.classes.now c.loop-class.class-index c.loop-class-test.false) ∙ c.loop-class.invariant.ends

pub returns-clause-within : goal.returns-clause-within
returns-clause-within c =
    let old : c.loop-class.place ≤ 2 * c.loop-class.class-index = c.loop-class.invariant.most in
    let last : c.loop-class.class-index ≤ length c.args.classes.now = c.loop-class.auto.class-index-end in
    let most : c.loop-class.place ≤ 2 * length c.args.classes.now = omega (arith, old, last) in
    within-more c.loop-class.place (2 * length c.args.classes.now) c.loop-class.leaves.items most c.loop-class.invariant.within
