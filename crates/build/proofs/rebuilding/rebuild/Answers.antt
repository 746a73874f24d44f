use Rattle.std.proofs.Common.{◌≡◌, ◌<◌, length, map, sym, subst, ap, ◌∙◌, arith}
use Rattle.std.specs.List.{All}
use Rattle.std.proofs.lemmas.List.{length-map}
use Rattle.mig_base.specs.Boards.{ChipUnit}
use Rattle.equations.proofs.UnitsWithin.{units-within}
use Rattle.new_board.specs.NewChip.{OldBoard}
use Rattle.new_board.specs.NewFiles.{fitted, new_net}
use Rattle.new_board.specs.OneForOne.{old_board, same_chips_from, same_chips}
use Rattle.build.proofs.CodeWires.{chips-few}
use Rattle.build.proofs.rebuilding.rebuild.Goals as goal

pub place_lines-requires : goal.place_lines-requires
place_lines-requires c =
    subst (All (λ (u : ChipUnit). u.chip < length c.args.net.now.chips)) (sym (c.as_slice-2.ensures.value ∙ ap (λ (b : OldBoard). b.units) (c.old.view_is ∙ c.in_ok-old.ensures.old)))
    (units-within 0 (length c.args.net.now.chips) c.args.chips.now (omega (arith, c.requires.chips)))

pub new_net-requires-clause-chips : goal.new_net-requires-clause-chips
new_net-requires-clause-chips c =
    let made : c.in_ok-made.made.items ≡ map (fitted (old_board c.args.net.now c.args.chips.now)) (same_chips c.args.net.now c.args.chips.now) =
    c.in_ok-made.ensures ∙ ap (map (fitted c.in_ok-old.old)) (c.as_slice-3.ensures.value ∙ c.in_ok-planned.ensures)
    ∙ ap (λ (b : OldBoard). map (fitted b) (same_chips_from b 0 b.net.chips c.args.chips.now)) c.in_ok-old.ensures.old in
    let few = chips-few (old_board c.args.net.now c.args.chips.now) 0 c.args.net.now.chips c.args.chips.now in
    let same : length (map (fitted (old_board c.args.net.now c.args.chips.now)) (same_chips c.args.net.now c.args.chips.now)) ≡ length (same_chips c.args.net.now c.args.chips.now) =
    length-map (same_chips c.args.net.now c.args.chips.now) (fitted (old_board c.args.net.now c.args.chips.now)) in
    omega (arith, c.requires.lines, ap length c.as_slice-4.ensures.value, ap length made)

pub returns-clause-net : goal.returns-clause-net
returns-clause-net c =
    let made : c.in_ok-made.made.items ≡ map (fitted (old_board c.args.net.now c.args.chips.now)) (same_chips c.args.net.now c.args.chips.now) =
    c.in_ok-made.ensures ∙ ap (map (fitted c.in_ok-old.old)) (c.as_slice-3.ensures.value ∙ c.in_ok-planned.ensures)
    ∙ ap (λ (b : OldBoard). map (fitted b) (same_chips_from b 0 b.net.chips c.args.chips.now)) c.in_ok-old.ensures.old in
    c.in_ok-net.ensures ∙ ap (new_net c.args.net.now) (c.as_slice-4.ensures.value ∙ made)
