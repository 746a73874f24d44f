use Rattle.std.proofs.Common.{◌≡◌, ◌<◌, ◌≤◌, ◌+◌, ◌-◌, ◌++◌, List, ℕ, drop, take, length, sum, get_or, ap, sym, ◌∙◌, arith, append_assoc}
use Rattle.std.specs.List.{flat_map}
use Rattle.mig_base.specs.WrittenFuses.{written_line, lines_of_group, groups_by}
use Rattle.jed_write.proofs.PartLemmas.{groups_text, groups-step, sum-step}
use Rattle.jed_write.proofs.groups.push_groups.Goals as goal

pub loop-size-preserved : goal.loop-size-preserved
loop-size-preserved c =
    let sizes = c.args.sizes.now in
    let states = c.args.states.now in
    let at = c.loop-size.at in
    let i = c.loop-size.size-index in
    let lt : i < length sizes = omega arith in
    let left : sum (drop i sizes) ≡ get_or sizes i 0 + sum (drop (i + 1) sizes) = sum-step sizes i lt in
    let inside : at + get_or sizes i 0 ≤ length states = omega arith in
    let rest : List ℕ = groups_text (c.args.first + (at + get_or sizes i 0)) (groups_by c.args.always (drop (i + 1) sizes) (drop (at + get_or sizes i 0) states)) in (
      omega arith,
      ap (λ (text : List ℕ). text ++ rest) c.in_ok-push_group.ensures
          ∙ append_assoc c.loop-size.text.items (flat_map written_line (lines_of_group (c.args.first + at) (record { always = c.args.always; states = take (at + get_or sizes i 0 - at) (drop at states) }))) rest
          ∙ ap (λ (more : List ℕ). c.loop-size.text.items ++ more) (sym (groups-step c.args.always sizes states c.args.first at i (at + get_or sizes i 0 - at) lt inside (omega arith)))
          ∙ c.loop-size.invariant.1,
    )
