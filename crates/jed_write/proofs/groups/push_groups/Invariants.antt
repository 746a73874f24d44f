use Rattle.std.proofs.Common.{◌≡◌, ◌≤◌, ◌+◌, ◌++◌, drop, length, sum}
use Rattle.std.specs.List.{flat_map}
use Rattle.mig_base.specs.WrittenFuses.{written_line, group_lines, groups_by}
use Rattle.jed_write.proofs.groups.push_groups.Given as goal

-- the lines of the groups that are left go on where the text ends
abbrev pub invariant-loop-size : goal.invariant-loop-size
invariant-loop-size l =
    (l.at + sum (drop l.size-index l.sizes) ≤ length l.states)
    × (l.text.items ++ flat_map written_line (group_lines (l.first + l.at) (groups_by l.always (drop l.size-index l.sizes) (drop l.at l.states)))
    ≡ l.initial.text.items ++ flat_map written_line (group_lines l.first (groups_by l.always l.sizes l.states)))
