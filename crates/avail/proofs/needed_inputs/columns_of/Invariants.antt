use Rattle.std.proofs.Common.{◌≡◌, ◌++◌, drop}
use Rattle.std.specs.List.{filter_map}
use Rattle.avail.specs.Needs.{column_at}
use Rattle.avail.proofs.needed_inputs.columns_of.Given as goal

abbrev pub invariant-loop-var : goal.invariant-loop-var
invariant-loop-var l =
    l.columns.items ++ filter_map (column_at l.board l.nets.old.now l.nets.chip.now l.taken) (drop l.var-index l.vars)
    ≡ filter_map (column_at l.board l.nets.old.now l.nets.chip.now l.taken) l.vars
