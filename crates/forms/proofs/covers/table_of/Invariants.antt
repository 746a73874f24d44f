use Rattle.std.proofs.Common.{◌≡◌, take}
use Rattle.std.specs.List.{flat_map}
use Rattle.forms.specs.Cones.{literals_at}
use Rattle.forms.proofs.covers.table_of.Given as goal

abbrev pub invariant-loop-var : goal.invariant-loop-var
invariant-loop-var l = l.table.items ≡ flat_map (literals_at l.board) (take l.var-index l.vars)
