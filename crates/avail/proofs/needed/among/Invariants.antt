use Rattle.std.proofs.Common.{◌≡◌, ◌++◌, drop}
use Rattle.std.specs.Prelude.{filter}
use Rattle.avail.specs.Needed.{are_read}
use Rattle.avail.proofs.needed.among.Given as goal

abbrev pub invariant-loop-variable : goal.invariant-loop-variable
invariant-loop-variable l = l.kept.items ++ filter (are_read l.reads) (drop l.variable-index l.variables) ≡ filter (are_read l.reads) l.variables
