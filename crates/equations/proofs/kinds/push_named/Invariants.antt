use Rattle.std.proofs.Common.{◌≡◌, ◌≤◌, ◌++◌, drop}
use Rattle.mig_base.specs.Boards.{kinds_from}
use Rattle.equations.proofs.kinds.push_named.Given as goal

abbrev pub invariant-loop-line : goal.invariant-loop-line
invariant-loop-line l = record {
  kinds : l.kinds.items ++ kinds_from l.place (drop l.line-index l.lines) ≡ l.fn.kinds.items ++ kinds_from 0 l.lines;
  small : l.place ≤ l.line-index;
}
