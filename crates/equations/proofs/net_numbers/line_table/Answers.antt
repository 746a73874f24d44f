use Rattle.std.proofs.Common.{rules, ◌-◌, arith}
use Rattle.std.proofs.Math.Seq.{drop-length}
use Rattle.equations.proofs.TableLemmas.{table-new, line-table}
use Rattle.equations.proofs.net_numbers.line_table.Goals as goal

pub loop-place-init : goal.loop-place-init
loop-place-init c = rw (c.in_ok-table.ensures, drop-length) (table-new _ _ _ (λ q. search rules))

pub loop-place-preserved : goal.loop-place-preserved
loop-place-preserved c = rw c.set.ensures (line-table c.args.lines.now c.loop-place.place (c.loop-place.place - 1) _ _ c.loop-place.table (omega arith) (omega arith) (search rules) c.loop-place.invariant)
