use Rattle.std.proofs.Common.{rules, ◌-◌, arith}
use Rattle.std.proofs.Math.Seq.{drop-length}
use Rattle.equations.proofs.TableLemmas.{table-new, place-table}
use Rattle.equations.proofs.net_numbers.place_table.Goals as goal

pub loop-place-init : goal.loop-place-init
loop-place-init c = rw (c.in_ok-table.ensures, drop-length) (table-new _ _ _ (λ q. omega arith))

pub loop-place-preserved : goal.loop-place-preserved
loop-place-preserved c = rw c.set.ensures (place-table c.args.listed.now c.loop-place.place (c.loop-place.place - 1) _ c.args.first _ c.loop-place.table (omega arith) (omega arith) (search rules) c.loop-place.invariant)
