use Rattle.std.proofs.Common.{◌≡◌, ◌++◌, List, map, take}
use Rattle.std.specs.List.{flat_map}
use Rattle.mig_base.specs.declared.cells.Lit.{Lit}
use Rattle.mig_base.specs.declared.cells.Row.TheVariants as row
use Rattle.mig_base.specs.WrittenCells.{row_fuses}
use Rattle.devices.proofs.writing.push_terms.Given as goal

abbrev pub invariant-loop-term : goal.invariant-loop-term
invariant-loop-term l = l.fuses.items ≡ l.initial.fuses.items ++ flat_map (row_fuses l.columns) (map (λ (lits : List Lit). row.Product lits) (take l.term-index l.terms))
