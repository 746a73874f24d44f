use Rattle.std.proofs.Common.{◌≡◌, ◌++◌, take, string_bytes}
use Rattle.std.specs.List.{flat_map}
use Rattle.mig_base.specs.WrittenBoard.{written_line}
use Rattle.listing.specs.ListedChip.{cell_lines}
use Rattle.listing.proofs.writing.write_cells.Given as goal

abbrev pub invariant-loop-cell : goal.invariant-loop-cell
invariant-loop-cell l = string_bytes l.text ≡ string_bytes l.initial.text ++ flat_map written_line (flat_map cell_lines (take l.cell-index l.cells))
