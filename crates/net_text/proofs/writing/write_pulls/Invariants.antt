use Rattle.std.proofs.Common.{◌≡◌, ◌++◌, take, string_bytes}
use Rattle.std.specs.List.{flat_map, filter_map}
use Rattle.mig_base.specs.WrittenBoard.{written_line, pull_line}
use Rattle.net_text.proofs.writing.write_pulls.Given as goal

abbrev pub invariant-loop-line : goal.invariant-loop-line
invariant-loop-line l = string_bytes l.text ≡ string_bytes l.fn.text ++ flat_map written_line (filter_map pull_line (take l.line-index l.nets))
