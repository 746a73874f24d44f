use Rattle.std.proofs.Common.{◌≡◌, ◌++◌, map, take, string_bytes}
use Rattle.std.specs.List.{flat_map}
use Rattle.mig_base.specs.WrittenBoard.{written_line}
use Rattle.listing.specs.ListedChip.{term_words}
use Rattle.listing.proofs.writing.write_terms.Given as goal

abbrev pub invariant-loop-term : goal.invariant-loop-term
invariant-loop-term l = string_bytes l.text ≡ string_bytes l.initial.text ++ flat_map written_line (map term_words (take l.term-index l.terms))
