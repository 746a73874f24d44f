use Rattle.std.proofs.Common.{◌≡◌, ◌++◌, map, take, string_bytes}
use Rattle.listing.specs.ListedChip.{lit_word}
use Rattle.listing.specs.SpacedWords.{spaced}
use Rattle.listing.proofs.writing.write_literals.Given as goal

abbrev pub invariant-loop-lit : goal.invariant-loop-lit
invariant-loop-lit l = string_bytes l.text ≡ string_bytes l.initial.text ++ spaced (map lit_word (take l.lit-index l.lits))
