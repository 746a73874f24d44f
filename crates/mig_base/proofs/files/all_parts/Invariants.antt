use Rattle.std.proofs.Common.{◌≡◌, ℕ, drop}
use Rattle.std.specs.Prelude.{◌==◌}
use Rattle.std.specs.List.{list_all}
use Rattle.mig_base.specs.Lines.{parts}
use Rattle.mig_base.specs.Names.{is_stem_part}
use Rattle.mig_base.proofs.TextLemmas.{goes_on}
use Rattle.mig_base.proofs.files.all_parts.Given as goal

abbrev pub invariant-loop-byte : goal.invariant-loop-byte
invariant-loop-byte l = goes_on l.begins (drop l.byte-index l.text) ≡ list_all is_stem_part (parts (λ (b : ℕ). b == 47) l.text)
