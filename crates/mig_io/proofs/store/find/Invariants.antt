use Rattle.std.proofs.Common.{◌≡◌, drop}
use Rattle.mig_io.specs.Memory.{first_named}
use Rattle.mig_io.proofs.store.find.Given as goal

abbrev pub invariant-loop-file : goal.invariant-loop-file
invariant-loop-file l = first_named (drop l.file-index l.files) l.name ≡ first_named l.files l.name
