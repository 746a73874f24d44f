use Rattle.std.proofs.Common.{◌≡◌, take, map}
use Rattle.std.specs.Option.{option_map}
use Rattle.mig_io.specs.Counts.{NoneFell}
use Rattle.verdicts.specs.Answer.{placed_all}
use Rattle.palmig_top.specs.Saving.{file_of}
use Rattle.palmig_top.proofs.saves.save_all.Given as goal

abbrev pub invariant-loop-file : goal.invariant-loop-file
invariant-loop-file g l =
    (g.F.Files.held l.files ≡ option_map (placed_all (take l.file-index (map file_of l.saves))) (g.F.Files.held l.initial.files))
    × NoneFell (g.F.Files.counts l.initial.files) (g.F.Files.counts l.files)
