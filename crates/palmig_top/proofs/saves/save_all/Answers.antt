use Rattle.std.proofs.Common.{List, ◌≡◌, ◌∙◌, ◌+◌, ◌∷◌, ◌++◌, [], sym, subst, ap, arith, take, map}
use Rattle.std.proofs.lemmas.List.{take_more}
use Rattle.std.specs.Option.{option_map}
use Rattle.palmig_top.specs.declared.saves.NewFile.{NewFile}
use Rattle.verdicts.specs.Outcomes.{File}
use Rattle.verdicts.specs.Answer.{placed_all}
use Rattle.palmig_top.specs.Saving.{file_of}
use Rattle.palmig_top.proofs.Chains.{fell-on}
use Rattle.palmig_top.proofs.SavingLemmas.{one_more, take-files}
use Rattle.palmig_top.proofs.saves.save_all.Goals as goal

pub loop-file-preserved : goal.loop-file-preserved
loop-file-preserved g c =
    let front : take (c.loop-file.file-index + 1) c.args.saves.now ≡ take c.loop-file.file-index c.args.saves.now ++ c.file-item.result ∷ [] =
    take_more c.args.saves.now c.loop-file.file-index c.file-item.result (omega arith) ∙ ap (λ (x : NewFile). take c.loop-file.file-index c.args.saves.now ++ x ∷ []) (sym c.file-item.is) in (
      subst (λ (fs : List File). g.F.Files.held c.save_one.new.files ≡ option_map (placed_all fs) (g.F.Files.held c.args.files.now)) (sym (take-files c.args.saves.now c.loop-file.file-index c.file-item.result front))
          (one_more (map file_of c.args.saves.now) (take c.loop-file.file-index (map file_of c.args.saves.now)) (file_of c.file-item.result) (g.F.Files.held c.args.files.now) (g.F.Files.held c.loop-file.files)
          (g.F.Files.held c.save_one.new.files) c.loop-file.invariant.0 c.in_ok-save_one.ensures.held),
      fell-on (g.F.Files.counts c.args.files.now) (g.F.Files.counts c.loop-file.files) (g.F.Files.counts c.save_one.new.files) c.loop-file.invariant.1 c.in_ok-save_one.ensures.later,
    )
