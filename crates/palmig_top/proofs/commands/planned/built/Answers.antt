use Rattle.std.proofs.Common.{◌∙◌, List, ap, map}
use Rattle.mig_base.specs.declared.nets.Net.{Net}
use Rattle.built_files.specs.BoardFiles.{as_files}
use Rattle.verdicts.specs.Outcomes.{done}
use Rattle.palmig_top.specs.declared.saves.NewFile.{NewFile}
use Rattle.palmig_top.specs.Saving.{file_of}
use Rattle.palmig_top.proofs.NewFilesMade.{built-made}
use Rattle.palmig_top.proofs.commands.planned.built.Goals as goal

pub returns : goal.returns
returns c = ap (λ (q : List NewFile). done (map file_of q) c.in_ok-report.report.items) c.new.ensures
    ∙ built-made c.args.new.now c.args.board.now c.args.fitted.plan c.args.fitted.chips (as_files c.in_ok-files.files) (map file_of c.in_ok-saves.saves.items) c.in_ok-report.report.items
    c.items-old_count.result.now c.items.result.now c.in_ok-files.ensures.files c.in_ok-saves.ensures c.in_ok-report.ensures
    (c.items-old_count.ensures ∙ ap (λ (n : Net). n.chips) c.net.ensures.net) c.items.ensures
