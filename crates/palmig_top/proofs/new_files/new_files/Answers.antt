use Rattle.std.proofs.Common.{map}
use Rattle.palmig_top.specs.Saving.{file_of}
use Rattle.palmig_top.proofs.NewFilesMade.{named-files}
use Rattle.palmig_top.proofs.new_files.new_files.Goals as goal

pub returns : goal.returns
returns c =
    named-files c.args.new.now c.args.files (map file_of c.in_ok-saves.saves.items) (map file_of c.add_file.new.saves.items) (map file_of c.add_file-2.new.saves.items) c.in_ok-plan.plan c.in_ok-net.net
    c.in_ok-saves.ensures c.in_ok-add_file.ensures c.in_ok-add_file-2.ensures c.in_ok-plan.ensures c.in_ok-net.ensures
