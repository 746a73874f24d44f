use Rattle.std.proofs.Common.{List, ◌≤◌, ◌++◌, ◌∙◌, ap, sym, subst, map, length}
use Rattle.mig_base.specs.declared.nets.Net.{Net}
use Rattle.new_board.specs.NewFiles.{fitted, new_net}
use Rattle.new_board.specs.OneForOne.{old_board, same_chips, one_for_one}
use Rattle.palmig_top.specs.declared.saves.NewFile.{NewFile}
use Rattle.palmig_top.specs.Saving.{file_of}
use Rattle.verdicts.specs.Outcomes.{done}
use Rattle.new_board.specs.declared.types.FittedChip.{FittedChip}
use Rattle.new_board.specs.Files.{fuse_file, last_files}
use Rattle.built_files.specs.BoardFiles.{as_files}
use Rattle.palmig_top.proofs.HeldParts.{read-writable}
use Rattle.palmig_top.proofs.NewFilesMade.{writable-chips, writable-wiring, outcome-made, built-on, circuit-on, many-on}
use Rattle.palmig_top.proofs.commands.migrate.rebuilt.Goals as goal

pub rebuild-requires-clause-nets : goal.rebuild-requires-clause-nets
rebuild-requires-clause-nets c = subst (λ (n : Net). length n.nets ≤ 1024) (sym c.net.ensures.net) (read-writable c.args.board.now.net c.requires.read.wiring).few_nets

pub rebuild-requires-clause-lines : goal.rebuild-requires-clause-lines
rebuild-requires-clause-lines c = subst (λ (n : Net). length n.chips ≤ 64) (sym c.net.ensures.net) (read-writable c.args.board.now.net c.requires.read.wiring).few_chips

pub rebuild-requires-clause-chips : goal.rebuild-requires-clause-chips
rebuild-requires-clause-chips c = many-on c.args.board.now c.net.result.now c.chips.result.now c.requires.read c.net.ensures.net c.chips.ensures

pub rebuild-requires-clause-circuit : goal.rebuild-requires-clause-circuit
rebuild-requires-clause-circuit c = circuit-on c.args.board.now c.circuit.result.now c.net.result.now c.chips.result.now c.circuit.ensures.circuit c.net.ensures.net c.chips.ensures

pub written_files-requires-clause-chips : goal.written_files-requires-clause-chips
written_files-requires-clause-chips c = writable-chips c.args.board.now c.requires.read c.requires.taken c.items.result.now
    (c.items.ensures ∙ built-on (λ n q. map (fitted (old_board n q)) (same_chips n q)) c.net.ensures.net c.chips.ensures c.in_ok-made.ensures.chips)

pub written_files-requires-clause-wiring : goal.written_files-requires-clause-wiring
written_files-requires-clause-wiring c = writable-wiring c.args.board.now c.requires.read c.requires.taken c.in_ok-made.made.net
    (built-on (λ n q. new_net n (map (fitted (old_board n q)) (same_chips n q))) c.net.ensures.net c.chips.ensures c.in_ok-made.ensures.net)

pub returns : goal.returns
returns c = ap (λ (q : List NewFile). done (map file_of q) c.in_ok-report.report.items) c.new.ensures
    ∙ outcome-made c.args.new.now c.args.board.now c.in_ok-made.made.chips c.in_ok-made.made.plan c.in_ok-made.made.net (as_files c.in_ok-files.files) (map file_of c.in_ok-saves.saves.items) c.in_ok-report.report.items
    c.items-old_count.result.now c.items-2.result.now
    (built-on (λ n q. map (fitted (old_board n q)) (same_chips n q)) c.net.ensures.net c.chips.ensures c.in_ok-made.ensures.chips)
    (built-on (λ n q. one_for_one n q) c.net.ensures.net c.chips.ensures c.in_ok-made.ensures.plan)
    (built-on (λ n q. new_net n (map (fitted (old_board n q)) (same_chips n q))) c.net.ensures.net c.chips.ensures c.in_ok-made.ensures.net)
    (c.in_ok-files.ensures ∙ ap (λ (q : List FittedChip). map fuse_file q ++ last_files c.in_ok-made.made.plan c.in_ok-made.made.net) c.items.ensures)
    c.in_ok-saves.ensures
    c.in_ok-report.ensures
    (c.items-old_count.ensures ∙ ap (λ (n : Net). n.chips) c.net-2.ensures.net)
    c.items-2.ensures
