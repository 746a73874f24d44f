use Rattle.std.proofs.Common.{◌≡◌, List, subst, Ok, Err}
use Rattle.std.proofs.lemmas.Result.{err_from_is_err_and}
use Rattle.mig_base.specs.declared.nets.ChipLine.{ChipLine}
use Rattle.verdicts.specs.JudgedBoard.{chips_held, LoadsChips}
use Rattle.palmig_top.specs.Steps.{Step}
use Rattle.palmig_top.proofs.BoardSteps.{wiring-refused, chips-refused, board-found, board-read, read-lines}
use Rattle.palmig_top.proofs.boards.read_board.Goals as goal

pub returns-in_err-net-clause-step : goal.returns-in_err-net-clause-step
returns-in_err-net-clause-step g c =
    let p = err_from_is_err_and c.from_residual.result c.from_residual.ensures.1 in
    rw (p.1, p.2) (wiring-refused (λ b. b) (g.F.Files.held c.args.files.now) (g.F.Files.held c.read_wiring.new.files) (g.F.Files.counts c.args.files.now) (g.F.Files.counts c.read_wiring.new.files)
    c.args.stem.now c.in_err-net.field-0.0 c.in_err-net.ensures.step)

pub returns-in_err-chips-clause-step : goal.returns-in_err-chips-clause-step
returns-in_err-chips-clause-step g c =
    let p = err_from_is_err_and c.from_residual-in_err-chips.result c.from_residual-in_err-chips.ensures.1 in
    rw (p.1, p.2) (chips-refused (λ b. b) (λ v. v.items) (g.F.Files.held c.args.files.now) (g.F.Files.held c.read_wiring.new.files) (g.F.Files.held c.read_chips.new.files)
    (g.F.Files.counts c.args.files.now) (g.F.Files.counts c.read_wiring.new.files) (g.F.Files.counts c.read_chips.new.files) c.args.stem.now c.in_ok-net.net c.in_err-chips.field-0.0
    c.in_ok-net.ensures.step
    (subst (λ (ls : List ChipLine). Step (λ v. v.items) (λ h q. chips_held h c.args.stem.now ls ≡ q) (λ h f. LoadsChips h c.args.stem.now ls f)
    (g.F.Files.held c.read_wiring.new.files) (g.F.Files.held c.read_chips.new.files) (g.F.Files.counts c.read_wiring.new.files) (g.F.Files.counts c.read_chips.new.files)
    (Err c.in_err-chips.field-0.0)) c.items.ensures c.in_err-chips.ensures.step))

pub joined-requires : goal.joined-requires
joined-requires g c = record { wiring = c.in_ok-net.ensures.read; chips = read-lines c.items.result.now c.in_ok-net.net.chips c.in_ok-chips.chips.items c.items.ensures c.in_ok-chips.ensures.read }

pub returns-clause-step : goal.returns-clause-step
returns-clause-step g c =
    board-found (λ b. b) (λ v. v.items) (g.F.Files.held c.args.files.now) (g.F.Files.held c.read_wiring.new.files) (g.F.Files.held c.read_chips.new.files)
    (g.F.Files.counts c.args.files.now) (g.F.Files.counts c.read_wiring.new.files) (g.F.Files.counts c.read_chips.new.files) c.args.stem.now c.in_ok-net.net c.in_ok-chips.chips c.joined.result
    c.in_ok-net.ensures.step
    (subst (λ (ls : List ChipLine). Step (λ v. v.items) (λ h q. chips_held h c.args.stem.now ls ≡ q) (λ h f. LoadsChips h c.args.stem.now ls f)
    (g.F.Files.held c.read_wiring.new.files) (g.F.Files.held c.read_chips.new.files) (g.F.Files.counts c.read_wiring.new.files) (g.F.Files.counts c.read_chips.new.files)
    (Ok c.in_ok-chips.chips)) c.items.ensures c.in_ok-chips.ensures.step) c.joined.ensures

pub returns-clause-read : goal.returns-clause-read
returns-clause-read g c = board-read _ _ c.joined.result c.joined.ensures
    (record { wiring = c.in_ok-net.ensures.read; chips = read-lines c.items.result.now c.in_ok-net.net.chips c.in_ok-chips.chips.items c.items.ensures c.in_ok-chips.ensures.read })
