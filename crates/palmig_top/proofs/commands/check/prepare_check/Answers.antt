use Rattle.std.proofs.lemmas.Result.{err_from_is_err_and}
use Rattle.board.specs.Joined.{Joined}
use Rattle.verdicts.specs.JudgedBoard.{JudgesBoard}
use Rattle.verdicts.specs.commands.Check.{Checks, PreparesCheck, LoadsCheck}
use Rattle.palmig_top.specs.Preparing.{outcome_in}
use Rattle.palmig_top.proofs.Chains.{broken, then-found}
use Rattle.palmig_top.proofs.commands.check.prepare_check.Goals as goal

pub returns-in_err-board-clause-step : goal.returns-in_err-board-clause-step
returns-in_err-board-clause-step g c =
    let p = err_from_is_err_and c.from_residual.result c.from_residual.ensures.1 in
    let stem = c.args.stem.now in
    rw (p.1, p.2) (broken (λ (b : Joined). b) outcome_in (JudgesBoard stem) (λ h. Checks) (PreparesCheck stem) (LoadsCheck stem) (LoadsCheck stem)
    (g.F.Files.held c.args.files.now) (g.F.Files.held c.read_board.new.files) (g.F.Files.counts c.args.files.now) (g.F.Files.counts c.read_board.new.files) c.in_err-board.field-0.0
    (λ h q t. t) (λ h f l. l) c.in_err-board.ensures.step)

pub returns-clause-step : goal.returns-clause-step
returns-clause-step g c =
    let stem = c.args.stem.now in
    then-found (λ (b : Joined). b) outcome_in (JudgesBoard stem) Checks (PreparesCheck stem) (LoadsCheck stem)
    (g.F.Files.held c.args.files.now) (g.F.Files.held c.read_board.new.files) (g.F.Files.counts c.args.files.now) (g.F.Files.counts c.read_board.new.files)
    c.in_ok-board.board c.checked.result (λ h q t. t) c.in_ok-board.ensures.step c.checked.ensures.found
