use Rattle.std.proofs.Common.{ℕ, List, ◌≡◌, subst}
use Rattle.palmig_top.specs.Steps.{Step}
use Rattle.verdicts.specs.JudgedBoard.{chip_held}
use Rattle.palmig_top.proofs.loads.read_chip_of.Goals as goal

pub returns-clause-step : goal.returns-clause-step
returns-clause-step g c =
    subst (λ (n : List ℕ). Step (λ cells. cells) (λ h q. chip_held h n c.args.line.now.kind ≡ q) (λ h f. f ≡ n)
    (g.F.Files.held c.args.files.now) (g.F.Files.held c.read_chip.new.files) (g.F.Files.counts c.args.files.now) (g.F.Files.counts c.read_chip.new.files) c.read_chip.result)
    c.in_ok-name.ensures c.read_chip.ensures.step
