use Rattle.std.proofs.Common.{ℕ, List, ◌≡◌, subst}
use Rattle.mig_base.specs.Limits.{most_file_bytes}
use Rattle.palmig_top.proofs.Chains.{then-found, bound}
use Rattle.palmig_top.specs.Steps.{Step}
use Rattle.verdicts.specs.JudgedBoard.{chip_of, loaded}
use Rattle.verdicts.specs.Outcomes.{◌>>=◌}
use Rattle.palmig_top.proofs.loads.read_chip.Goals as goal

pub returns-clause-step : goal.returns-clause-step
returns-clause-step g c =
    subst (λ (m : List ℕ). Step (λ cells. cells) (λ h q. (loaded h most_file_bytes c.args.name >>= λ bytes. chip_of m c.args.kind bytes) ≡ q) (λ h f. f ≡ c.args.name)
    (g.F.Files.held c.args.files.now) (g.F.Files.held c.load.new.files) (g.F.Files.counts c.args.files.now) (g.F.Files.counts c.load.new.files) c.chip_in.result) c.in_ok-file.ensures.named
    (then-found (λ r. r.bytes.items) (λ cells. cells) (λ h q. loaded h most_file_bytes c.args.name ≡ q) (λ bytes q. chip_of c.in_ok-file.file.name c.args.kind bytes ≡ q)
    (λ h q. (loaded h most_file_bytes c.args.name >>= λ bytes. chip_of c.in_ok-file.file.name c.args.kind bytes) ≡ q) (λ h f. f ≡ c.args.name)
    (g.F.Files.held c.args.files.now) (g.F.Files.held c.load.new.files) (g.F.Files.counts c.args.files.now) (g.F.Files.counts c.load.new.files)
    c.in_ok-file.file c.chip_in.result (λ h q t. bound (loaded h most_file_bytes c.args.name) (λ bytes. chip_of c.in_ok-file.file.name c.args.kind bytes) q t) c.in_ok-file.ensures.step c.chip_in.ensures.says)
