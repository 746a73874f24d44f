use Rattle.std.proofs.Common.{ℕ, List, ◌≡◌, ◌∙◌, subst}
use Rattle.mig_base.specs.Limits.{most_file_bytes}
use Rattle.palmig_top.proofs.Chains.{then-found, bound}
use Rattle.palmig_top.specs.Steps.{Step}
use Rattle.verdicts.specs.JudgedBoard.{wiring_of, loaded}
use Rattle.verdicts.specs.Outcomes.{◌>>=◌}
use Rattle.verdicts.specs.HeldBoard.{net_file}
use Rattle.palmig_top.proofs.loads.read_wiring.Goals as goal

pub returns-clause-step : goal.returns-clause-step
returns-clause-step g c =
    let name : c.in_ok-name.name ≡ net_file c.args.stem.now = c.in_ok-name.ensures in
    let told : c.in_ok-file.file.name ≡ net_file c.args.stem.now = c.in_ok-file.ensures.named ∙ name in
    let step = then-found (λ r. r.bytes.items) (λ net. net) (λ h q. loaded h most_file_bytes c.in_ok-name.name ≡ q) (λ bytes q. wiring_of c.in_ok-file.file.name bytes ≡ q)
    (λ h q. (loaded h most_file_bytes c.in_ok-name.name >>= λ bytes. wiring_of c.in_ok-file.file.name bytes) ≡ q) (λ h f. f ≡ c.in_ok-name.name)
    (g.F.Files.held c.args.files.now) (g.F.Files.held c.load.new.files) (g.F.Files.counts c.args.files.now) (g.F.Files.counts c.load.new.files)
    c.in_ok-file.file c.wiring_in.result (λ h q t. bound (loaded h most_file_bytes c.in_ok-name.name) (λ bytes. wiring_of c.in_ok-file.file.name bytes) q t) c.in_ok-file.ensures.step c.wiring_in.ensures.says in
    subst (λ (n : List ℕ). Step (λ net. net) (λ h q. (loaded h most_file_bytes n >>= λ bytes. wiring_of (net_file c.args.stem.now) bytes) ≡ q) (λ h f. f ≡ n)
    (g.F.Files.held c.args.files.now) (g.F.Files.held c.load.new.files) (g.F.Files.counts c.args.files.now) (g.F.Files.counts c.load.new.files) c.wiring_in.result) name
    (subst (λ (m : List ℕ). Step (λ net. net) (λ h q. (loaded h most_file_bytes c.in_ok-name.name >>= λ bytes. wiring_of m bytes) ≡ q) (λ h f. f ≡ c.in_ok-name.name)
    (g.F.Files.held c.args.files.now) (g.F.Files.held c.load.new.files) (g.F.Files.counts c.args.files.now) (g.F.Files.counts c.load.new.files) c.wiring_in.result) told step)
