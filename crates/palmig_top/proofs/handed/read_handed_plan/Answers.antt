use Rattle.std.proofs.Common.{ℕ, List, ◌≡◌, ◌∙◌, subst}
use Rattle.mig_base.specs.Limits.{most_file_bytes}
use Rattle.verdicts.specs.HeldBoard.{plan_file}
use Rattle.verdicts.specs.Outcomes.{◌>>=◌}
use Rattle.verdicts.specs.JudgedBoard.{loaded}
use Rattle.verdicts.specs.commands.Migrate.{plan_of}
use Rattle.palmig_top.specs.Steps.{Step}
use Rattle.palmig_top.proofs.Chains.{then-found, bound}
use Rattle.palmig_top.proofs.handed.read_handed_plan.Goals as goal

pub returns-clause-step : goal.returns-clause-step
returns-clause-step g c =
    let name : c.in_ok-name.name ≡ plan_file c.args.stem.now = c.in_ok-name.ensures in
    let told : c.in_ok-file.file.name ≡ plan_file c.args.stem.now = c.in_ok-file.ensures.named ∙ name in
    let says = c.plan_in.ensures.says in
    let step = then-found (λ r. r.bytes.items) (λ plan. plan) (λ h q. loaded h most_file_bytes c.in_ok-name.name ≡ q) (λ bytes q. plan_of c.in_ok-file.file.name bytes ≡ q)
    (λ h q. (loaded h most_file_bytes c.in_ok-name.name >>= λ bytes. plan_of c.in_ok-file.file.name bytes) ≡ q) (λ h f. f ≡ c.in_ok-name.name)
    (g.F.Files.held c.args.files.now) (g.F.Files.held c.load.new.files) (g.F.Files.counts c.args.files.now) (g.F.Files.counts c.load.new.files)
    c.in_ok-file.file c.plan_in.result (λ h q t. bound (loaded h most_file_bytes c.in_ok-name.name) (λ bytes. plan_of c.in_ok-file.file.name bytes) q t) c.in_ok-file.ensures.step says in
    subst (λ (n : List ℕ). Step (λ plan. plan) (λ h q. (loaded h most_file_bytes n >>= λ bytes. plan_of (plan_file c.args.stem.now) bytes) ≡ q) (λ h f. f ≡ n)
    (g.F.Files.held c.args.files.now) (g.F.Files.held c.load.new.files) (g.F.Files.counts c.args.files.now) (g.F.Files.counts c.load.new.files) c.plan_in.result) name
    (subst (λ (m : List ℕ). Step (λ plan. plan) (λ h q. (loaded h most_file_bytes c.in_ok-name.name >>= λ bytes. plan_of m bytes) ≡ q) (λ h f. f ≡ c.in_ok-name.name)
    (g.F.Files.held c.args.files.now) (g.F.Files.held c.load.new.files) (g.F.Files.counts c.args.files.now) (g.F.Files.counts c.load.new.files) c.plan_in.result) told step)
