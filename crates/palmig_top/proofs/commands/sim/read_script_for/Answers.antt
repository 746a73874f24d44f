use Rattle.std.proofs.Common.{ℕ, List, ◌≡◌, ◌∙◌, subst}
use Rattle.verdicts.specs.HeldBoard.{sim_file}
use Rattle.verdicts.specs.Outcomes.{◌>>=◌}
use Rattle.verdicts.specs.JudgedBoard.{loaded}
use Rattle.verdicts.specs.commands.Sim.{script_of, most_script_bytes}
use Rattle.palmig_top.specs.Steps.{Step}
use Rattle.palmig_top.proofs.Chains.{then-found, bound}
use Rattle.palmig_top.proofs.commands.sim.read_script_for.Goals as goal

pub returns-clause-step : goal.returns-clause-step
returns-clause-step g c =
    let net = c.args.board.now.net in
    let name : c.in_ok-name.name ≡ sim_file c.args.stem.now = c.in_ok-name.ensures in
    let told : c.in_ok-file.file.name ≡ sim_file c.args.stem.now = c.in_ok-file.ensures.named ∙ name in
    let says = c.script_in.ensures.says in
    let step = then-found (λ r. r.bytes.items) (λ script. script) (λ h q. loaded h most_script_bytes c.in_ok-name.name ≡ q) (λ bytes q. script_of c.in_ok-file.file.name net bytes ≡ q)
    (λ h q. (loaded h most_script_bytes c.in_ok-name.name >>= λ bytes. script_of c.in_ok-file.file.name net bytes) ≡ q) (λ h f. f ≡ c.in_ok-name.name)
    (g.F.Files.held c.args.files.now) (g.F.Files.held c.load.new.files) (g.F.Files.counts c.args.files.now) (g.F.Files.counts c.load.new.files)
    c.in_ok-file.file c.script_in.result (λ h q t. bound (loaded h most_script_bytes c.in_ok-name.name) (λ bytes. script_of c.in_ok-file.file.name net bytes) q t) c.in_ok-file.ensures.step says in
    subst (λ (n : List ℕ). Step (λ script. script) (λ h q. (loaded h most_script_bytes n >>= λ bytes. script_of (sim_file c.args.stem.now) net bytes) ≡ q) (λ h f. f ≡ n)
    (g.F.Files.held c.args.files.now) (g.F.Files.held c.load.new.files) (g.F.Files.counts c.args.files.now) (g.F.Files.counts c.load.new.files) c.script_in.result) name
    (subst (λ (m : List ℕ). Step (λ script. script) (λ h q. (loaded h most_script_bytes c.in_ok-name.name >>= λ bytes. script_of m net bytes) ≡ q) (λ h f. f ≡ c.in_ok-name.name)
    (g.F.Files.held c.args.files.now) (g.F.Files.held c.load.new.files) (g.F.Files.counts c.args.files.now) (g.F.Files.counts c.load.new.files) c.script_in.result) told step)
