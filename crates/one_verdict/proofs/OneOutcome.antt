-- A command comes to one outcome.
use Rattle.std.proofs.Common.{ℕ, ◌≡◌, List, [], Result, Ok, Err, sym, ap, ◌∙◌, subst, inl, inr}
use Rattle.mig_base.specs.Accepted.{IsAccepted}
use Rattle.mig_base.specs.declared.circuit.Circuit.{Circuit}
use Rattle.mig_base.specs.declared.nets.NetLine.{NetLine}
use Rattle.mig_base.specs.declared.scripts.Script.{Script}
use Rattle.mig_io.specs.Holding.{Held}
use Rattle.answers.specs.declared.exit.Exit.{Exit}
use Rattle.answers.specs.declared.words.Command.{Command}
use Rattle.answers.specs.declared.words.Command.TheVariants as command
use Rattle.answers.specs.declared.words.Simulation.{Simulation}
use Rattle.answers.specs.Commands.{command_or_refusal}
use Rattle.ranks.specs.declared.Ranks.{Ranks}
use Rattle.ranks.proofs.OneRanks.{ranks-unique}
use Rattle.board.specs.Joined.{Joined, equations_of, HasRank}
use Rattle.shown_runs.specs.Sending.{inputs_of}
use Rattle.verdicts.specs.HeldBoard.{sim_file}
use Rattle.verdicts.specs.Outcomes.{Outcome, Ends, told}
use Rattle.verdicts.specs.JudgedBoard.{JudgesBoard}
use Rattle.verdicts.specs.commands.Migrate.{PreparesMigration, MigratesBy}
use Rattle.verdicts.specs.commands.List.{prepared_listing}
use Rattle.verdicts.specs.commands.Check.{Checks, PreparesCheck, checked_outcome}
use Rattle.verdicts.specs.commands.Sim.{Shows, JudgesScript, JudgesRun, script_held, shown_outcome}
use Rattle.verdicts.specs.Verdict.{Judges, JudgesSaid}
use Rattle.one_verdict.specs.OneVerdict.{VerdictIsOne}
use Rattle.one_verdict.proofs.OnePlan.{migrated-once}
use Rattle.one_verdict.proofs.OneRefusal.{then-once, board-once, board-accepted}
use Rattle.level_laws.proofs.RanksExist.{accepted-runs-once}

-- two ends are one, where the step and what comes of it are
ends-once : {A : Type 0} (nets : List NetLine) (first : Result A Exit → Type 0) (next : A → Outcome → Type 0) (o p : Outcome) → ((r s : Result A Exit) → first r → first s → r ≡ s) →
    ((x : A) (a b : Outcome) → first (Ok x) → next x a → next x b → a ≡ b) → Ends nets first next o → Ends nets first next p → o ≡ p
ends-once {A = A} nets first next o p one more (inl a) (inl b) =
    let same : a.0 ≡ b.0 = let e : (let v : Result A Exit = Ok a.0 in v) ≡ Ok b.0 = one (Ok a.0) (Ok b.0) a.1 b.1 in cc in
    more b.0 o p b.1 (subst (λ (x : A). next x o) same a.2) b.2
ends-once nets first next o p one more (inl a) (inr b) = absurd (let e = one (Ok a.0) (Err b.0) a.1 b.1 in let no : ⊥ = cc in no)
ends-once nets first next o p one more (inr a) (inl b) = absurd (let e = one (Err a.0) (Ok b.0) a.1 b.1 in let no : ⊥ = cc in no)
ends-once {A = A} nets first next o p one more (inr a) (inr b) =
    let same : a.0 ≡ b.0 = let e : (let v : Result A Exit = Err a.0 in v) ≡ Err b.0 = one (Err a.0) (Err b.0) a.1 b.1 in cc in
    a.2 ∙ ap (told nets) same ∙ sym b.2

same-outcome : (x : Outcome) (a b : Outcome) → a ≡ x → b ≡ x → a ≡ b
same-outcome x a b p q = p ∙ sym q

-- the rank of a board is one
rank-once : (c : Circuit) (n m : ℕ) → HasRank c n → HasRank c m → n ≡ m
rank-once c n m p q = p.2 ∙ ap (λ (r : Ranks). r.top) (ranks-unique c p.0 q.0 p.1 q.1) ∙ sym q.2

checks-once : (b : Joined) (r s : Result Outcome Exit) → Checks b r → Checks b s → r ≡ s
checks-once b r s p q = p.2 ∙ ap (λ (n : ℕ). Ok (checked_outcome b n)) (rank-once (equations_of b) p.0 q.0 p.1 q.1) ∙ sym q.2

-- the run of an accepted board is one
shows-once : (b : Joined) (script : Script) (o p : Outcome) → IsAccepted (equations_of b) → Shows b script o → Shows b script p → o ≡ p
shows-once b script o p accepted a c =
    a.2 ∙ ap (shown_outcome b) (accepted-runs-once (equations_of b) accepted (inputs_of script) a.0 c.0 a.1 c.1) ∙ sym c.2

script-once : (s : Simulation) (held : Held) (b : Joined) (o p : Outcome) → IsAccepted (equations_of b) → JudgesScript s held b o → JudgesScript s held b p → o ≡ p
script-once s held b o p accepted a c =
    ends-once b.net.nets (λ q. script_held held (sim_file s.script) b ≡ q) (Shows b) o p (λ x y u v. sym u ∙ v) (λ script x y u v w. shows-once b script x y accepted v w) a c

run-once : (s : Simulation) (held : Held) (o p : Outcome) → JudgesRun s held o → JudgesRun s held p → o ≡ p
run-once s held o p a c =
    ends-once [] (JudgesBoard s.board held) (JudgesScript s held) o p (board-once s.board held)
    (λ b x y j u v. script-once s held b x y (board-accepted s.board held b j) u v) a c

command-once : (c : Command) (held : Held) (o p : Outcome) → Judges c held o → Judges c held p → o ≡ p
command-once (command.Migrate m) held o p a c =
    ends-once [] (PreparesMigration m held) (λ x q. q ≡ x) o p
    (λ r s u v. then-once (JudgesBoard m.old held) (MigratesBy m m.plan held) r s (board-once m.old held) (λ b x y j e f. migrated-once m m.plan held b x y e f) u v) (λ x y z u v w. same-outcome x y z v w) a c
command-once (command.List l) held o p a c = ends-once [] (λ r. prepared_listing l held ≡ r) (λ x q. q ≡ x) o p (λ r s u v. sym u ∙ v) (λ x y z u v w. same-outcome x y z v w) a c
command-once (command.Check stem) held o p a c =
    ends-once [] (PreparesCheck stem held) (λ x q. q ≡ x) o p
    (λ r s u v. then-once (JudgesBoard stem held) Checks r s (board-once stem held) (λ b x y j e f. checks-once b x y e f) u v) (λ x y z u v w. same-outcome x y z v w) a c
command-once (command.Sim s) held o p a c = run-once s held o p a c

said-once : (said : Result Command Exit) (held : Held) (o p : Outcome) → JudgesSaid said held o → JudgesSaid said held p → o ≡ p
said-once (Ok c) held o p a d = command-once c held o p a d
said-once (Err e) held o p a d = a ∙ sym d

pub one-verdict : VerdictIsOne
one-verdict = λ words held o p a c. said-once (command_or_refusal words) held o p a c
