-- What has no saves.
use Rattle.std.proofs.Common.{ℕ, ◌≡◌, ◌≢◌, ◌⊎◌, true, false, Bool, List, [], Option, Some, None, Result, Ok, Err, sym, ap, subst, ◌∙◌, inl, inr}
use Rattle.mig_base.specs.declared.cells.ChipCells.{ChipCells}
use Rattle.mig_base.specs.declared.plans.Plan.{Plan}
use Rattle.board.specs.Joined.{Joined}
use Rattle.mig_io.specs.Holding.{Held}
use Rattle.answers.specs.declared.exit.Exit.{Exit}
use Rattle.answers.specs.declared.exit.Exit.TheVariants.{Done}
use Rattle.answers.specs.declared.words.Command.{Command}
use Rattle.answers.specs.declared.words.Command.TheVariants as command
use Rattle.answers.specs.declared.words.Migration.{Migration}
use Rattle.answers.specs.declared.words.Listing.{Listing}
use Rattle.answers.specs.declared.words.Simulation.{Simulation}
use Rattle.answers.specs.Commands.{command_or_refusal}
use Rattle.verdicts.specs.Outcomes.{◌>>=◌, Outcome, only_if}
use Rattle.verdicts.specs.JudgedBoard.{chip_held}
use Rattle.verdicts.specs.commands.Migrate.{JudgesMigration, PreparesMigration, MigratesBy, PlansTo, IsBroken, IsBuilt}
use Rattle.verdicts.specs.commands.Check.{JudgesCheck, PreparesCheck}
use Rattle.verdicts.specs.commands.List.{JudgesListing, listed_file, listed_outcome}
use Rattle.verdicts.specs.commands.Sim.{JudgesRun}
use Rattle.verdicts.specs.Laws.{OnlyDoneSaves}
use Rattle.verdicts.specs.Verdict.{Judges, JudgesSaid}

ok-same : (x y : Outcome) → (let q : Result Outcome Exit = Ok x in q) ≡ Ok y → x ≡ y
ok-same x y p = cc

-- a value of a test is what was tested
tested : (t : Bool) (x y : Outcome) (e : Exit) → only_if t x e ≡ Ok y → x ≡ y
tested true x y e p = ok-same x y p
tested false x y e p = cc

-- what is done, or saves nothing
abbrev IsDoneOrBare : Outcome → Type 0
IsDoneOrBare x = (x.answer ≡ Done) ⊎ (x.saves ≡ [])

made-bare : (new : List ℕ) (b : Joined) (p : Plan) (o : Outcome) → IsBroken b p o ⊎ IsBuilt new b p o → IsDoneOrBare o
made-bare new b p o (inl broken) = inr (ap (λ (q : Outcome). q.saves) broken.comes)
made-bare new b p o (inr built) = inl (ap (λ (q : Outcome). q.answer) built.comes)

planned-bare : (new : List ℕ) (b : Joined) (p : Plan) (x : Outcome) → PlansTo new b p (Ok x) → IsDoneOrBare x
planned-bare new b p x (o, same, made) = subst IsDoneOrBare (sym (ok-same x o same)) (made-bare new b p o made)

by-plan : (m : Migration) (handed : Option (List ℕ)) (held : Held) (b : Joined) (x : Outcome) → MigratesBy m handed held b (Ok x) → IsDoneOrBare x
by-plan m None held b x p = inl (ap (λ (o : Outcome). o.answer) (sym (tested _ _ x _ p)))
by-plan m (Some plan) held b x (inl p) = planned-bare m.new b p.0 x p.2
by-plan m (Some plan) held b x (inr p) = absurd (let no : ⊥ = cc in no)

migration-prepared : (m : Migration) (held : Held) (x : Outcome) → PreparesMigration m held (Ok x) → IsDoneOrBare x
migration-prepared m held x (inl p) = by-plan m m.plan held p.0 x p.2
migration-prepared m held x (inr p) = absurd (let no : ⊥ = cc in no)

bare-saves : (x : Outcome) → IsDoneOrBare x → x.answer ≢ Done → x.saves ≡ []
bare-saves x (inl p) other = absurd (other p)
bare-saves x (inr p) other = p

migration-saves : (m : Migration) (held : Held) (o : Outcome) → JudgesMigration m held o → o.answer ≢ Done → o.saves ≡ []
migration-saves m held o (inl p) other = bare-saves o (subst IsDoneOrBare (sym p.2) (migration-prepared m held p.0 p.1)) other
migration-saves m held o (inr p) other = ap (λ (q : Outcome). q.saves) p.2

listed-saves : (r : Result ChipCells Exit) (x : Outcome) → (r >>= λ cells. Ok (listed_outcome cells)) ≡ Ok x → x.saves ≡ []
listed-saves (Ok cells) x e = ap (λ (q : Outcome). q.saves) (sym (ok-same (listed_outcome cells) x e))
listed-saves (Err e) x p = cc

listing-saves : (l : Listing) (held : Held) (o : Outcome) → JudgesListing l held o → o.saves ≡ []
listing-saves l held o (inl p) = ap (λ (q : Outcome). q.saves) p.2 ∙ listed-saves (chip_held held (listed_file l) l.kind) p.0 p.1
listing-saves l held o (inr p) = ap (λ (q : Outcome). q.saves) p.2

check-prepared : (stem : List ℕ) (held : Held) (x : Outcome) → PreparesCheck stem held (Ok x) → x.saves ≡ []
check-prepared stem held x (inl p) = ap (λ (q : Outcome). q.saves) (ok-same x _ p.2.2)
check-prepared stem held x (inr p) = absurd (let no : ⊥ = cc in no)

check-saves : (stem : List ℕ) (held : Held) (o : Outcome) → JudgesCheck stem held o → o.saves ≡ []
check-saves stem held o (inl p) = ap (λ (q : Outcome). q.saves) p.2 ∙ check-prepared stem held p.0 p.1
check-saves stem held o (inr p) = ap (λ (q : Outcome). q.saves) p.2

run-saves : (s : Simulation) (held : Held) (o : Outcome) → JudgesRun s held o → o.saves ≡ []
run-saves s held o (inl (b, judged, inl p)) = ap (λ (q : Outcome). q.saves) p.2.2
run-saves s held o (inl (b, judged, inr p)) = ap (λ (q : Outcome). q.saves) p.2
run-saves s held o (inr p) = ap (λ (q : Outcome). q.saves) p.2

command-saves : (c : Command) (held : Held) (o : Outcome) → Judges c held o → o.answer ≢ Done → o.saves ≡ []
command-saves (command.Migrate m) held o p other = migration-saves m held o p other
command-saves (command.List l) held o p other = listing-saves l held o p
command-saves (command.Check stem) held o p other = check-saves stem held o p
command-saves (command.Sim s) held o p other = run-saves s held o p

said-saves : (said : Result Command Exit) (held : Held) (o : Outcome) → JudgesSaid said held o → o.answer ≢ Done → o.saves ≡ []
said-saves (Ok c) held o p other = command-saves c held o p other
said-saves (Err e) held o p other = ap (λ (q : Outcome). q.saves) p

pub only-done-saves : OnlyDoneSaves
only-done-saves = λ words held o p other. said-saves (command_or_refusal words) held o p other
