use Rattle.std.proofs.Common.{ℕ, ◌≡◌, List, [], map, Result, Ok, ap, ◌∙◌}
use Rattle.answers.specs.declared.exit.Exit.{Exit}
use Rattle.answers.specs.declared.shows.Counted.{Counted}
use Rattle.answers.specs.Reports.{accepted_line}
use Rattle.board.specs.Joined.{Joined, equations_of}
use Rattle.palmig_top.specs.declared.saves.NewFile.{NewFile}
use Rattle.verdicts.specs.Outcomes.{Outcome, done}
use Rattle.verdicts.specs.commands.Check.{Checks}
use Rattle.palmig_top.specs.Saving.{file_of}
use Rattle.palmig_top.specs.Preparing.{IsCounted}
use Rattle.std.specs.Prelude.{length}
use Rattle.palmig_top.proofs.NewFilesMade.{done-ends}
use Rattle.palmig_top.proofs.commands.check.checked.Goals as goal

-- these files, and this report
abbrev told : List NewFile → List ℕ → Result Outcome Exit
told saves report = Ok (done (map file_of saves) report)

-- what was counted is reported
counted-told : (b : Joined) (n : Counted) (saves : List NewFile) (report : List ℕ) → IsCounted b n → saves ≡ [] → report ≡ accepted_line n.chips n.nets n.units n.registers n.rank → Checks b (told saves report)
counted-told b n saves report i s r = (
  n.rank,
  i.rank,
  ap (λ (fs : List NewFile). told fs report) s
      ∙ ap (told []) (r ∙ ap (λ (k : ℕ). accepted_line k n.nets n.units n.registers n.rank) i.chips
      ∙ ap (λ (k : ℕ). accepted_line (length b.net.chips) k n.units n.registers n.rank) i.nets
      ∙ ap (λ (k : ℕ). accepted_line (length b.net.chips) (length b.net.nets) k n.registers n.rank) i.units
      ∙ ap (λ (k : ℕ). accepted_line (length b.net.chips) (length b.net.nets) (length (equations_of b).units) k n.rank) i.registers),
)

pub returns-clause-found : goal.returns-clause-found
returns-clause-found c = counted-told c.args.board.now c.counted.result c.new-2.result c.in_ok-report.report.items c.counted.ensures (c.new-2.ensures ∙ c.new.ensures.items) c.in_ok-report.ensures

pub returns-clause-end : goal.returns-clause-end
returns-clause-end c = done-ends _ _
