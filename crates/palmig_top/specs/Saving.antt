-- What saving files leaves.
use Rattle.std.specs.Prelude.{ℕ, ◌≡◌, List, Option, Some, Result, Ok, Err, IfSome}
use Rattle.std.specs.Option.{option_map}
use Rattle.mig_io.specs.Counts.{Counts, Rose}
use Rattle.mig_io.specs.Holding.{Held, SameBut, placed}
use Rattle.answers.specs.declared.exit.Exit.{Exit}
use Rattle.answers.specs.Exits.{Class, class_of}
use Rattle.answers.specs.Exits.Class.{Unsaved, Wanting}
use Rattle.palmig_top.specs.declared.saves.NewFile.{NewFile}
use Rattle.verdicts.specs.Outcomes.{File}
use Rattle.verdicts.specs.Answer.{StoppedAt, Partly, placed_all}

abbrev pub file_of : NewFile → File
file_of f = (f.name, f.bytes.items)

-- why one save failed: its content is open, or nothing changed
abbrev pub FailsOneAs : Class → List ℕ → Option Held → Option Held → Counts → Counts → Type 0
FailsOneAs (Unsaved f) name old new before now = (f ≡ name) × SameBut name old new × Rose before.save_faults now.save_faults
FailsOneAs Wanting name old new before now = new ≡ old
FailsOneAs _ name old new before now = ⊥

-- one file was saved, or why not
abbrev pub SavesOne : List ℕ → List ℕ → Option Held → Option Held → Counts → Counts → Result (Unit {0}) Exit → Type 0
SavesOne name bytes old new before now (Ok done) = new ≡ option_map (placed name (Some bytes)) old
SavesOne name bytes old new before now (Err e) = FailsOneAs (class_of e) name old new before now

-- why a save failed: those before it are in place and its content is open; or some are in place
abbrev pub FailsAllAs : Class → List File → Option Held → Option Held → Counts → Counts → Type 0
FailsAllAs (Unsaved f) files old new before now = Rose before.save_faults now.save_faults × IfSome old (λ h. (k : ℕ) × StoppedAt k f files h new)
FailsAllAs Wanting files old new before now = IfSome old (λ h. Partly files h new before now)
FailsAllAs _ files old new before now = ⊥

-- all files were saved, or why not
abbrev pub SavesAll : List File → Option Held → Option Held → Counts → Counts → Result (Unit {0}) Exit → Type 0
SavesAll files old new before now (Ok done) = new ≡ option_map (placed_all files) old
SavesAll files old new before now (Err e) = FailsAllAs (class_of e) files old new before now
