-- What a call comes to, by the words and by what is held before it.
use Rattle.std.specs.Prelude.{ℕ, ◌≡◌, List, [], Result, Ok, Err}
use Rattle.mig_io.specs.Holding.{Held}
use Rattle.answers.specs.declared.exit.Exit.{Exit}
use Rattle.answers.specs.declared.words.Command.{Command}
use Rattle.answers.specs.declared.words.Command.TheVariants as command
use Rattle.answers.specs.Commands.{command_or_refusal}
use Rattle.verdicts.specs.Outcomes.{Outcome, told}
use Rattle.verdicts.specs.commands.Migrate.{JudgesMigration, LoadsMigration}
use Rattle.verdicts.specs.commands.List.{JudgesListing, LoadsListing}
use Rattle.verdicts.specs.commands.Check.{JudgesCheck, LoadsCheck}
use Rattle.verdicts.specs.commands.Sim.{JudgesRun, LoadsRun}

-- what a command comes to
abbrev pub Judges : Command → Held → Outcome → Type 0
Judges (command.Migrate m) held o = JudgesMigration m held o
Judges (command.List l) held o = JudgesListing l held o
Judges (command.Check stem) held o = JudgesCheck stem held o
Judges (command.Sim s) held o = JudgesRun s held o

-- the files that a command loads: each one, where every rule before its load holds
abbrev pub LoadsFor : Command → Held → List ℕ → Type 0
LoadsFor (command.Migrate m) held f = LoadsMigration m held f
LoadsFor (command.List l) held f = LoadsListing l held f
LoadsFor (command.Check stem) held f = LoadsCheck stem held f
LoadsFor (command.Sim s) held f = LoadsRun s held f

-- what words come to that say this; words that are refused alone say so themselves
abbrev pub JudgesSaid : Result Command Exit → Held → Outcome → Type 0
JudgesSaid (Ok c) held o = Judges c held o
JudgesSaid (Err e) held o = o ≡ told [] e

-- VERDICT of a call: what it comes to
abbrev pub JudgesWords : List (List ℕ) → Held → Outcome → Type 0
JudgesWords words held o = JudgesSaid (command_or_refusal words) held o

-- a file that the command of these words loads, where every rule before its load holds
abbrev pub LoadsSaid : Result Command Exit → Held → List ℕ → Type 0
LoadsSaid (Ok c) held f = LoadsFor c held f
LoadsSaid (Err e) held f = ⊥
