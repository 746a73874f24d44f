-- The clauses of the top call.
use Rattle.std.specs.Prelude.{ℕ, ◌≡◌, ◌⊎◌, List, Option, Some, None, Ok, IfSome, map, length}
use Rattle.mig_base.specs.declared.cells.ChipCells.{ChipCells}
use Rattle.mig_base.specs.declared.nets.Net.{Net}
use Rattle.mig_base.specs.declared.plans.Plan.{Plan}
use Rattle.new_board.specs.declared.types.FittedChip.{FittedChip}
use Rattle.new_board.specs.NewFiles.{new_net}
use Rattle.plans.specs.Breaches.{HasNoBreach}
use Rattle.plans.specs.Fitting.{AreFitted}
use Rattle.mig_io.specs.Holding.{Held}
use Rattle.level_laws.specs.SameBehaviour.{IsSame}
use Rattle.answers.specs.declared.exit.Exit.{Exit}
use Rattle.answers.specs.declared.exit.Exit.TheVariants.{Done}
use Rattle.answers.specs.declared.words.Migration.{Migration}
use Rattle.answers.specs.declared.words.Command.{Command}
use Rattle.answers.specs.declared.words.Command.TheVariants.{Migrate, Sim}
use Rattle.answers.specs.Exits.{Class, class_of}
use Rattle.answers.specs.Exits.Class.{Unsent, Wanting}
use Rattle.board.specs.Joined.{Joined}
use Rattle.shown_runs.specs.Sending.{Gets, GetsPart}
use Rattle.verdicts.specs.HeldBoard.{HoldsBoard, plan_file}
use Rattle.verdicts.specs.commands.Migrate.{new_chips, new_wiring, plan_held}
use Rattle.verdicts.specs.Answer.{Call, Replaced, IsVerdict, IsCaused, LeavesFiles, IsReport}

-- one thing where the sink failed, one for want of memory, and another for every other answer
abbrev pub BySending : Class → Type 0 → Type 0 → Type 0 → Type 0
BySending Unsent failed want whole = failed
BySending Wanting failed want whole = want
BySending _ failed want whole = whole

-- FILES. OutFault replaces an answer that would itself be right; after every other answer the files are as that answer says
abbrev pub LeavesFilesIn : Call → Exit → Type 0
LeavesFilesIn call e = BySending (class_of e) (Replaced call) (LeavesFiles call e) (LeavesFiles call e)

-- a command whose report is sent while it is made
abbrev pub IsSentInParts : Command → Type 0
IsSentInParts (Sim s) = Unit {0}
IsSentInParts _ = ⊥

-- the sink got the whole report of an answer
abbrev pub GetsReport : Call → Exit → Type 0
GetsReport call e = (text : List ℕ) × IsReport call e text × Gets call.sent call.sent_after text

-- the sink got a first part of the report of an answer
abbrev pub GetsReportPart : Call → Exit → Type 0
GetsReportPart call e = (text : List ℕ) × IsReport call e text × GetsPart call.sent call.sent_after text

-- for want of memory the sink got nothing, but for a part of what a run shows
abbrev pub WantsReport : Call → Type 0
WantsReport call = (call.sent_after ≡ call.sent) ⊎ ((c : Command) × (call.said ≡ Ok c) × IsSentInParts c × GetsReportPart call Done)

-- REPORT. the sink grew by exactly the report of the answer; after OutFault by a part of the report of the answer that it replaces; for want of memory by nothing, or by a part of what a run shows
abbrev pub Reports : Call → Exit → Type 0
Reports call e = BySending (class_of e) ((r : Replaced call) × GetsReportPart call r.answer) (WantsReport call) (GetsReport call e)

-- After Done the files under the new stem form an accepted board of as many chips, the one for one plan's,
-- which for every list of lawful inputs from power-up shows on every port after every step what the old board shows
pub record Migrated (before after : Held) (old new : List ℕ) : Type 0 where
  pub old_parts : Joined
  pub new_net : Net
  pub new_cells : List ChipCells
  pub old_board : HoldsBoard before old old_parts.net old_parts.chips
  pub new_board : HoldsBoard after new new_net new_cells
  pub same : IsSame old_parts.net old_parts.chips new_net new_cells
  pub as_many : length new_cells ≡ length old_parts.chips
  pub wiring : new_net ≡ new_wiring old_parts
  pub cells : new_cells ≡ map (λ f. f.cells) (new_chips old_parts)

-- After Done by a handed plan the files under the new stem form an accepted board, that plan's,
-- which for every list of lawful inputs from power-up shows on every port after every step what the old board shows
pub record MigratedBy (before after : Held) (old new stem : List ℕ) : Type 0 where
  pub old_parts : Joined
  pub plan : Plan
  pub chips : List FittedChip
  pub made_net : Net
  pub made_cells : List ChipCells
  pub old_board : HoldsBoard before old old_parts.net old_parts.chips
  pub new_board : HoldsBoard after new made_net made_cells
  pub same : IsSame old_parts.net old_parts.chips made_net made_cells
  pub handed : plan_held before (plan_file stem) ≡ Ok plan
  pub free : HasNoBreach old_parts plan
  pub fitted : AreFitted old_parts plan chips
  pub wiring : made_net ≡ new_net old_parts.net chips
  pub cells : made_cells ≡ map (λ f. f.cells) chips

-- by the plan that is handed, if one is
abbrev pub MigratedWith : Option (List ℕ) → Held → Held → List ℕ → List ℕ → Type 0
MigratedWith None before after old new = Migrated before after old new
MigratedWith (Some handed) before after old new = MigratedBy before after old new handed

-- HEADLINE. what Done of a migration says of the bytes that were held before and are held after
abbrev pub IsMigrated : Call → Exit → Type 0
IsMigrated call answer =
    answer ≡ Done → IfSome call.held (λ h. IfSome call.after (λ k. (m : Migration) → call.said ≡ Ok (Migrate m) → MigratedWith m.plan h k m.old m.new))

-- what is promised of a call and its answer
pub record Keeps (call : Call) (answer : Exit) : Type 0 where
  pub verdict : IsVerdict call answer
  pub faults : IsCaused call answer
  pub files : LeavesFilesIn call answer
  pub report : Reports call answer
  pub headline : IsMigrated call answer
