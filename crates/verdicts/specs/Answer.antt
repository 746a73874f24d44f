-- What each answer of a call says of the words, the files and the sink, by the class of the answer.
use Rattle.std.specs.Prelude.{ℕ, ◌≡◌, ◌≢◌, ◌⊎◌, true, List, [], ◌∷◌, take, Option, Some, Result, Ok, Err, IfSome, slice_get}
use Rattle.mig_io.specs.Counts.{Counts, Rose, NoneFell}
use Rattle.mig_io.specs.Holding.{Held, SameBut, placed}
use Rattle.answers.specs.declared.exit.Exit.{Exit}
use Rattle.answers.specs.declared.words.Command.{Command}
use Rattle.answers.specs.Exits.{IsSound, Class, class_of, is_own}
use Rattle.answers.specs.Exits.Class.{Worded, Judged, Missed, Unread, Unsaved, Unsent, Wanting}
use Rattle.answers.specs.Reports.{answer_report}
use Rattle.verdicts.specs.Outcomes.{File, Outcome}
use Rattle.verdicts.specs.Verdict.{JudgesSaid, LoadsSaid}

-- what the words say, and what the files and the sink tell before and after, with their counts
pub record Call : Type 0 where
  pub said : Result Command Exit
  pub held : Option Held
  pub after : Option Held
  pub before : Counts
  pub now : Counts
  pub sent : Option (List ℕ)
  pub sent_after : Option (List ℕ)
  pub faults : ℕ
  pub faults_after : ℕ

-- the words are a command that can be begun
abbrev pub IsCommand : Result Command Exit → Type 0
IsCommand said = (c : Command) × (said ≡ Ok c)

-- what the words come to has this answer
pub record Comes (said : Result Command Exit) (held : Held) (answer : Exit) : Type 0 where
  pub outcome : Outcome
  pub judged : JudgesSaid said held outcome
  pub its_answer : outcome.answer ≡ answer

-- VERDICT. Usage and a clash come exactly where the words say so; every other answer but faults and want of memory is that of the verdict, where the files are told
abbrev pub VerdictAs : Class → Result Command Exit → Option Held → Exit → Type 0
VerdictAs Worded said held e = said ≡ Err e
VerdictAs Judged said held e = IsCommand said × IsSound e × IfSome held (λ h. Comes said h e)
VerdictAs (Missed f) said held e = IsCommand said × IfSome held (λ h. Comes said h e)
VerdictAs (Unread f) said held e = IsCommand said
VerdictAs (Unsaved f) said held e = IsCommand said
VerdictAs Unsent said held e = Unit {0}
VerdictAs Wanting said held e = Unit {0}

abbrev pub IsVerdict : Call → Exit → Type 0
IsVerdict call e = VerdictAs (class_of e) call.said call.held e

-- FAULTS. each fault and each miss comes only where its count rose in this call
abbrev pub CausedAs : Class → Call → Type 0
CausedAs (Missed f) call = Rose call.before.misses call.now.misses
CausedAs (Unread f) call = Rose call.before.read_faults call.now.read_faults
CausedAs (Unsaved f) call = Rose call.before.save_faults call.now.save_faults
CausedAs Unsent call = Rose call.faults call.faults_after
CausedAs _ call = Unit {0}

abbrev pub IsCaused : Call → Exit → Type 0
IsCaused call e = CausedAs (class_of e) call

-- all these files are in place, in order
abbrev pub placed_all : List File → Held → Held
placed_all [] held = held
placed_all (f ∷ fs) held = placed_all fs (placed f.0 (Some f.1) held)

-- the first k files are in place, and the content of the next one, of this name, is open
pub record StoppedAt (k : ℕ) (name : List ℕ) (files : List File) (held : Held) (after : Option Held) : Type 0 where
  pub bytes : List ℕ
  pub next : slice_get files k ≡ Some (name, bytes)
  pub others : SameBut name (Some (placed_all (take k files) held)) after

-- the files are in place as far as they went; where a save failed, the next one is open
abbrev pub Partly : List File → Held → Option Held → Counts → Counts → Type 0
Partly files held after before now =
    ((k : ℕ) × (after ≡ Some (placed_all (take k files) held)))
    ⊎ (Rose before.save_faults now.save_faults × ((k : ℕ) × (name : List ℕ) × StoppedAt k name files held after))

-- FILES. after the verdict all its saves are in place, and a refusal has none; after a failed save those before it are; for want of memory a front of them
abbrev pub FilesAs : Class → Call → Held → Exit → Type 0
FilesAs Worded call h e = call.after ≡ Some h
FilesAs Judged call h e = (c : Comes call.said h e) × (call.after ≡ Some (placed_all c.outcome.saves h))
FilesAs (Missed f) call h e = call.after ≡ Some h
-- the file is one that the command loads, and every rule before its load holds
FilesAs (Unread f) call h e = (call.after ≡ Some h) × LoadsSaid call.said h f
FilesAs (Unsaved f) call h e = (o : Outcome) × JudgesSaid call.said h o × ((k : ℕ) × StoppedAt k f o.saves h call.after)
FilesAs Unsent call h e = Unit {0}
FilesAs Wanting call h e =
    (call.after ≡ Some h) ⊎ ((o : Outcome) × JudgesSaid call.said h o × Partly o.saves h call.after call.before call.now)

abbrev pub LeavesFiles : Call → Exit → Type 0
LeavesFiles call e = IfSome call.held (λ h. FilesAs (class_of e) call h e)

-- an answer of this class before its report is put
pub record AnswersAs (class : Class) (call : Call) (answer : Exit) : Type 0 where
  pub verdict : VerdictAs class call.said call.held answer
  pub caused : CausedAs class call
  pub files : IfSome call.held (λ h. FilesAs class call h answer)
  pub reported : class ≢ Unsent

-- an answer before its report is put
pub record Answers (call : Call) (answer : Exit) : Type 0 where
  pub later : NoneFell call.before call.now
  pub right : AnswersAs (class_of answer) call answer

-- OutFault replaces an answer that would itself be right in this call, and is no want of memory
pub record Replaced (call : Call) : Type 0 where
  pub answer : Exit
  pub right : Answers call answer
  pub no_want : class_of answer ≢ Wanting

-- REPORT. what the verdict reports
abbrev pub ReportAs : Class → Call → Held → Exit → List ℕ → Type 0
ReportAs Judged call h e text = (c : Comes call.said h e) × (text ≡ c.outcome.report)
ReportAs _ call h e text = Unit {0}

-- the report of an answer: where its own fields are enough, that of these, whether files are told or not; where they are told, the verdict's
pub record IsReport (call : Call) (e : Exit) (text : List ℕ) : Type 0 where
  pub own : is_own e ≡ true → text ≡ answer_report [] e
  pub judged : IfSome call.held (λ h. ReportAs (class_of e) call h e text)
