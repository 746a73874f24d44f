-- The statuses and the classes of the answers, and which refusals are of what files hold.
use Rattle.std.specs.Prelude.{ℕ, ◌≢◌, Bool, true, false, List}
use Rattle.mig_base.specs.declared.jedec.JedError.TheVariants as jed_error
use Rattle.mig_base.specs.declared.cells.ChipError.TheVariants as chip_error
use Rattle.mig_base.specs.declared.nets.NetError.TheVariants as net_error
use Rattle.mig_base.specs.declared.nets.BoardError.TheVariants as board_error
use Rattle.mig_base.specs.declared.scripts.ScriptError.TheVariants as script_error
use Rattle.mig_base.specs.declared.scripts.ScriptError.{ScriptError}
use Rattle.mig_base.specs.declared.plans.PlanError.TheVariants as plan_error
use Rattle.answers.specs.declared.exit.Exit.{Exit}
use Rattle.answers.specs.declared.exit.Exit.TheVariants.{Done, Usage, Refused, Breached, Missing, ReadFault, SaveFault, OutFault, Memory}
use Rattle.answers.specs.declared.exit.Refusal.{Refusal}
use Rattle.answers.specs.declared.exit.Refusal.TheVariants.{Clash, Later, TooLong, Jed, Chip, Net, Board, Script, PlanText}
use Rattle.answers.specs.BreachLines.{is_own_breach}

abbrev pub status_of : Exit → ℕ
status_of Done = 0
status_of Usage = 3
status_of (Refused r) = 4
status_of (Breached x) = 5
status_of (Missing f) = 6
status_of (ReadFault f) = 7
status_of (SaveFault f) = 8
status_of OutFault = 9
status_of Memory = 10

-- a refusal of what files hold, and not of the words; want of memory is none
abbrev pub IsOfFiles : Refusal → Type 0
IsOfFiles Clash = ⊥
IsOfFiles (Later f) = Unit {0}
IsOfFiles (TooLong f) = Unit {0}
IsOfFiles (Jed f e) = e ≢ jed_error.Memory
IsOfFiles (Chip f e) = e ≢ chip_error.Memory
IsOfFiles (Net f e) = e ≢ net_error.Memory
IsOfFiles (Board f e) = e ≢ board_error.Memory
IsOfFiles (Script f e) = e ≢ script_error.Memory
IsOfFiles (PlanText f e) = e ≢ plan_error.Memory

-- no want of memory is told as a refusal
abbrev pub IsSound : Exit → Type 0
IsSound (Refused r) = IsOfFiles r
IsSound _ = Unit {0}

-- what an answer is of: the words alone; what a command finds in files; a file that isn't there; a file that can't be loaded;
-- a file that can't be saved; a report that can't be sent; or want of memory
pub data Class : Type 0 where
  Worded : Class
  Judged : Class
  Missed : (file : List ℕ) → Class
  Unread : (file : List ℕ) → Class
  Unsaved : (file : List ℕ) → Class
  Unsent : Class
  Wanting : Class

-- only a clash is of the words
abbrev pub class_of_refusal : Refusal → Class
class_of_refusal Clash = Worded
class_of_refusal _ = Judged

abbrev pub class_of : Exit → Class
class_of Done = Judged
class_of Usage = Worded
class_of (Refused r) = class_of_refusal r
class_of (Breached x) = Judged
class_of (Missing f) = Missed f
class_of (ReadFault f) = Unread f
class_of (SaveFault f) = Unsaved f
class_of OutFault = Unsent
class_of Memory = Wanting

-- whether a script's refusal is told by its own fields alone; a port that is left is told by its name on the board
abbrev pub is_own_script : ScriptError → Bool
is_own_script (script_error.PortLeft net) = false
is_own_script _ = true

abbrev pub is_own_refusal : Refusal → Bool
is_own_refusal (Script f e) = is_own_script e
is_own_refusal _ = true

-- whether the report of an answer needs its own fields alone; that of Done is what the command found
abbrev pub is_own : Exit → Bool
is_own Done = false
is_own (Refused r) = is_own_refusal r
is_own (Breached x) = is_own_breach x
is_own _ = true
