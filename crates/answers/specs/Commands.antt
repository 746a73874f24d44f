-- The commands, and what the words of a call alone say.
use Rattle.std.specs.Prelude.{ℕ, Bool, true, false, ◌≡◌, ◌&&◌, List, [], ◌∷◌, Option, Some, None, if◌then◌else◌, Result, Ok, Err, codes}
use Rattle.std.specs.Str.{bytes_eq}
use Rattle.std.specs.Option.{option_map}
use Rattle.mig_base.specs.declared.kinds.Kind.{Kind}
use Rattle.mig_base.specs.DeviceTables.{kind_named}
use Rattle.mig_base.specs.FuseText.{cut_at}
use Rattle.mig_base.specs.Names.{is_name, is_stem}
use Rattle.answers.specs.declared.exit.Exit.{Exit}
use Rattle.answers.specs.declared.exit.Exit.TheVariants.{Usage, Refused, Memory}
use Rattle.answers.specs.declared.exit.Refusal.TheVariants.{Clash}
use Rattle.answers.specs.Exits.{Class, class_of}
use Rattle.answers.specs.Exits.Class.{Worded, Wanting}
use Rattle.answers.specs.declared.words.Command.{Command}
use Rattle.answers.specs.declared.words.Command.TheVariants as command
use Rattle.answers.specs.declared.words.Migration.{Migration}
use Rattle.answers.specs.declared.words.Listing.{Listing}
use Rattle.answers.specs.declared.words.Simulation.{Simulation}

abbrev pub stem_of : List ℕ → Option (List ℕ)
stem_of word = if is_stem word then Some word else None

-- the words OLD NEW, which are stems
abbrev pub migration_of : List ℕ → List ℕ → Option Migration
migration_of old new = if is_stem old && is_stem new then Some (record { old = old; new = new; plan = None }) else None

-- the words OLD NEW PLAN, which are stems
abbrev pub planned_migration : List ℕ → List ℕ → List ℕ → Option Migration
planned_migration old new plan = if is_stem old && is_stem new && is_stem plan then Some (record { old = old; new = new; plan = Some plan }) else None

abbrev pub chip_listing : List ℕ → List ℕ → Kind → Option Listing
chip_listing stem name kind = if is_stem stem && is_name name then Some (record { stem = stem; chip = Some name; kind = kind }) else None

-- the word FILE, cut at its first dot: a stem, or a stem, a dot and a name
abbrev pub listing_at : List ℕ → Option (List ℕ × List ℕ) → Kind → Option Listing
listing_at file None kind = if is_stem file then Some (record { stem = file; chip = None; kind = kind }) else None
listing_at file (Some cut) kind = chip_listing cut.0 cut.1 kind

-- the words FILE KIND, of which the second is the name of a kind
abbrev pub listing_of : List ℕ → Option Kind → Option Listing
listing_of file None = None
listing_of file (Some kind) = listing_at file (cut_at 46 file) kind

-- the words BOARD SCRIPT, which are stems
abbrev pub simulation_of : List ℕ → List ℕ → Option Simulation
simulation_of board script = if is_stem board && is_stem script then Some (record { board = board; script = script }) else None

-- check BOARD
abbrev pub command_on : List ℕ → List ℕ → Option Command
command_on verb board = if bytes_eq verb (codes "check") then option_map command.Check (stem_of board) else None

-- migrate OLD NEW, list FILE KIND, or sim BOARD SCRIPT
abbrev pub command_by : List ℕ → List ℕ → List ℕ → Option Command
command_by verb first second =
    if bytes_eq verb (codes "migrate") then option_map command.Migrate (migration_of first second)
    else (if bytes_eq verb (codes "list") then option_map command.List (listing_of first (kind_named second))
    else (if bytes_eq verb (codes "sim") then option_map command.Sim (simulation_of first second) else None))

-- migrate OLD NEW PLAN
abbrev pub command_with : List ℕ → List ℕ → List ℕ → List ℕ → Option Command
command_with verb first second third = if bytes_eq verb (codes "migrate") then option_map command.Migrate (planned_migration first second third) else None

-- the words of a command; their number is exact
abbrev pub command_of : List (List ℕ) → Option Command
command_of [] = None
command_of (verb ∷ []) = None
command_of (verb ∷ board ∷ []) = command_on verb board
command_of (verb ∷ first ∷ second ∷ []) = command_by verb first second
command_of (verb ∷ first ∷ second ∷ third ∷ []) = command_with verb first second third
command_of (verb ∷ first ∷ second ∷ third ∷ more ∷ rest) = None

abbrev pub is_plan_stem : List ℕ → Option (List ℕ) → Bool
is_plan_stem new None = false
is_plan_stem new (Some plan) = bytes_eq plan new

-- the new files would stand under the names of those that are read
abbrev pub overwrites : Migration → Bool
overwrites m = if bytes_eq m.old m.new then true else is_plan_stem m.new m.plan

-- the new board stands under a stem of its own
abbrev pub checked : Command → Result Command Exit
checked (command.Migrate m) = if overwrites m then Err (Refused Clash) else Ok (command.Migrate m)
checked (command.List l) = Ok (command.List l)
checked (command.Check board) = Ok (command.Check board)
checked (command.Sim s) = Ok (command.Sim s)

abbrev pub checked_command : Option Command → Result Command Exit
checked_command None = Err Usage
checked_command (Some c) = checked c

-- the command, or what the words alone refuse
abbrev pub command_or_refusal : List (List ℕ) → Result Command Exit
command_or_refusal words = checked_command (command_of words)

-- what a word says, or Usage exactly where it says nothing; want of memory aside
abbrev pub IsOrUsage : {T : Type 0} → Option T → Result T Exit → Type 0
IsOrUsage said (Ok x) = said ≡ Some x
IsOrUsage said (Err Usage) = said ≡ None
IsOrUsage said (Err Memory) = Unit {0}
IsOrUsage said (Err _) = ⊥

-- what words say that are refused alone, by the class of the answer; want of memory aside
abbrev pub IsRefusedAs : Class → Result Command Exit → Exit → Type 0
IsRefusedAs Worded said e = said ≡ Err e
IsRefusedAs Wanting said e = Unit {0}
IsRefusedAs _ said e = ⊥

-- the command, or what the words refuse; want of memory aside
abbrev pub IsSaid : Result Command Exit → Result Command Exit → Type 0
IsSaid said (Ok c) = said ≡ Ok c
IsSaid said (Err e) = IsRefusedAs (class_of e) said e

abbrev pub IsCommandOf : List (List ℕ) → Result Command Exit → Type 0
IsCommandOf words result = IsSaid (command_or_refusal words) result
