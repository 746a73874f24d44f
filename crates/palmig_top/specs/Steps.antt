-- What a step of a call gives: what its judgement is, where the files are told, and the causes of its failure.
use Rattle.std.specs.Prelude.{ℕ, ◌≡◌, true, List, [], Option, Result, Ok, Err, IfSome}
use Rattle.mig_io.specs.Counts.{Counts, Rose, NoneFell}
use Rattle.mig_io.specs.Holding.{Held}
use Rattle.answers.specs.declared.exit.Exit.{Exit}
use Rattle.answers.specs.Exits.{IsSound, Class, class_of, is_own}
use Rattle.answers.specs.Exits.Class.{Worded, Judged, Missed, Unread, Unsaved, Unsent, Wanting}
use Rattle.answers.specs.Reports.{answer_report}
use Rattle.verdicts.specs.Outcomes.{Outcome}

-- why a step that loads failed, by the class of its answer: the first refusal, a miss, a fault at a file that it loads, or want of memory
abbrev pub FailsAs : {Y : Type 0} → Class → (Held → Result Y Exit → Type 0) → (Held → List ℕ → Type 0) → Option Held → Counts → Counts → Exit → Type 0
FailsAs Judged judge loads held before now e = IsSound e × IfSome held (λ h. judge h (Err e))
FailsAs (Missed f) judge loads held before now e = Rose before.misses now.misses × IfSome held (λ h. judge h (Err e))
FailsAs (Unread f) judge loads held before now e = Rose before.read_faults now.read_faults × IfSome held (λ h. loads h f)
FailsAs Wanting judge loads held before now e = Unit {0}
FailsAs Worded judge loads held before now e = ⊥
FailsAs (Unsaved f) judge loads held before now e = ⊥
FailsAs Unsent judge loads held before now e = ⊥

-- what a step gives: what its judgement is, or why it failed
abbrev pub Gives : {X Y : Type 0} → (X → Y) → (Held → Result Y Exit → Type 0) → (Held → List ℕ → Type 0) → Option Held → Counts → Counts → Result X Exit → Type 0
Gives view judge loads held before now (Ok x) = IfSome held (λ h. judge h (Ok (view x)))
Gives view judge loads held before now (Err e) = FailsAs (class_of e) judge loads held before now e

-- a step that loads and changes no file
pub record Step {X Y : Type 0} (view : X → Y) (judge : Held → Result Y Exit → Type 0) (loads : Held → List ℕ → Type 0) (held after : Option Held) (before now : Counts) (result : Result X Exit) : Type 0 where
  pub same : after ≡ held
  pub later : NoneFell before now
  pub gives : Gives view judge loads held before now result

-- why a step that needs no file failed: its refusal, or want of memory
abbrev pub RefusesAs : {Y : Type 0} → Class → (Result Y Exit → Type 0) → Exit → Type 0
RefusesAs Judged judge e = IsSound e × judge (Err e)
RefusesAs Wanting judge e = Unit {0}
RefusesAs _ judge e = ⊥

-- a step that needs no file
abbrev pub Finds : {X Y : Type 0} → (X → Y) → (Result Y Exit → Type 0) → Result X Exit → Type 0
Finds view judge (Ok x) = judge (Ok (view x))
Finds view judge (Err e) = RefusesAs (class_of e) judge e

-- what a command that comes to its end comes to
pub record IsEnd (o : Outcome) : Type 0 where
  pub class : class_of o.answer ≡ Judged
  pub sound : IsSound o.answer
  pub own : is_own o.answer ≡ true → o.report ≡ answer_report [] o.answer
