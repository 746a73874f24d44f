-- What a call comes to, and chains of steps that may refuse.
use Rattle.std.specs.Prelude.{ℕ, ◌≡◌, ◌⊎◌, Bool, List, [], if◌then◌else◌, Result, Ok, Err}
use Rattle.mig_base.specs.declared.nets.NetLine.{NetLine}
use Rattle.answers.specs.declared.exit.Exit.{Exit}
use Rattle.answers.specs.declared.exit.Exit.TheVariants.{Done, Refused}
use Rattle.answers.specs.declared.exit.Refusal.{Refusal}
use Rattle.answers.specs.Reports.{answer_report}

-- a file by its name
abbrev pub File : Type 0
File = List ℕ × List ℕ

-- what a call comes to: its answer, the files that it saves, and its report
pub record Outcome : Type 0 where
  pub answer : Exit
  pub saves : List File
  pub report : List ℕ

-- an answer that saves nothing, told with its board's names
abbrev pub told : List NetLine → Exit → Outcome
told nets e = record { answer = e; saves = []; report = answer_report nets e }

-- a command that is done
abbrev pub done : List File → List ℕ → Outcome
done saves report = record { answer = Done; saves = saves; report = report }

-- a step of a chain of refusals
infixl 10 ◌>>=◌
abbrev pub ◌>>=◌ : {A B : Type 0} → Result A Exit → (A → Result B Exit) → Result B Exit
(Ok x) >>= f = f x
(Err e) >>= f = Err e

-- a layer's answer; its error is the command's refusal
abbrev pub or_refused : {A E : Type 0} → (E → Refusal) → Result A E → Result A Exit
or_refused refusal (Ok x) = Ok x
or_refused refusal (Err e) = Err (Refused (refusal e))

-- a value, or this answer where a test fails
abbrev pub only_if : {A : Type 0} → Bool → A → Exit → Result A Exit
only_if test x e = if test then Ok x else Err e

-- a step, and where it goes well the next one; else what the first one says
abbrev pub Then : {A B : Type 0} → (Result A Exit → Type 0) → (A → Result B Exit → Type 0) → Result B Exit → Type 0
Then {A = A} first next r = ((x : A) × first (Ok x) × next x r) ⊎ ((e : Exit) × first (Err e) × (r ≡ Err e))

-- a step, and where it goes well what comes of it; else its answer, told with these names
abbrev pub Ends : {A : Type 0} → List NetLine → (Result A Exit → Type 0) → (A → Outcome → Type 0) → Outcome → Type 0
Ends {A = A} nets first next o = ((x : A) × first (Ok x) × next x o) ⊎ ((e : Exit) × first (Err e) × (o ≡ told nets e))

-- what a step gives, or its answer, told by its own fields alone
abbrev pub EndsWith : (Result Outcome Exit → Type 0) → Outcome → Type 0
EndsWith first o = Ends [] first (λ x q. q ≡ x) o
