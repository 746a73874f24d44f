-- Matchings of two boards: inductive, proving, greatest.
use Rattle.std.specs.Prelude.{ℕ, ◌≡◌, ◌<◌, List, length, Option, Some}
use Rattle.mig_base.specs.declared.levels.Level.{Level}
use Rattle.mig_base.specs.declared.circuit.Levels.{Levels}
use Rattle.level_laws.specs.Settled.{IsSettled}
use Rattle.level_laws.specs.Runs.{IsStep}
use Rattle.level_laws.specs.SameBehaviour.{Handing}
use Rattle.board.specs.Joined.{Joined, equations_of}
use Rattle.matchings.specs.Pairs.{handed, last_handed, IsLawfulFor, registers_of_both, AreTogether, Agrees, ShowEqual}

-- one step of both boards to the same inputs
pub record BothStep (a b : Joined) (left right : List Level) (last : Option Handing) (handing : Handing) (next_left next_right : List Level) : Type 0 where
  pub lawful : IsLawfulFor a handing
  pub left_step : IsStep (equations_of a) left (last_handed a last) (handed a handing) next_left
  pub right_step : IsStep (equations_of b) right (last_handed b last) (handed b handing) next_right

-- every step from every agreeing pair gives an agreeing pair
abbrev pub IsInductive : Joined → Joined → List ℕ → Type 0
IsInductive a b classes = (left right next_left next_right : List Level) (last : Option Handing) (handing : Handing) →
    Agrees a b classes left right last → BothStep a b left right last handing next_left next_right → Agrees a b classes next_left next_right (Some handing)

-- the boards show the same at every agreeing pair
abbrev pub ShowsAgree : Joined → Joined → List ℕ → Type 0
ShowsAgree a b classes = (left right : List Level) (handing : Handing) (l m : Levels) → Agrees a b classes left right (Some handing) →
    IsSettled (equations_of a) left (handed a handing) l → IsSettled (equations_of b) right (handed b handing) m → ShowEqual a b l m

pub record IsProving (a b : Joined) (classes : List ℕ) : Type 0 where
  pub inductive : IsInductive a b classes
  pub shows : ShowsAgree a b classes

-- two registers stand in one class wherever some inductive matching puts them in one
abbrev pub HasInductive : Joined → Joined → List ℕ → Type 0
HasInductive a b classes = (others : List ℕ) → length others ≡ registers_of_both a b → IsInductive a b others →
    (i j : ℕ) → i < registers_of_both a b → j < registers_of_both a b → AreTogether others i j → AreTogether classes i j

-- the greatest matching: it is inductive, and two registers stand in one class wherever some inductive matching puts them in one
pub record IsGreatest (a b : Joined) (classes : List ℕ) : Type 0 where
  pub count : length classes ≡ registers_of_both a b
  pub inductive : IsInductive a b classes
  pub every : HasInductive a b classes
