-- How the greatest matching is found: rounds that part registers.
use Rattle.std.specs.Prelude.{ℕ, ◌≡◌, ◌≢◌, ◌<◌, List, ◌++◌, length, Option}
use Rattle.mig_base.specs.declared.levels.Level.{Level}
use Rattle.mig_base.specs.Levels.{level_at}
use Rattle.level_laws.specs.SameBehaviour.{Handing}
use Rattle.board.specs.Joined.{Joined}
use Rattle.matchings.specs.Pairs.{registers_of_both, AreTogether, Agrees}
use Rattle.matchings.specs.Matchings.{BothStep}

-- some agreeing pair has a step after which the two registers store two levels
pub record IsParted (a b : Joined) (classes : List ℕ) (i j : ℕ) : Type 0 where
  pub left : List Level
  pub right : List Level
  pub last : Option Handing
  pub handing : Handing
  pub next_left : List Level
  pub next_right : List Level
  pub agrees : Agrees a b classes left right last
  pub step : BothStep a b left right last handing next_left next_right
  pub parted : level_at (next_left ++ next_right) i ≢ level_at (next_left ++ next_right) j

-- a round: two registers stay together exactly where they were and no step parts them
pub record IsRound (a b : Joined) (old new : List ℕ) : Type 0 where
  pub count : length new ≡ registers_of_both a b
  pub stays : (i j : ℕ) → i < registers_of_both a b → j < registers_of_both a b → AreTogether old i j → (IsParted a b old i j → ⊥) → AreTogether new i j
  pub was : (i j : ℕ) → i < registers_of_both a b → j < registers_of_both a b → AreTogether new i j → AreTogether old i j
  pub parts : (i j : ℕ) → i < registers_of_both a b → j < registers_of_both a b → AreTogether new i j → IsParted a b old i j → ⊥
