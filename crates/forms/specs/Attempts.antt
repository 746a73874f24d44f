-- The tries of a form of Logic, one behind the other.
use Rattle.std.specs.Prelude.{ℕ, ◌≡◌, ◌<◌, ◌≤◌, Bool, List, length, Option, Some, None, min}
use Rattle.mig_base.specs.Among.{Among}
use Rattle.board.specs.Joined.{Joined}
use Rattle.plans.specs.FirstOf.{FirstOf, NoneOf}
use Rattle.plans.specs.Forms.{Products, Try, Room, IsOffered, Fits as FitsIn}
use Rattle.forms.specs.declared.attempts.Failure.{Failure}
use Rattle.forms.specs.declared.attempts.Failure.TheVariants.{PrimesOver, TermsOver}
use Rattle.forms.specs.declared.attempts.Attempt.{Attempt}
use Rattle.forms.specs.declared.attempts.Attempt.TheVariants.{Fits, Fails}

-- one of these tries has too many primes
pub record HasOver (b : Joined) (absorbed : List ℕ) (u : ℕ) (ts : List Try) : Type 0 where
  pub form : Try
  pub allowed : Among form ts
  pub over : IsOffered b absorbed u form None

-- the least number of terms of these tries
pub record IsLeastIn (b : Joined) (absorbed : List ℕ) (u : ℕ) (ts : List Try) (needed : ℕ) : Type 0 where
  pub form : Try
  pub allowed : Among form ts
  pub products : Products
  pub offered : IsOffered b absorbed u form (Some products)
  pub count : needed ≡ length products
  pub least : (t : Try) (ps : Products) → Among t ts → IsOffered b absorbed u t (Some ps) → needed ≤ length ps

-- that number, where no try has too many primes
pub record IsLeastOfAll (b : Joined) (absorbed : List ℕ) (u : ℕ) (ts : List Try) (needed : ℕ) : Type 0 where
  pub least : IsLeastIn b absorbed u ts needed
  pub no_over : HasOver b absorbed u ts → ⊥

-- why none of these tries fits
abbrev pub IsReason : Joined → List ℕ → ℕ → List Try → Failure → Type 0
IsReason b absorbed u ts PrimesOver = HasOver b absorbed u ts
IsReason b absorbed u ts (TermsOver needed) = IsLeastOfAll b absorbed u ts needed

-- none of these tries fits, for this reason
pub record IsFailure (b : Joined) (absorbed : List ℕ) (u : ℕ) (room : Room) (ts : List Try) (failure : Failure) : Type 0 where
  pub none_fits : NoneOf (FitsIn b absorbed u room) ts
  pub reason : IsReason b absorbed u ts failure

-- what some tries come to
abbrev pub IsAttempt : Joined → List ℕ → ℕ → Room → List Try → Attempt → Type 0
IsAttempt b absorbed u room ts (Fits low terms) = FirstOf (FitsIn b absorbed u room) ts (record { low = low; terms = terms })
IsAttempt b absorbed u room ts (Fails failure) = IsFailure b absorbed u room ts failure

-- what one try comes to that offers these products
abbrev pub IsOffering : Bool → Option Products → ℕ → Attempt → Type 0
IsOffering low None most (Fits is_low terms) = ⊥
IsOffering low None most (Fails failure) = failure ≡ PrimesOver
IsOffering low (Some ps) most (Fits is_low terms) = (is_low ≡ low) × (terms ≡ ps) × (length ps ≤ most)
IsOffering low (Some ps) most (Fails failure) = (failure ≡ TermsOver (length ps)) × (most < length ps)

-- why none of two lists of tries fits
abbrev pub both_failures : Failure → Failure → Failure
both_failures PrimesOver second = PrimesOver
both_failures (TermsOver n) PrimesOver = PrimesOver
both_failures (TermsOver n) (TermsOver m) = TermsOver (min n m)

-- what some tries come to behind others that fail
abbrev pub behind_failure : Failure → Attempt → Attempt
behind_failure first (Fits low terms) = Fits low terms
behind_failure first (Fails second) = Fails (both_failures first second)
