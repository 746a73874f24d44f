-- The first refusal of a list of items, each judged by those before it.
use Rattle.std.specs.Prelude.{ℕ, zero, suc, List, [], ◌∷◌, ◌++◌, Option, Some, None, Result, Err, ◌+◌, Bool, if◌then◌else◌}

abbrev pub or_else : {E : Type 0} → Option E → Option E → Option E
or_else None other = other
or_else (Some e) other = Some e

abbrev pub first_refusal : {T E : Type 0} → (List T → T → Option E) → List T → List T → Option E
first_refusal judge before [] = None
first_refusal judge before (x ∷ xs) = or_else (judge before x) (first_refusal judge (before ++ x ∷ []) xs)

-- go on where nothing is refused
abbrev pub unless : {E A : Type 0} → Option E → Result A E → Result A E
unless None result = result
unless (Some e) result = Err e

abbrev pub needed : {E A B : Type 0} → E → Option A → (A → Result B E) → Result B E
needed e None go = Err e
needed e (Some a) go = go a

-- the least number below start + n from start on that passes
abbrev pub least_from : (ℕ → Bool) → ℕ → ℕ → Option ℕ
least_from test start zero = None
least_from test start (suc n) = if test start then Some start else least_from test (start + 1) n

-- f at each number from start on, n of them
abbrev pub made_from : {T : Type 0} → (ℕ → T) → ℕ → ℕ → List T
made_from f start zero = []
made_from f start (suc n) = f start ∷ made_from f (start + 1) n
