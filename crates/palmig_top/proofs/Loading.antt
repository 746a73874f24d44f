-- Steps that load one file.
use Rattle.std.proofs.lemmas.Grind.{common_steps}
use Rattle.std.proofs.lemmas.Bool.{le-leb, lt-leb}
use Rattle.std.specs.Prelude.{min}
use Rattle.std.proofs.Common.{ℕ, ◌≡◌, ◌<◌, ◌≤◌, ◌+◌, Bool, List, length, take, Option, Some, None, Ok, Err, sym, ap, ◌∙◌, arith}
use Rattle.std.proofs.lemmas.List.{length-take}
use Rattle.std.specs.Prelude.{IfSome}
use Rattle.std.specs.Option.{option_map}
use Rattle.mig_io.specs.Holding.{Held}
use Rattle.answers.specs.declared.exit.Exit.TheVariants.{Refused}
use Rattle.answers.specs.declared.exit.Refusal.TheVariants.{TooLong}
use Rattle.verdicts.specs.JudgedBoard.{loaded, within_at}
use Rattle.verdicts.specs.Outcomes.{only_if}

take-past : (n : ℕ) (l : List ℕ) → length l ≤ n → take n l ≡ l
take-past n l h = grind (arith, common_steps)

took : (m : ℕ) (bytes v : List ℕ) → take (m + 1) bytes ≡ v → length v ≡ min (m + 1) (length bytes)
took m bytes v e = sym (ap length e) ∙ length-take (m + 1) bytes

-- a whole file
whole-at : (m : ℕ) (name v : List ℕ) (o : Option (List ℕ)) → option_map (take (m + 1)) o ≡ Some v → length v ≤ m →
    within_at m name o ≡ Ok v
whole-at m name v None h short = cc
whole-at m name v (Some bytes) h short =
    let same : take (m + 1) bytes ≡ v = cc in
    let count : length v ≡ min (m + 1) (length bytes) = took m bytes v same in
    let fits : length bytes ≤ m = omega arith in
    let all : take (m + 1) bytes ≡ bytes = take-past (m + 1) bytes (omega arith) in
    ap (λ (t : Bool). only_if t bytes (Refused (TooLong name))) (le-leb (length bytes) m fits) ∙ ap (λ (q : List ℕ). Ok q) (sym all ∙ same)

-- a file that is too long
long-at : (m : ℕ) (name v : List ℕ) (o : Option (List ℕ)) → option_map (take (m + 1)) o ≡ Some v → m < length v →
    within_at m name o ≡ Err (Refused (TooLong name))
long-at m name v None h long = cc
long-at m name v (Some bytes) h long =
    let same : take (m + 1) bytes ≡ v = cc in
    let count : length v ≡ min (m + 1) (length bytes) = took m bytes v same in
    let over : m < length bytes = omega arith in
    ap (λ (t : Bool). only_if t bytes (Refused (TooLong name))) (lt-leb (length bytes) m over)

pub loaded-whole : (held : Option Held) (most : ℕ) (name v : List ℕ) → IfSome held (λ h. option_map (take (most + 1)) (h name) ≡ Some v) → length v ≤ most →
    IfSome held (λ h. loaded h most name ≡ Ok v)
loaded-whole None most name v h short = tt
loaded-whole (Some f) most name v h short = whole-at most name v (f name) h short

pub loaded-long : (held : Option Held) (most : ℕ) (name v : List ℕ) → IfSome held (λ h. option_map (take (most + 1)) (h name) ≡ Some v) → most < length v →
    IfSome held (λ h. loaded h most name ≡ Err (Refused (TooLong name)))
loaded-long None most name v h long = tt
loaded-long (Some f) most name v h long = long-at most name v (f name) h long
