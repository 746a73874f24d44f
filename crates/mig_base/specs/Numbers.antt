-- Numbers in texts.
use Rattle.std.specs.Prelude.{ℕ, ◌+◌, ◌-◌, ◌*◌, ◌&&◌, List, [], ◌∷◌, length, if◌then◌else◌, nat_le, Option, Some, None}

-- a decimal digit
abbrev pub digit_value : ℕ → Option ℕ
digit_value b = if nat_le 48 b && nat_le b 57 then Some (b - 48) else None

-- a hexadecimal digit of either case
abbrev pub hex_value : ℕ → Option ℕ
hex_value b =
    if nat_le 48 b && nat_le b 57 then Some (b - 48)
    else (if nat_le 65 b && nat_le b 70 then Some (b - 55)
    else (if nat_le 97 b && nat_le b 102 then Some (b - 87) else None))

-- a digit and what follows it, or none
abbrev pub digits_on : Option ℕ → ℕ → List ℕ → List ℕ × List ℕ → List ℕ × List ℕ
digits_on None b bs more = ([], b ∷ bs)
digits_on (Some d) b bs more = (d ∷ more.0, more.1)

-- the digits at the front, by their values, and the rest
abbrev pub digits_of : (ℕ → Option ℕ) → List ℕ → List ℕ × List ℕ
digits_of value [] = ([], [])
digits_of value (b ∷ bs) = digits_on (value b) b bs (digits_of value bs)

-- the number of these digits, highest first
abbrev pub in_base : ℕ → ℕ → List ℕ → ℕ
in_base base high [] = high
in_base base high (d ∷ ds) = in_base base (high * base + d) ds

-- a number of at most so many digits at the front, and the rest
abbrev pub number_at : (ℕ → Option ℕ) → ℕ → ℕ → List ℕ → Option (ℕ × List ℕ)
number_at value base most text =
    if nat_le 1 (length (digits_of value text).0) && nat_le (length (digits_of value text).0) most
    then Some (in_base base 0 (digits_of value text).0, (digits_of value text).1) else None
