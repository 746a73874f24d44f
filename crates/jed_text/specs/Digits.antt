-- The digits of numbers, by how they are written.
use Rattle.std.specs.Prelude.{ℕ, Option}
use Rattle.jed_text.specs.declared.numbers.Base.{Base}
use Rattle.jed_text.specs.declared.numbers.Base.TheVariants.{Decimal, Hexadecimal}
use Rattle.mig_base.specs.Numbers.{digit_value, hex_value}

-- the value of a digit
abbrev pub value_of : Base → ℕ → Option ℕ
value_of Decimal b = digit_value b
value_of Hexadecimal b = hex_value b

-- the base
abbrev pub base_of : Base → ℕ
base_of Decimal = 10
base_of Hexadecimal = 16
