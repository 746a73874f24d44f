use Rattle.std.proofs.Common.{◌≡◌, ◌<◌, ◌^◌, take}
use Rattle.mig_base.specs.Numbers.{in_base}
use Rattle.text_lines.proofs.Numerals.{digit_values}
use Rattle.text_lines.proofs.numbers.number.Given as goal

abbrev pub invariant-loop-digit : goal.invariant-loop-digit
invariant-loop-digit l = record { value : l.value ≡ in_base 10 0 (digit_values (take l.digit-index l.word)); low : l.value < 10 ^ l.digit-index }
