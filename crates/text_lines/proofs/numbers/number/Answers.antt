use Rattle.std.proofs.Common.{◌≡◌, ◌≤◌, ◌^◌, ap, ◌∙◌, sym, arith, get_or, Some, ℕ, ◌*◌, ◌+◌, ◌-◌}
use Rattle.text_lines.proofs.Numerals.{IsDigit}
use Rattle.text_lines.proofs.DigitSteps.{number-empty, number-long, number-other, number-digits, value-more, value-all, digit-at, power-low, power-more, some-bytes}
use Rattle.text_lines.proofs.numbers.number.Goals as goal
use Rattle.text_lines.proofs.numbers.number.Goals.{then-is_empty-via-then-is_empty, then-is_empty-via-else-is_empty+then-word-gt-MOST_DIGITS, then-is_empty-via-else-is_empty+else-word-gt-MOST_DIGITS+then-not-all_digits}

pub returns-then-is_empty : goal.returns-then-is_empty
returns-then-is_empty c = elim c.then-is_empty.branch [
  | then-is_empty-via-then-is_empty w ↦ sym (number-empty c.args.word.now (sym c.is_empty.ensures ∙ w.if-is_empty.true))
  | then-is_empty-via-else-is_empty+then-word-gt-MOST_DIGITS w ↦ sym (number-long c.args.word.now w.if-word-gt-MOST_DIGITS.true)
  | then-is_empty-via-else-is_empty+else-word-gt-MOST_DIGITS+then-not-all_digits w ↦ sym (number-other c.args.word.now (sym w.all_digits.ensures ∙ w.if-not-all_digits.true))
]

pub overflow_mul-value : goal.overflow_mul-value
overflow_mul-value c = let low : 10 ^ c.loop-digit.digit-index ≤ 100000000 = power-low c.loop-digit.digit-index (omega arith) in omega arith

pub overflow_add-value : goal.overflow_add-value
overflow_add-value c =
    let low : 10 ^ c.loop-digit.digit-index ≤ 100000000 = power-low c.loop-digit.digit-index (omega arith) in
    let digit : IsDigit (get_or c.args.word.now c.loop-digit.digit-index 0) = digit-at c.args.word.now c.loop-digit.digit-index 0 (sym c.all_digits.ensures ∙ c.if-not-all_digits.false) c.loop-digit-test.true in
    omega arith

pub loop-digit-preserved : goal.loop-digit-preserved
loop-digit-preserved c = record {
  value = sym (value-more c.args.word.now c.loop-digit.digit-index 0 c.loop-digit-test.true ∙ ap (λ (v : ℕ). v * 10 + (get_or c.args.word.now c.loop-digit.digit-index 0 - 48)) (sym c.loop-digit.invariant.value));
  low =
      let more : 10 ^ (c.loop-digit.digit-index + 1) ≡ 10 ^ c.loop-digit.digit-index * 10 = power-more c.loop-digit.digit-index in
      let digit : IsDigit (get_or c.args.word.now c.loop-digit.digit-index 0) = digit-at c.args.word.now c.loop-digit.digit-index 0 (sym c.all_digits.ensures ∙ c.if-not-all_digits.false) c.loop-digit-test.true in
      omega arith;
}

pub returns : goal.returns
returns c =
    ap (λ (v : ℕ). Some v) (c.loop-digit.invariant.value ∙ value-all c.args.word.now c.loop-digit.digit-index c.loop-digit-test.false)
    ∙ sym (number-digits c.args.word.now (sym c.all_digits.ensures ∙ c.if-not-all_digits.false) (some-bytes c.args.word.now (sym c.is_empty.ensures ∙ c.if-is_empty.false)) c.if-word-gt-MOST_DIGITS.false)
