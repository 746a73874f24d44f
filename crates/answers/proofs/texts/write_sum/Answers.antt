use Rattle.std.proofs.Common.{◌/◌, ◌%◌, ◌≡◌, Some, refl, string_bytes}
use Rattle.std.specs.Fmt.{styled_digits_output}
use Rattle.answers.proofs.Lines.{byte_text, sum-written}
use Rattle.answers.proofs.texts.write_sum.Goals as goal

pub returns : goal.returns
returns c =
    let high : styled_digits_output c.in_radix.result c.laid_out.result ≡ Some (byte_text (c.args.sum / 256)) = rw (c.laid_out.ensures, c.in_radix.ensures) refl in
    let low : styled_digits_output c.in_radix-2.result c.laid_out-2.result ≡ Some (byte_text (c.args.sum % 256)) = rw (c.laid_out-2.ensures, c.in_radix-2.ensures) refl in
    sum-written (string_bytes c.args.text.now) (string_bytes c.write.new.self) c.args.sum (styled_digits_output c.in_radix.result c.laid_out.result)
    (styled_digits_output c.in_radix-2.result c.laid_out-2.result) c.write.result c.ranges.sum high low c.write.ensures.bytes
