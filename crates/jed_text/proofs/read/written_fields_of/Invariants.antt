use Rattle.std.proofs.Common.{◌≡◌, ◌++◌}
use Rattle.std.specs.Prelude.{filter}
use Rattle.jed_text.specs.Bodies.{fields_left}
use Rattle.jed_text.specs.Transmissions.{is_written, written_fields}
use Rattle.jed_text.proofs.read.written_fields_of.Given as goal

abbrev pub invariant-loop-field : goal.invariant-loop-field
invariant-loop-field l = l.fields.items ++ filter is_written (fields_left l.field-iterator) ≡ written_fields l.fn.body.at l.fn.body.text.now
