use Rattle.std.proofs.Common.{string_bytes}
use Rattle.listing.specs.ListedChip.{row_words}
use Rattle.listing.proofs.SpacedLines.{line-written}
use Rattle.listing.proofs.writing.write_control.Goals as goal

pub returns : goal.returns
returns c =
    line-written (string_bytes c.args.text.now) (string_bytes c.push_str.new.self) (string_bytes c.write_row.new.text) (string_bytes c.push_str-2.new.self)
    c.args.word.now (row_words c.args.row.now) c.in_ok-push_str.ensures.bytes c.in_ok-write_row.ensures c.in_ok-push_str-2.ensures.bytes
