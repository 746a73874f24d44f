use Rattle.std.proofs.Common.{string_bytes, codes}
use Rattle.listing.specs.ListedChip.{product_words}
use Rattle.listing.proofs.SpacedLines.{line-written}
use Rattle.listing.proofs.writing.write_term.Goals as goal

pub returns : goal.returns
returns c =
    line-written (string_bytes c.args.text.now) (string_bytes c.push_str.new.self) (string_bytes c.write_product.new.text) (string_bytes c.push_str-2.new.self)
    (codes "term") (product_words c.args.lits.now) c.in_ok-push_str.ensures.bytes c.in_ok-write_product.ensures c.in_ok-push_str-2.ensures.bytes
