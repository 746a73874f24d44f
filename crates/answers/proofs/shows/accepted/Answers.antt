use Rattle.std.proofs.Common.{◌≡◌, ap, ◌∙◌, string_bytes}
use Rattle.answers.specs.Reports.{accepted_line}
use Rattle.answers.proofs.Spaced.{accepted-text}
use Rattle.answers.proofs.shows.accepted.Goals as goal

pub returns : goal.returns
returns c =
    let n = c.args.counted in
    let e : string_bytes c.push_str-2.new.self ≡ accepted_line n.chips n.nets n.units n.registers n.rank =
    accepted-text (string_bytes c.new-text.result) (string_bytes c.push_str.new.self) (string_bytes c.write_count.new.text) (string_bytes c.write_count-2.new.text) (string_bytes c.write_count-3.new.text)
    (string_bytes c.write_count-4.new.text) (string_bytes c.write_count-5.new.text) (string_bytes c.push_str-2.new.self) n.chips n.nets n.units n.registers n.rank
    c.new-text.ensures.bytes c.in_ok-push_str.ensures.bytes c.in_ok-write_count.ensures c.in_ok-write_count-2.ensures c.in_ok-write_count-3.ensures c.in_ok-write_count-4.ensures c.in_ok-write_count-5.ensures c.in_ok-push_str-2.ensures.bytes in
    ap (λ v. v.items) c.into_bytes.ensures.value ∙ e
