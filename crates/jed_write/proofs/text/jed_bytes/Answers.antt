use Rattle.std.proofs.Common.{◌≡◌, ◌%◌, ◌++◌, ◌∷◌, [], Bool, List, ℕ, sum, ap, ◌∙◌}
use Rattle.mig_base.specs.WrittenFuses.{written_groups, design_of, pins_digits, written_body, four_hex}
use Rattle.jed_write.proofs.PartLemmas.{framed}
use Rattle.jed_write.proofs.text.jed_bytes.Goals as goal

pub returns : goal.returns
returns c =
    let body : List ℕ = written_body (design_of c.args.kind) (pins_digits c.args.kind) (written_groups c.args.kind c.args.fuses.now.bits) in
    let start : c.push.new.self.items ≡ 2 ∷ [] = c.in_ok-push.ensures.items ∙ ap (λ (text : List ℕ). text ++ 2 ∷ []) c.new-text.ensures.items in
    let summed : c.push-2.new.self.items ≡ (2 ∷ body) ++ 3 ∷ [] =
    c.in_ok-push-2.ensures.items ∙ ap (λ (text : List ℕ). text ++ 3 ∷ []) (c.in_ok-push_body.ensures ∙ ap (λ (states : List Bool). c.push.new.self.items ++ written_body (design_of c.args.kind) (pins_digits c.args.kind) (written_groups c.args.kind states)) c.items.ensures ∙ ap (λ (text : List ℕ). text ++ body) start) in
    let digits : c.hex.result ≡ four_hex (sum ((2 ∷ body) ++ 3 ∷ []) % 65536) =
    c.hex.ensures ∙ ap four_hex (c.byte_sum-sum.ensures ∙ ap (λ (text : List ℕ). sum text % 65536) (c.as_slice.ensures.value ∙ summed)) in
    c.in_ok-push-3.ensures.items
    ∙ ap (λ (text : List ℕ). text ++ 10 ∷ []) (c.in_ok-extend_from_slice.ensures.items ∙ ap (λ (text : List ℕ). text ++ c.hex.result) summed ∙ ap (λ (more : List ℕ). ((2 ∷ body) ++ 3 ∷ []) ++ more) digits)
    ∙ framed body
