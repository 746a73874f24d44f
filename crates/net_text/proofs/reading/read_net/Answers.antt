use Rattle.std.proofs.Common.{◌≡◌, ◌≤◌, ap, ◌∙◌, sym, arith, length, List, map, Result, Ok}
use Rattle.mig_base.specs.declared.nets.Net.{Net}
use Rattle.mig_base.specs.declared.nets.NetError.{NetError}
use Rattle.mig_base.specs.BoardText.{nets_in, chips_in, ends, net_in}
use Rattle.std.specs.List.{list_any}
use Rattle.net_text.specs.declared.lines.BoardLine.{BoardLine}
use Rattle.net_text.specs.Statements.{all_says, line_of, says_of}
use Rattle.net_text.proofs.Wholes.{text-endless, text-whole, lines-kept}
use Rattle.net_text.proofs.reading.read_net.Goals as goal

pub returns-then-not-any_ends : goal.returns-then-not-any_ends
returns-then-not-any_ends c =
    text-endless c.args.bytes.now c.as_slice.result.now (ap (map line_of) c.as_slice.ensures.value ∙ c.in-Ok.ensures) c.in_ok-parts.ensures.0
    (ap (list_any (λ l. ends (says_of l.says))) (c.as_slice.ensures.value ∙ sym c.as_slice-2.ensures.value) ∙ sym c.any_ends.ensures ∙ c.if-not-any_ends.true)

pub wiring-requires-clause-few_nets : goal.wiring-requires-clause-few_nets
wiring-requires-clause-few_nets c =
    let e : length c.in_ok-parts.parts.nets.items ≡ length (nets_in (all_says c.as_slice.result.now)) = ap length c.in_ok-parts.ensures.1 in
    let few : length (nets_in (all_says c.as_slice.result.now)) ≤ 1024 = (lines-kept c.as_slice.result.now c.in_ok-parts.ensures.0).few_nets in
    omega arith

pub wiring-requires-clause-few_chips : goal.wiring-requires-clause-few_chips
wiring-requires-clause-few_chips c =
    let e : length c.in_ok-parts.parts.chips.items ≡ length (chips_in (all_says c.as_slice.result.now)) = ap length c.in_ok-parts.ensures.2 in
    let few : length (chips_in (all_says c.as_slice.result.now)) ≤ 64 = (lines-kept c.as_slice.result.now c.in_ok-parts.ensures.0).few_chips in
    omega arith

pub returns-in-Ok-wiring : goal.returns-in-Ok-wiring
returns-in-Ok-wiring c =
    text-whole c.args.bytes.now c.as_slice.result.now (ap (map line_of) c.as_slice.ensures.value ∙ c.in-Ok.ensures) c.in_ok-parts.ensures.0
    (ap (list_any (λ l. ends (says_of l.says))) (c.as_slice.ensures.value ∙ sym c.as_slice-2.ensures.value) ∙ sym c.any_ends.ensures ∙ c.if-not-any_ends.false)
    ∙ ap (λ (n : Net). let r : Result Net NetError = Ok n in r) (ap (λ (ls : List BoardLine). net_in (all_says ls)) (c.as_slice.ensures.value ∙ sym c.as_slice-3.ensures.value) ∙ sym c.in-Ok-wiring.ensures)
