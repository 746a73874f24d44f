use Rattle.std.proofs.Common.{ℕ, ◌≡◌, ◌<◌, ◌^◌, List, length, map, sym, ap, subst, ◌∙◌, arith}
use Rattle.std.proofs.lemmas.List.Elements.{All-same}
use Rattle.std.specs.List.{All, zip}
use Rattle.mig_base.specs.declared.nets.Net.{Net}
use Rattle.mig_base.specs.Boards.{ChipUnit, units_from}
use Rattle.equations.proofs.UnitsWithin.{units-within}
use Rattle.board.specs.UnitLists.{cell_places, unit_on}
use Rattle.board.proofs.UnitLaws.{length-cells, length-units}
use Rattle.board.proofs.tables.all_units.Goals as goal

pub named_units-requires-clause-chips : goal.named_units-requires-clause-chips
named_units-requires-clause-chips c =
    let net = c.args.parts.now.net in
    let chips = c.args.parts.now.chips in
    let same : length chips ≡ length net.chips = ap length (sym c.chips-chips.ensures.chips) ∙ c.chips-chips.ensures.lines in
    subst (λ (n : Net). All (λ (u : ChipUnit). u.chip < length n.chips) c.units-units.result.now) (sym c.net.ensures)
    (All-same (λ (u : ChipUnit). u.chip < length net.chips) c.units-units.result.now (units_from 0 chips) c.units-units.ensures.units (units-within 0 (length net.chips) chips (omega (arith, same))))

pub named_units-requires-clause-places : goal.named_units-requires-clause-places
named_units-requires-clause-places c =
    let chips = c.args.parts.now.chips in
    ap length (c.as_slice.ensures.value ∙ c.in_ok-places.ensures ∙ ap cell_places c.chips-chips.ensures.chips) ∙ length-cells 0 chips ∙ sym (ap length c.units-units.ensures.units)

pub returns-clause-units : goal.returns-clause-units
returns-clause-units c =
    let net = c.args.parts.now.net in
    let chips = c.args.parts.now.chips in
    c.in_ok-named.ensures
    ∙ ap (λ (n : Net). map (unit_on n) (zip c.units-units.result.now c.as_slice.result.now)) c.net.ensures
    ∙ ap (λ (us : List ChipUnit). map (unit_on net) (zip us c.as_slice.result.now)) c.units-units.ensures.units
    ∙ ap (λ (ps : List ℕ). map (unit_on net) (zip (units_from 0 chips) ps)) (c.as_slice.ensures.value ∙ c.in_ok-places.ensures ∙ ap cell_places c.chips-chips.ensures.chips)

pub returns-clause-few : goal.returns-clause-few
returns-clause-few c =
    let net = c.args.parts.now.net in
    let chips = c.args.parts.now.chips in
    let named : length c.in_ok-named.named.items ≡ length (units_from 0 chips) = ap length (returns-clause-units c) ∙ length-units net chips in
    let few : length c.units-units.result.now < 2 ^ 32 = c.units-units.ensures.few in
    let long : length c.units-units.result.now ≡ length (units_from 0 chips) = ap length c.units-units.ensures.units in
    omega (arith, named, few, long)
