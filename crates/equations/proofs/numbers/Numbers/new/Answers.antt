use Rattle.std.proofs.Common.{rules, ◌≡◌, ◌<◌, ◌≤◌, List, length, sym, ap, subst, ◌∙◌, arith}
use Rattle.std.specs.List.{All}
use Rattle.std.proofs.lemmas.List.Elements.{All-same}
use Rattle.mig_base.specs.declared.cells.ChipCells.{ChipCells}
use Rattle.mig_base.specs.declared.nets.Net.{Net}
use Rattle.mig_base.specs.Boards.{ChipUnit, at_of, place_of, registers_of, units_from}
use Rattle.equations.specs.Tables.{IsTable}
use Rattle.equations.proofs.TableLemmas.{register-table}
use Rattle.equations.proofs.UnitsWithin.{units-within}
use Rattle.equations.proofs.numbers.Numbers.new.Goals as goal

pub invariant_of-result : goal.invariant_of-result
invariant_of-result c =
    let net = c.args.parts.now.net in
    let chips = c.args.parts.now.chips in
    let same : length chips ≡ length net.chips = ap length (sym c.chips-chips.ensures.chips) ∙ c.chips-chips.ensures.lines in
    record {
      within = subst (λ (n : Net). All (λ (u : ChipUnit). u.chip < length n.chips) c.units-units.result.now) (sym c.numbers-nets.ensures.numbers)
          (All-same (λ (u : ChipUnit). u.chip < length net.chips) c.units-units.result.now (units_from 0 chips) c.units-units.ensures.units (units-within 0 (length net.chips) chips (omega (arith, same))));
      is_table = register-table c.as_slice.result.now c.units-units.result.now (length c.chips-chips.result.now) (length c.numbers-nets.result.now.chips) c.in_ok-registers.registers
          (c.as_slice.ensures.value ∙ c.in_ok-pins.ensures) (c.chips-chips.ensures.lines ∙ ap (λ (n : Net). length n.chips) (sym c.numbers-nets.ensures.numbers)) c.in_ok-registers.ensures;
    }
