use Rattle.std.proofs.Common.{ℕ, List, length, map, filter, ap, subst, ◌∙◌}
use Rattle.equations.specs.Tables.{IsTable}
use Rattle.mig_base.specs.declared.nets.Net.{Net}
use Rattle.mig_base.specs.Boards.{net_of, places_from}
use Rattle.mig_base.specs.First.{made_from}
use Rattle.board.specs.declared.Unit.{Unit as NamedUnit}
use Rattle.board.specs.NodeNames.{net_names as names_of_nets}
use Rattle.board.specs.UnitLists.{has_named, named_pin, registers_before}
use Rattle.board.proofs.UnitLaws.{units-before, units-pins, units-registers}
use Rattle.board.proofs.tables.Tables.new.Goals as goal

pub returns : goal.returns
returns c =
    let net = c.args.parts.now.net in
    let chips = c.args.parts.now.chips in
    let lines = subst (λ (n : ℕ). IsTable (net_of c.numbers-numbers.result.now) n c.in_ok-pins.pins) c.chips-chips.ensures.lines c.in_ok-pins.ensures in
    record {
      pins = subst (λ (x : Net). IsTable (net_of x) (length net.chips) c.in_ok-pins.pins) c.numbers-numbers.ensures.numbers lines;
      net_names = c.in_ok-net_names.ensures ∙ ap names_of_nets c.net.ensures;
      register_pins = c.in_ok-register_pins.ensures ∙ ap (λ (us : List NamedUnit). map named_pin (filter has_named us)) (c.as_slice.ensures.value ∙ c.in_ok-units.ensures.units) ∙ units-pins net chips;
      units = c.new.ensures ∙ c.in_ok-units.ensures.units;
      registers = c.in_ok-registers.ensures ∙ ap (places_from has_named 0) (c.as_slice-2.ensures.value ∙ c.in_ok-units.ensures.units) ∙ units-registers net chips;
      places = c.in_ok-places.ensures ∙ ap (λ (us : List NamedUnit). made_from (registers_before us) 0 (length us)) (c.as_slice-3.ensures.value ∙ c.in_ok-units.ensures.units) ∙ units-before net chips;
    }
