use Rattle.std.proofs.Common.{◌≡◌, List, map, sym, ap, ◌∙◌}
use Rattle.std.specs.List.{filter_map}
use Rattle.board.specs.Variables.{read_of, var_of}
use Rattle.new_board.specs.InputPins.{Taken}
use Rattle.avail.specs.ServedVariables.{pins_for, first_unserved_by}
use Rattle.avail.specs.Needs.{pins_on, input_wires, column_at}
use Rattle.avail.proofs.CodeInputs.{none-mapped}
use Rattle.avail.proofs.needed_inputs.find_on.Goals as goal

pub returns : goal.returns
returns c =
    let b = c.args.board.now in
    let old = c.args.nets.now.old.now in
    let chip = c.args.nets.now.chip.now in
    let vars = c.args.vars.now in
    let reads = map (read_of b.chips) vars in
    let taken : c.in_ok-taken.taken.items ≡ pins_on b old chip vars = c.in_ok-taken.ensures ∙ ap (pins_for old chip) (c.as_slice.ensures.value ∙ c.in_ok-reads.ensures) in
    record {
      served =
          sym (ap (λ (ts : List Taken). first_unserved_by old chip ts reads) (c.as_slice-2.ensures.value ∙ taken))
          ∙ none-mapped (var_of b.chips) (first_unserved_by old chip c.as_slice-2.result.now reads) c.in_default.ensures;
      wires = c.in_ok-wires.ensures ∙ ap (input_wires old chip) (c.as_slice-3.ensures.value ∙ taken);
      columns = c.in_ok-columns.ensures ∙ ap (λ (ts : List Taken). filter_map (column_at b old chip ts) vars) (c.as_slice-4.ensures.value ∙ taken);
    }
