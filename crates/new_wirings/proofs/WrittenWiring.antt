-- The wiring of new chips can be written.
use Rattle.std.proofs.Common.{ℕ, ◌≡◌, ◌+◌, ◌<◌, Bool, true, not, ◌&&◌, List, map, length, refl, sym, ap, ◌∙◌, subst, ltb, lt-ltb, arith, IsTrue}
use Rattle.std.specs.List.{list_all}
use Rattle.std.specs.Str.{bytes_eq}
use Rattle.std.proofs.lemmas.List.{length-map}
use Rattle.mig_base.specs.declared.nets.Net.{Net}
use Rattle.mig_base.specs.declared.nets.NetLine.{NetLine}
use Rattle.mig_base.specs.declared.nets.ChipLine.{ChipLine}
use Rattle.mig_base.specs.declared.nets.PinLine.{PinLine}
use Rattle.mig_base.specs.Among.{Among}
use Rattle.mig_base.specs.Names.{is_name}
use Rattle.mig_base.specs.BoardText.{net_names, is_input_port}
use Rattle.mig_base.specs.WrittenBoard.{are_distinct, is_pulled, IsWritable}
use Rattle.mig_base.proofs.Amongs.{among-map, pass-all}
use Rattle.new_board.specs.NewFiles.{kept_numbers, new_net, new_chip_line}
use Rattle.new_board.specs.declared.types.FittedChip.{FittedChip}
use Rattle.new_board.proofs.Items.{all-pass}
use Rattle.new_wirings.specs.NewWirings.{CanBeWired, NewWiringsCanBeWritten}
use Rattle.new_wirings.proofs.KeptLines.{lines-few, lines-pass, lines-distinct}
use Rattle.new_wirings.proofs.WiredPins.{map-in-turn, pins-rise, pins-low}

chip-named : (net : Net) (chips : List FittedChip) → list_all (λ (f : FittedChip). is_name f.name) chips ≡ true → list_all (λ (c : ChipLine). is_name c.name) (new_net net chips).chips ≡ true
chip-named net chips h = pass-all (λ (c : ChipLine). is_name c.name) (new_net net chips).chips (λ c a.
    let f = among-map new_chip_line c chips a in
    ap (λ (l : ChipLine). is_name l.name) f.2 ∙ all-pass (λ (f : FittedChip). is_name f.name) f.0 chips h f.1)

pub wiring-writable : NewWiringsCanBeWritten
wiring-writable net chips w h = record {
  few_nets = let few = lines-few net chips in let old = w.few_nets in omega arith;
  few_chips = let count : length (new_net net chips).chips ≡ length chips = length-map chips new_chip_line in let few = h.few in omega arith;
  named_nets = lines-pass net chips (λ l. is_name l.name) w.named_nets;
  named_chips = chip-named net chips h.named;
  distinct_nets = lines-distinct net chips w.distinct_nets;
  distinct_chips = subst (λ (names : List (List ℕ)). IsTrue (are_distinct bytes_eq names)) (sym (map-in-turn (λ (c : ChipLine). c.name) new_chip_line chips)) h.distinct;
  no_input_pulled = lines-pass net chips (λ l. not (is_pulled l.pull && is_input_port l.port)) w.no_input_pulled;
  pins_in_order = pins-rise (kept_numbers net chips) 0 chips h.rising;
  pins_on_nets = pass-all (λ (l : PinLine). ltb l.net (length (net_names (new_net net chips).nets))) (new_net net chips).pins (λ l a.
      let below = pins-low net chips h.on_nets l a in
      let count : length (map (λ (l : NetLine). l.name) (new_net net chips).nets) ≡ length (new_net net chips).nets = length-map (new_net net chips).nets (λ (l : NetLine). l.name) in
      lt-ltb l.net (length (net_names (new_net net chips).nets)) (omega arith));
}
