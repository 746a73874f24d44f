-- Which new chips can be wired, and that their wiring has a text.
use Rattle.std.specs.Prelude.{ℕ, ◌≤◌, Bool, ◌==◌, nat_lt, IsTrue, List, map, length}
use Rattle.std.specs.List.{list_all}
use Rattle.std.specs.Str.{bytes_eq}
use Rattle.mig_base.specs.declared.nets.Net.{Net}
use Rattle.mig_base.specs.Names.{is_name}
use Rattle.mig_base.specs.DeviceTables.{ordinary_pins}
use Rattle.mig_base.specs.WrittenBoard.{are_distinct, is_part, IsWritable}
use Rattle.new_board.specs.declared.types.FittedChip.{FittedChip}
use Rattle.new_board.specs.NewChip.{private_from}
use Rattle.new_board.specs.NewFiles.{new_net}

-- the wired pins of a chip rise, and are pins of its kind other than ground and power
abbrev pub has_rising_pins : FittedChip → Bool
has_rising_pins f = is_part (λ p q. p == q) (map (λ w. w.pin) f.wires) (ordinary_pins f.cells.kind)

-- each wired pin of a chip is on GND, VCC or a named net
abbrev pub is_on_named_nets : Net → FittedChip → Bool
is_on_named_nets net f = list_all (λ w. nat_lt w.net (private_from net)) f.wires

-- new chips that can be wired: at most 64, with different names, each with rising pins on nets of the old board
pub record CanBeWired (net : Net) (chips : List FittedChip) : Type 0 where
  pub few : length chips ≤ 64
  pub named : IsTrue (list_all (λ f. is_name f.name) chips)
  pub distinct : IsTrue (are_distinct bytes_eq (map (λ f. f.name) chips))
  pub rising : IsTrue (list_all has_rising_pins chips)
  pub on_nets : IsTrue (list_all (is_on_named_nets net) chips)

-- the new wiring has a text where the old one has one
abbrev pub NewWiringsCanBeWritten : Type 0
NewWiringsCanBeWritten = (net : Net) (chips : List FittedChip) → IsWritable net → CanBeWired net chips → IsWritable (new_net net chips)
