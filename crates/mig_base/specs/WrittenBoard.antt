-- The text that is written for the wiring of a board, and which wirings have one.
use Rattle.std.specs.Prelude.{ℕ, ◌+◌, ◌≤◌, Bool, true, false, not, ◌&&◌, List, [], ◌∷◌, ◌++◌, length, map, if◌then◌else◌, ◌==◌, nat_lt, IsTrue, slice_index_or, Option, Some, None, Result, Ok, Err, codes}
use Rattle.std.specs.List.{list_any, list_all, filter_map, flat_map, join_with_byte}
use Rattle.std.specs.Fmt.{decimal}
use Rattle.std.specs.Str.{bytes_eq}
use Rattle.mig_base.specs.declared.nets.Net.{Net}
use Rattle.mig_base.specs.declared.nets.NetLine.{NetLine}
use Rattle.mig_base.specs.declared.nets.ChipLine.{ChipLine}
use Rattle.mig_base.specs.declared.nets.PinLine.{PinLine}
use Rattle.mig_base.specs.declared.nets.Port.{Port}
use Rattle.mig_base.specs.declared.nets.Port.TheVariants.{Inner, Input, Output, Both}
use Rattle.mig_base.specs.declared.nets.Pull.{Pull}
use Rattle.mig_base.specs.declared.nets.Pull.TheVariants.{Free, Up, Down}
use Rattle.mig_base.specs.Names.{is_name}
use Rattle.mig_base.specs.DeviceTables.{kind_name, ordinary_pins}
use Rattle.mig_base.specs.BoardText.{net_names, is_input_port, net_of_text}

-- words with a space between each two, and LF
abbrev pub written_line : List (List ℕ) → List ℕ
written_line words = join_with_byte 32 words ++ 10 ∷ []

-- the word of a direction; an inner net has none
abbrev pub port_words : Port → List (List ℕ)
port_words Inner = []
port_words Input = codes "in" ∷ []
port_words Output = codes "out" ∷ []
port_words Both = codes "io" ∷ []

abbrev pub net_line : NetLine → List (List ℕ)
net_line l = codes "net" ∷ l.name ∷ port_words l.port

abbrev pub pull_line_at : List ℕ → Pull → Option (List (List ℕ))
pull_line_at name Free = None
pull_line_at name Up = Some (codes "pull" ∷ name ∷ codes "up" ∷ [])
pull_line_at name Down = Some (codes "pull" ∷ name ∷ codes "down" ∷ [])

-- the line of a pulled net
abbrev pub pull_line : NetLine → Option (List (List ℕ))
pull_line l = pull_line_at l.name l.pull

abbrev pub chip_line : ChipLine → List (List ℕ)
chip_line c = codes "chip" ∷ c.name ∷ kind_name c.kind ∷ []

-- the name of the chip of this number
abbrev pub chip_name : Net → ℕ → List ℕ
chip_name net j = slice_index_or (map (λ c. c.name) net.chips) j []

-- the name of the net of this number; 0 is GND, 1 is VCC
abbrev pub net_name : Net → ℕ → List ℕ
net_name net k = slice_index_or (net_names net.nets) k []

abbrev pub pin_line : Net → PinLine → List (List ℕ)
pin_line net l = codes "pin" ∷ chip_name net l.chip ∷ decimal l.pin ∷ net_name net l.net ∷ []

abbrev pub is_pulled : Pull → Bool
is_pulled Free = false
is_pulled Up = true
is_pulled Down = true

-- version 2 exactly where a net is pulled
abbrev pub head_line : Net → List (List ℕ)
head_line net = codes "board" ∷ (if list_any (λ l. is_pulled l.pull) net.nets then codes "2" else codes "1") ∷ []

-- the words of the lines: nets, their pulls, chips, pins, the end
abbrev pub board_lines : Net → List (List (List ℕ))
board_lines net =
    head_line net ∷ map net_line net.nets ++ filter_map pull_line net.nets ++ map chip_line net.chips ++ map (pin_line net) net.pins
    ++ (codes "end" ∷ []) ∷ []

-- the text that is written
abbrev pub written_net : Net → List ℕ
written_net net = flat_map written_line (board_lines net)

-- no two are equal
abbrev pub are_distinct : {T : Type 0} → (T → T → Bool) → List T → Bool
are_distinct same [] = true
are_distinct same (x ∷ xs) = not (list_any (same x) xs) && are_distinct same xs

-- the first list is a part of the second, in its order
abbrev pub is_part : {T : Type 0} → (T → T → Bool) → List T → List T → Bool
is_part same [] ys = true
is_part same (x ∷ xs) [] = false
is_part same (x ∷ xs) (y ∷ ys) = if same x y then is_part same xs ys else is_part same (x ∷ xs) ys

-- a pin of a chip
abbrev pub Place : Type 0
Place = ℕ × ℕ

abbrev pub same_place : Place → Place → Bool
same_place p q = (p.0 == q.0) && (p.1 == q.1)

abbrev pub place_of : PinLine → Place
place_of l = (l.chip, l.pin)

-- the pins of chips, numbered from j on, by chip and rising pin, without ground and power
abbrev pub board_places : ℕ → List ChipLine → List Place
board_places j [] = []
board_places j (c ∷ cs) = map (λ p. (j, p)) (ordinary_pins c.kind) ++ board_places (j + 1) cs

-- what each wiring that a text gives keeps, and what is asked of one that is written
pub record IsWritable (net : Net) : Type 0 where
  pub few_nets : length net.nets ≤ 1024
  pub few_chips : length net.chips ≤ 64
  pub named_nets : IsTrue (list_all (λ l. is_name l.name) net.nets)
  pub named_chips : IsTrue (list_all (λ c. is_name c.name) net.chips)
  pub distinct_nets : IsTrue (are_distinct bytes_eq (net_names net.nets))
  pub distinct_chips : IsTrue (are_distinct bytes_eq (map (λ c. c.name) net.chips))
  pub no_input_pulled : IsTrue (list_all (λ l. not (is_pulled l.pull && is_input_port l.port)) net.nets)
  pub pins_in_order : IsTrue (is_part same_place (map place_of net.pins) (board_places 0 net.chips))
  pub pins_on_nets : IsTrue (list_all (λ l. nat_lt l.net (length (net_names net.nets))) net.pins)
