-- The board that a board text says.
use Rattle.std.specs.Prelude.{ℕ, ◌+◌, Bool, true, false, not, ◌&&◌, ◌||◌, List, [], ◌∷◌, ◌++◌, length, map, if◌then◌else◌, ◌==◌, nat_le, nat_lt, Option, Some, None, is_none, Result, Ok, codes}
use Rattle.std.specs.List.{list_any, filter_map, find}
use Rattle.std.specs.Str.{bytes_eq}
use Rattle.std.specs.Option.{option_map}
use Rattle.mig_base.specs.declared.kinds.Kind.{Kind}
use Rattle.mig_base.specs.declared.nets.Net.{Net}
use Rattle.mig_base.specs.declared.nets.NetLine.{NetLine}
use Rattle.mig_base.specs.declared.nets.ChipLine.{ChipLine}
use Rattle.mig_base.specs.declared.nets.PinLine.{PinLine}
use Rattle.mig_base.specs.declared.nets.Port.{Port}
use Rattle.mig_base.specs.declared.nets.Port.TheVariants as port
use Rattle.mig_base.specs.declared.nets.Pull.{Pull}
use Rattle.mig_base.specs.declared.nets.Pull.TheVariants as pull
use Rattle.mig_base.specs.declared.nets.NetError.{NetError}
use Rattle.mig_base.specs.declared.nets.NetError.TheVariants.{Line, NetsOver, ChipsOver, NameTwice, KindUnknown, NetUnknown, ChipUnknown, PinUnknown, PinTwice, PowerPin, PullTwice, PullNet, NoEnd}
use Rattle.mig_base.specs.Names.{is_name}
use Rattle.mig_base.specs.First.{or_else, first_refusal, unless}
use Rattle.mig_base.specs.Lines.{TextLine, text_lines, number_of}
use Rattle.mig_base.specs.DeviceTables.{kind_named, pins_of, ground_of, ordinary_pins}

-- the direction of a port
abbrev pub port_named : List ℕ → Option Port
port_named w =
    if bytes_eq w (codes "in") then Some port.Input
    else (if bytes_eq w (codes "out") then Some port.Output else (if bytes_eq w (codes "io") then Some port.Both else None))

-- the direction of a pull
abbrev pub pull_named : List ℕ → Option Pull
pull_named w = if bytes_eq w (codes "up") then Some pull.Up else (if bytes_eq w (codes "down") then Some pull.Down else None)

-- what a line says, by its form alone; a chip may have an unknown kind
pub data Says : Type 0 where
  Head : (version : ℕ) → Says
  NetOf : (name : List ℕ) (dir : Port) → Says
  ChipOf : (name : List ℕ) (kind : Option Kind) → Says
  PinOf : (chip : List ℕ) (pin : ℕ) (net : List ℕ) → Says
  PullOf : (net : List ℕ) (dir : Pull) → Says
  End : Says
  Wrong : Says

abbrev pub or_wrong : {T : Type 0} → (T → Says) → Option T → Says
or_wrong f None = Wrong
or_wrong f (Some t) = f t

abbrev pub after_net : List (List ℕ) → Says
after_net (name ∷ []) = if is_name name then NetOf name port.Inner else Wrong
after_net (name ∷ dir ∷ []) = if is_name name then or_wrong (NetOf name) (port_named dir) else Wrong
after_net _ = Wrong

abbrev pub after_chip : List (List ℕ) → Says
after_chip (name ∷ kind ∷ []) = if is_name name then ChipOf name (kind_named kind) else Wrong
after_chip _ = Wrong

abbrev pub after_pin : List (List ℕ) → Says
after_pin (chip ∷ pin ∷ net ∷ []) = if is_name chip && is_name net then or_wrong (λ n. PinOf chip n net) (number_of pin) else Wrong
after_pin _ = Wrong

abbrev pub after_pull : List (List ℕ) → Says
after_pull (net ∷ dir ∷ []) = if is_name net then or_wrong (PullOf net) (pull_named dir) else Wrong
after_pull _ = Wrong

abbrev pub after_board : List (List ℕ) → Says
after_board (version ∷ []) = if bytes_eq version (codes "1") then Head 1 else (if bytes_eq version (codes "2") then Head 2 else Wrong)
after_board _ = Wrong

abbrev pub after_end : List (List ℕ) → Says
after_end [] = End
after_end _ = Wrong

-- a line by its words
abbrev pub says : List (List ℕ) → Says
says [] = Wrong
says (w ∷ ws) =
    if bytes_eq w (codes "net") then after_net ws
    else (if bytes_eq w (codes "chip") then after_chip ws
    else (if bytes_eq w (codes "pin") then after_pin ws
    else (if bytes_eq w (codes "pull") then after_pull ws
    else (if bytes_eq w (codes "end") then after_end ws
    else (if bytes_eq w (codes "board") then after_board ws else Wrong)))))

-- the place of a name
abbrev pub place_named : List ℕ → List (List ℕ) → Option ℕ
place_named name [] = None
place_named name (n ∷ ns) = if bytes_eq name n then Some 0 else option_map (λ k. k + 1) (place_named name ns)

abbrev pub net_said : Says → Option NetLine
net_said (NetOf name dir) = Some (record { name = name; port = dir; pull = pull.Free })
net_said _ = None

-- the nets that lines say, before their pulls
abbrev pub nets_in : List Says → List NetLine
nets_in ss = filter_map net_said ss

abbrev pub net_names : List NetLine → List (List ℕ)
net_names nets = codes "GND" ∷ codes "VCC" ∷ map (λ l. l.name) nets

abbrev pub names_of_nets : List Says → List (List ℕ)
names_of_nets ss = net_names (nets_in ss)

abbrev pub chip_of_kind : List ℕ → Option Kind → Option ChipLine
chip_of_kind name None = None
chip_of_kind name (Some k) = Some (record { name = name; kind = k })

abbrev pub chip_said : Says → Option ChipLine
chip_said (ChipOf name kind) = chip_of_kind name kind
chip_said _ = None

-- the chips that lines say
abbrev pub chips_in : List Says → List ChipLine
chips_in ss = filter_map chip_said ss

-- whether a line puts this pin of the chip on a net
abbrev pub has_pin : List ℕ → ℕ → Says → Bool
has_pin chip pin (PinOf c p net) = bytes_eq chip c && (pin == p)
has_pin chip pin _ = false

-- whether a line pulls this net
abbrev pub pulls : List ℕ → Says → Bool
pulls net (PullOf n dir) = bytes_eq net n
pulls net _ = false

abbrev pub ends : Says → Bool
ends End = true
ends _ = false

-- a text of this version
abbrev pub is_version : ℕ → Says → Bool
is_version n (Head version) = version == n
is_version n _ = false

abbrev pub refuse : Bool → NetError → Option NetError
refuse b e = if b then Some e else None

abbrev pub power_refusal : ℕ → Kind → ℕ → ℕ → Option NetError
power_refusal n kind pin net =
    refuse (((pin == ground_of kind) && not (net == 0)) || ((pin == pins_of kind) && not (net == 1))) (PowerPin n)

abbrev pub power_refusal_at : ℕ → Kind → ℕ → Option ℕ → Option NetError
power_refusal_at n kind pin None = None
power_refusal_at n kind pin (Some net) = power_refusal n kind pin net

-- words from left to right, then an earlier line of this pin, then a power pin on a wrong net
abbrev pub pin_refusal_at : ℕ → List Says → List ℕ → ℕ → Option ChipLine → Option ℕ → Option NetError
pin_refusal_at n before chip pin None net = Some (ChipUnknown n)
pin_refusal_at n before chip pin (Some line) net =
    or_else (refuse (not (nat_le 1 pin && nat_le pin (pins_of line.kind))) (PinUnknown n))
    (or_else (refuse (is_none net) (NetUnknown n))
    (or_else (refuse (list_any (has_pin chip pin) before) (PinTwice n))
    (power_refusal_at n line.kind pin net)))

abbrev pub chip_named : List ℕ → List ChipLine → Option ChipLine
chip_named name chips = find (λ c. bytes_eq name c.name) chips

abbrev pub is_input_port : Port → Bool
is_input_port port.Input = true
is_input_port _ = false

abbrev pub is_both : Port → Bool
is_both port.Both = true
is_both _ = false

-- an Input port of this name among these nets, or GND or VCC
abbrev pub cant_pull : List NetLine → List ℕ → Bool
cant_pull nets net = bytes_eq net (codes "GND") || bytes_eq net (codes "VCC") || list_any (λ l. bytes_eq net l.name && is_input_port l.port) nets

-- in a text of version 1 there are no pulls; the nets are those of the lines before
abbrev pub pull_refusal : ℕ → List Says → List NetLine → List ℕ → Option NetError
pull_refusal n before nets net =
    or_else (refuse (list_any (is_version 1) before) (Line n))
    (or_else (refuse (is_none (place_named net (net_names nets))) (NetUnknown n))
    (or_else (refuse (list_any (pulls net) before) (PullTwice n)) (refuse (cant_pull nets net) (PullNet n))))

-- a name that stands behind these nets
abbrev pub net_refusal : ℕ → List NetLine → List ℕ → Option NetError
net_refusal n nets name = or_else (refuse (nat_le 1024 (length nets)) (NetsOver n)) (refuse (list_any (bytes_eq name) (net_names nets)) (NameTwice n))

-- a chip that stands behind these
abbrev pub chip_refusal : ℕ → List ChipLine → List ℕ → Option Kind → Option NetError
chip_refusal n chips name kind =
    or_else (refuse (is_none kind) (KindUnknown n))
    (or_else (refuse (nat_le 64 (length chips)) (ChipsOver n)) (refuse (list_any (λ c. bytes_eq name c.name) chips) (NameTwice n)))

-- what is wrong with a line behind these
abbrev pub said_refusal : ℕ → List Says → Says → Option NetError
said_refusal n before Wrong = Some (Line n)
said_refusal n before (Head version) = refuse (nat_lt 0 (length before)) (Line n)
said_refusal n before End = None
said_refusal n before (NetOf name dir) = net_refusal n (nets_in before) name
said_refusal n before (ChipOf name kind) = chip_refusal n (chips_in before) name kind
said_refusal n before (PinOf chip pin net) = pin_refusal_at n before chip pin (chip_named chip (chips_in before)) (place_named net (names_of_nets before))
said_refusal n before (PullOf net dir) = pull_refusal n before (nets_in before) net

abbrev pub is_head : Says → Bool
is_head (Head version) = true
is_head _ = false

-- what a line says, with its number
pub record SaidLine : Type 0 where
  pub n : ℕ
  pub said : Says

abbrev pub said_line : TextLine → SaidLine
said_line l = record { n = l.n; said = says l.words }

-- what the lines of a text say
abbrev pub said_lines : List ℕ → List SaidLine
said_lines bytes = map said_line (text_lines bytes)

abbrev pub all_said : List SaidLine → List Says
all_said lines = map (λ l. l.said) lines

abbrev pub is_first : List SaidLine → Bool
is_first [] = true
is_first (b ∷ bs) = false

-- the first line is the head, and none stands behind the end
abbrev pub line_refusal : List SaidLine → SaidLine → Option NetError
line_refusal before l =
    or_else (refuse (is_first before && not (is_head l.said)) (Line l.n))
    (or_else (refuse (list_any (λ b. ends b.said) before) (Line l.n)) (said_refusal l.n (all_said before) l.said))

-- the first line that is wrong, else whether the end is missing
abbrev pub text_refusal : List SaidLine → Option NetError
text_refusal lines = or_else (first_refusal line_refusal [] lines) (refuse (not (list_any (λ l. ends l.said) lines)) NoEnd)

abbrev pub net_on : List (List ℕ) → Says → Option ℕ
net_on names (PinOf c p net) = place_named net names
net_on names _ = None

-- the net of a pin that lines say
abbrev pub net_at : List Says → List (List ℕ) → List ℕ → ℕ → Option ℕ
net_at [] names chip pin = None
net_at (s ∷ ss) names chip pin = if has_pin chip pin s then net_on names s else net_at ss names chip pin

-- the lines of the pins of a chip, rising, without ground and power
abbrev pub pins_of_chip : List Says → ℕ → ChipLine → List PinLine
pins_of_chip ss j c =
    filter_map (λ p. option_map (λ n. record { chip = j; pin = p; net = n }) (net_at ss (names_of_nets ss) c.name p)) (ordinary_pins c.kind)

abbrev pub pins_in : List Says → ℕ → List ChipLine → List PinLine
pins_in ss j [] = []
pins_in ss j (c ∷ cs) = pins_of_chip ss j c ++ pins_in ss (j + 1) cs

abbrev pub pull_on : Says → Pull
pull_on (PullOf net dir) = dir
pull_on _ = pull.Free

-- the pull of a net that lines say
abbrev pub pull_in : List Says → List ℕ → Pull
pull_in [] net = pull.Free
pull_in (s ∷ ss) net = if pulls net s then pull_on s else pull_in ss net

abbrev pub with_pull : List Says → NetLine → NetLine
with_pull ss l = record { name = l.name; port = l.port; pull = pull_in ss l.name }

abbrev pub net_in : List Says → Net
net_in ss = record { nets = map (with_pull ss) (nets_in ss); chips = chips_in ss; pins = pins_in ss 0 (chips_in ss) }

-- the wiring that a board text says, or the first refusal
abbrev pub net_of_text : List ℕ → Result Net NetError
net_of_text bytes = unless (text_refusal (said_lines bytes)) (Ok (net_in (all_said (said_lines bytes))))
