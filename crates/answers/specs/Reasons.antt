-- Why something was refused, as it is printed.
use Rattle.std.specs.Prelude.{ℕ, List, [], ◌∷◌, ◌++◌, map, slice_index_or, codes}
use Rattle.std.specs.Fmt.{decimal}
use Rattle.mig_base.specs.declared.jedec.JedError.{JedError}
use Rattle.mig_base.specs.declared.jedec.JedError.TheVariants as jed_error
use Rattle.mig_base.specs.declared.cells.ChipError.{ChipError}
use Rattle.mig_base.specs.declared.cells.ChipError.TheVariants as chip_error
use Rattle.mig_base.specs.declared.nets.NetError.{NetError}
use Rattle.mig_base.specs.declared.nets.NetError.TheVariants as net_error
use Rattle.mig_base.specs.declared.nets.NetLine.{NetLine}
use Rattle.mig_base.specs.declared.nets.Node.{Node}
use Rattle.mig_base.specs.declared.nets.Node.TheVariants.{Gnd, Vcc, Named, Private, Reg}
use Rattle.mig_base.specs.declared.nets.PinName.{PinName}
use Rattle.mig_base.specs.BoardText.{net_names}
use Rattle.mig_base.specs.WrittenFuses.{four_hex}
use Rattle.mig_base.specs.declared.nets.BoardError.{BoardError}
use Rattle.mig_base.specs.declared.nets.BoardError.TheVariants as board_error
use Rattle.mig_base.specs.declared.scripts.ScriptError.{ScriptError}
use Rattle.mig_base.specs.declared.scripts.ScriptError.TheVariants as script_error
use Rattle.mig_base.specs.declared.plans.PlanError.{PlanError}
use Rattle.mig_base.specs.declared.plans.PlanError.TheVariants as plan_error

-- why something was refused: the name of a variant, and its fields
abbrev pub Reason : Type 0
Reason = List ℕ × List (List ℕ)

abbrev pub reason_words : Reason → List (List ℕ)
reason_words r = r.0 ∷ r.1

-- sums as four hexadecimal digits, other numbers in decimal
abbrev pub jed_reason : JedError → Reason
jed_reason jed_error.NoStx = (codes "NoStx", [])
jed_reason jed_error.NoEtx = (codes "NoEtx", [])
jed_reason jed_error.BadTail = (codes "BadTail", [])
jed_reason (jed_error.BadSum said found) = (codes "BadSum", four_hex said ∷ four_hex found ∷ [])
jed_reason (jed_error.BadField at) = (codes "BadField", decimal at ∷ [])
jed_reason (jed_error.FieldK at) = (codes "FieldK", decimal at ∷ [])
jed_reason (jed_error.CountTwice at) = (codes "CountTwice", decimal at ∷ [])
jed_reason (jed_error.CountOver found) = (codes "CountOver", decimal found ∷ [])
jed_reason (jed_error.DefaultTwice at) = (codes "DefaultTwice", decimal at ∷ [])
jed_reason jed_error.NoCount = (codes "NoCount", [])
jed_reason (jed_error.Address at) = (codes "Address", decimal at ∷ [])
jed_reason (jed_error.FuseTwice fuse) = (codes "FuseTwice", decimal fuse ∷ [])
jed_reason (jed_error.FuseUnset fuse) = (codes "FuseUnset", decimal fuse ∷ [])
jed_reason (jed_error.BadFuseSum said found) = (codes "BadFuseSum", four_hex said ∷ four_hex found ∷ [])
jed_reason jed_error.Memory = (codes "Memory", [])

abbrev pub chip_reason : ChipError → Reason
chip_reason (chip_error.Count found) = (codes "Count", decimal found ∷ [])
chip_reason chip_error.ModeBits = (codes "ModeBits", [])
chip_reason (chip_error.Ac1InComplex pin) = (codes "Ac1InComplex", decimal pin ∷ [])
chip_reason chip_error.Memory = (codes "Memory", [])

abbrev pub net_reason : NetError → Reason
net_reason (net_error.Line n) = (codes "Line", decimal n ∷ [])
net_reason (net_error.NetsOver n) = (codes "NetsOver", decimal n ∷ [])
net_reason (net_error.ChipsOver n) = (codes "ChipsOver", decimal n ∷ [])
net_reason (net_error.NameTwice n) = (codes "NameTwice", decimal n ∷ [])
net_reason (net_error.KindUnknown n) = (codes "KindUnknown", decimal n ∷ [])
net_reason (net_error.NetUnknown n) = (codes "NetUnknown", decimal n ∷ [])
net_reason (net_error.ChipUnknown n) = (codes "ChipUnknown", decimal n ∷ [])
net_reason (net_error.PinUnknown n) = (codes "PinUnknown", decimal n ∷ [])
net_reason (net_error.PinTwice n) = (codes "PinTwice", decimal n ∷ [])
net_reason (net_error.PowerPin n) = (codes "PowerPin", decimal n ∷ [])
net_reason (net_error.PullTwice n) = (codes "PullTwice", decimal n ∷ [])
net_reason (net_error.PullNet n) = (codes "PullNet", decimal n ∷ [])
net_reason net_error.NoEnd = (codes "NoEnd", [])
net_reason net_error.Memory = (codes "Memory", [])

-- a pin of a chip
abbrev pub pin_text : PinName → List ℕ
pin_text p = p.chip ++ 46 ∷ decimal p.pin

-- a node by its name: a private net by its pin, a register by its unit's pin
abbrev pub node_text : Node → List ℕ
node_text Gnd = codes "GND"
node_text Vcc = codes "VCC"
node_text (Named name) = name
node_text (Private pin) = pin_text pin
node_text (Reg pin) = pin_text pin ++ codes ":Q"

abbrev pub board_reason : BoardError → Reason
board_reason (board_error.InDriven net) = (codes "InDriven", node_text net ∷ [])
board_reason (board_error.DerivedClock chip) = (codes "DerivedClock", chip ∷ [])
board_reason (board_error.Loop cycle) = (codes "Loop", map node_text cycle)
board_reason board_error.Memory = (codes "Memory", [])

-- the name of the net of this number among GND, VCC and the named nets
abbrev pub name_of_net : List NetLine → ℕ → List ℕ
name_of_net nets n = slice_index_or (net_names nets) n []

-- why a script was refused for a board with these named nets
abbrev pub script_reason : List NetLine → ScriptError → Reason
script_reason nets (script_error.Line n) = (codes "Line", decimal n ∷ [])
script_reason nets (script_error.PortUnknown n) = (codes "PortUnknown", decimal n ∷ [])
script_reason nets (script_error.PortTwice n) = (codes "PortTwice", decimal n ∷ [])
script_reason nets (script_error.PortLeft net) = (codes "PortLeft", name_of_net nets net ∷ [])
script_reason nets (script_error.LevelBad n) = (codes "LevelBad", decimal n ∷ [])
script_reason nets (script_error.StepsOver n) = (codes "StepsOver", decimal n ∷ [])
script_reason nets script_error.NoEnd = (codes "NoEnd", [])
script_reason nets script_error.Memory = (codes "Memory", [])

-- why a plan text was refused
abbrev pub plan_reason : PlanError → Reason
plan_reason (plan_error.Line n) = (codes "Line", decimal n ∷ [])
plan_reason (plan_error.KindUnknown n) = (codes "KindUnknown", decimal n ∷ [])
plan_reason (plan_error.ChipsOver n) = (codes "ChipsOver", decimal n ∷ [])
plan_reason (plan_error.LinesOver n) = (codes "LinesOver", decimal n ∷ [])
plan_reason plan_error.NoEnd = (codes "NoEnd", [])
plan_reason plan_error.Memory = (codes "Memory", [])
