-- The lines of a board file as the reader holds them.
use Rattle.std.specs.Prelude.{◌≡◌, List, [], map, Some, None, Result, Ok, Err}
use Rattle.mig_base.specs.declared.nets.Net.{Net}
use Rattle.mig_base.specs.declared.nets.NetError.{NetError}
use Rattle.mig_base.specs.declared.nets.NetError.TheVariants.{Memory}
use Rattle.mig_base.specs.First.{first_refusal}
use Rattle.net_text.specs.declared.says.Said.{Said}
use Rattle.net_text.specs.declared.says.Said.TheVariants as said
use Rattle.net_text.specs.declared.lines.BoardLine.{BoardLine}
use Rattle.net_text.specs.declared.parts.Parts.{Parts}
use Rattle.mig_base.specs.BoardText.{Says, Head, NetOf, ChipOf, PinOf, PullOf, End, Wrong, SaidLine, line_refusal, nets_in, chips_in}

-- what a line says
abbrev pub says_of : Said → Says
says_of (said.Head version) = Head version
says_of (said.Net name port) = NetOf name port
says_of (said.Chip name kind) = ChipOf name kind
says_of (said.Pin chip pin net) = PinOf chip pin net
says_of (said.Pull net pull) = PullOf net pull
says_of said.End = End
says_of said.Wrong = Wrong

-- with its number
abbrev pub line_of : BoardLine → SaidLine
line_of l = record { n = l.n; said = says_of l.says }

-- what lines say
abbrev pub all_says : List BoardLine → List Says
all_says lines = map (λ l. says_of l.says) lines

-- where memory doesn't run out
abbrev pub UnlessMemory : NetError → Type 0 → Type 0
UnlessMemory Memory P = Unit {0}
UnlessMemory _ P = P

-- the nets and chips of lines that nothing refuses, or the first refusal
abbrev pub Judges : List BoardLine → Result Parts NetError → Type 0
Judges lines (Ok parts) =
    (first_refusal line_refusal [] (map line_of lines) ≡ None) × (parts.nets.items ≡ nets_in (all_says lines)) × (parts.chips.items ≡ chips_in (all_says lines))
Judges lines (Err e) = UnlessMemory e (first_refusal line_refusal [] (map line_of lines) ≡ Some e)

-- the answer is this one
abbrev pub Answers : Result Net NetError → Result Net NetError → Type 0
Answers said (Ok net) = said ≡ Ok net
Answers said (Err e) = UnlessMemory e (said ≡ Err e)
