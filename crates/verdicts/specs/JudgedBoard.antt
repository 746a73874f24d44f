-- The board under a stem, or the first refusal.
use Rattle.std.specs.Prelude.{ℕ, ◌≡◌, ◌≢◌, ◌⊎◌, List, [], ◌∷◌, length, nat_le, Option, Some, None, Result, Ok, Err}
use Rattle.mig_base.specs.declared.kinds.Kind.{Kind}
use Rattle.mig_base.specs.declared.cells.ChipCells.{ChipCells}
use Rattle.mig_base.specs.declared.nets.Net.{Net}
use Rattle.mig_base.specs.declared.nets.ChipLine.{ChipLine}
use Rattle.mig_base.specs.declared.nets.BoardError.{BoardError}
use Rattle.mig_base.specs.declared.nets.BoardError.TheVariants as board_error
use Rattle.mig_base.specs.Limits.{most_file_bytes}
use Rattle.mig_base.specs.Accepted.{IsAccepted}
use Rattle.mig_base.specs.FuseText.{fuses_of_text}
use Rattle.mig_base.specs.Cells.{cells_of}
use Rattle.mig_base.specs.BoardText.{net_of_text}
use Rattle.mig_io.specs.Holding.{Held}
use Rattle.answers.specs.declared.exit.Exit.{Exit}
use Rattle.answers.specs.declared.exit.Exit.TheVariants.{Refused, Missing}
use Rattle.answers.specs.declared.exit.Refusal.TheVariants.{TooLong, Jed, Chip}
use Rattle.answers.specs.declared.exit.Refusal.TheVariants as refusal
use Rattle.board.specs.Joined.{Joined, equations_of}
use Rattle.board.specs.Refusals.{RefusesBoard}
use Rattle.verdicts.specs.HeldBoard.{net_file, jed_file}
use Rattle.verdicts.specs.Outcomes.{◌>>=◌, or_refused, only_if, Then}

-- a file that is held, of at most so many bytes
abbrev pub within_at : ℕ → List ℕ → Option (List ℕ) → Result (List ℕ) Exit
within_at most name None = Err (Missing name)
within_at most name (Some bytes) = only_if (nat_le (length bytes) most) bytes (Refused (TooLong name))

abbrev pub loaded : Held → ℕ → List ℕ → Result (List ℕ) Exit
loaded held most name = within_at most name (held name)

-- the wiring that a board text says
abbrev pub wiring_of : List ℕ → List ℕ → Result Net Exit
wiring_of name bytes = or_refused (refusal.Net name) (net_of_text bytes)

-- the cells that a fuse text makes in a chip of this kind
abbrev pub chip_of : List ℕ → Kind → List ℕ → Result ChipCells Exit
chip_of name kind bytes = or_refused (Jed name) (fuses_of_text bytes) >>= λ bits. or_refused (Chip name) (cells_of kind bits)

abbrev pub wiring_held : Held → List ℕ → Result Net Exit
wiring_held held stem = loaded held most_file_bytes (net_file stem) >>= λ bytes. wiring_of (net_file stem) bytes

-- the chip in a file
abbrev pub chip_held : Held → List ℕ → Kind → Result ChipCells Exit
chip_held held name kind = loaded held most_file_bytes name >>= λ bytes. chip_of name kind bytes

-- the cells of each chip, or the first refusal
abbrev pub chips_held : Held → List ℕ → List ChipLine → Result (List ChipCells) Exit
chips_held held stem [] = Ok []
chips_held held stem (line ∷ lines) =
    chip_held held (jed_file stem line.name) line.kind >>= λ cells. chips_held held stem lines >>= λ chips. Ok (cells ∷ chips)

-- wiring and chips
abbrev pub parts_held : Held → List ℕ → Result Joined Exit
parts_held held stem = wiring_held held stem >>= λ net. chips_held held stem net.chips >>= λ chips. Ok (record { net = net; chips = chips })

-- the files that are loaded for the chips: each one, where every rule before its load holds
abbrev pub LoadsChips : Held → List ℕ → List ChipLine → List ℕ → Type 0
LoadsChips held stem [] f = ⊥
LoadsChips held stem (line ∷ lines) f =
    (f ≡ jed_file stem line.name)
    ⊎ ((cells : ChipCells) × (chip_held held (jed_file stem line.name) line.kind ≡ Ok cells) × LoadsChips held stem lines f)

-- the files that are loaded for a board: each one, where every rule before its load holds
abbrev pub LoadsBoard : Held → List ℕ → List ℕ → Type 0
LoadsBoard held stem f = (f ≡ net_file stem) ⊎ ((net : Net) × (wiring_held held stem ≡ Ok net) × LoadsChips held stem net.chips f)

-- wiring and chips are a board, or why they are none; the refusal names this file
abbrev pub Joins : List ℕ → Joined → Result Joined Exit → Type 0
Joins name parts (Ok b) = (b ≡ parts) × IsAccepted (equations_of b)
Joins name parts (Err e) = (x : BoardError) × RefusesBoard parts.net parts.chips x × (x ≢ board_error.Memory) × (e ≡ Refused (refusal.Board name x))

-- the board under a stem, or the first refusal
abbrev pub JudgesBoard : List ℕ → Held → Result Joined Exit → Type 0
JudgesBoard stem held r = Then (λ q. parts_held held stem ≡ q) (Joins (net_file stem)) r
