-- The fuse text that is written.
use Rattle.std.specs.Prelude.{ℕ, ◌+◌, ◌*◌, ◌/◌, ◌%◌, Bool, true, false, ◌||◌, List, [], ◌∷◌, ◌++◌, length, take, drop, map, sum, replicate, if◌then◌else◌, ◌==◌, nat_lt, codes}
use Rattle.std.specs.List.{list_any, flat_map}
use Rattle.mig_base.specs.declared.kinds.Kind.{Kind}
use Rattle.mig_base.specs.DeviceTables.{kind_name, pins_of, array_width, is_22, is_v8}
use Rattle.mig_base.specs.FuseText.{fuse_sum}

-- four decimal digits
abbrev pub four_digits : ℕ → List ℕ
four_digits n = (48 + n / 1000 % 10) ∷ (48 + n / 100 % 10) ∷ (48 + n / 10 % 10) ∷ (48 + n % 10) ∷ []

-- an upper-case hexadecimal digit
abbrev pub hex_digit : ℕ → ℕ
hex_digit d = if nat_lt d 10 then 48 + d else 55 + d

-- four upper-case hexadecimal digits
abbrev pub four_hex : ℕ → List ℕ
four_hex n = hex_digit (n / 4096 % 16) ∷ hex_digit (n / 256 % 16) ∷ hex_digit (n / 16 % 16) ∷ hex_digit (n % 16) ∷ []

-- the digit of a fuse: 0 intact, 1 blown
abbrev pub state_digit : Bool → ℕ
state_digit s = if s then 49 else 48

-- fuses that are written together, and whether they are also written where all are 0
pub record Group : Type 0 where
  pub always : Bool
  pub states : List Bool

-- the line of fuses from this one on
abbrev pub listing_line : ℕ → List Bool → List ℕ
listing_line first states = 76 ∷ four_digits first ++ 32 ∷ map state_digit states

-- whether a group is written
abbrev pub is_written : Group → Bool
is_written g = g.always || list_any (λ s. s) g.states

-- the line of a group that begins at this fuse, if it is written
abbrev pub lines_of_group : ℕ → Group → List (List ℕ)
lines_of_group first g = if is_written g then listing_line first g.states ∷ [] else []

-- the lines of these groups, of which the first begins at this fuse
abbrev pub group_lines : ℕ → List Group → List (List ℕ)
group_lines first [] = []
group_lines first (g ∷ gs) = lines_of_group first g ++ group_lines (first + length g.states) gs

-- the fuses of these groups
abbrev pub states_of_groups : List Group → List Bool
states_of_groups gs = flat_map (λ g. g.states) gs

-- a line ends with an asterisk and LF
abbrev pub written_line : List ℕ → List ℕ
written_line line = line ++ 42 ∷ 10 ∷ []

-- the lines before the fuses: design, pins, number of fuses, no security fuse, unlisted fuses 0
abbrev pub head_lines : List ℕ → List ℕ → ℕ → List (List ℕ)
head_lines design pins count = design ∷ (codes "QP" ++ pins) ∷ (codes "QF" ++ four_digits count) ∷ codes "G0" ∷ codes "F0" ∷ []

-- the lines of a fuse text: the head, the groups, the fuse sum
abbrev pub written_lines : List ℕ → List ℕ → List Group → List (List ℕ)
written_lines design pins gs =
    head_lines design pins (length (states_of_groups gs)) ++ group_lines 0 gs ++ (67 ∷ four_hex (fuse_sum (states_of_groups gs))) ∷ []

-- what stands between STX and ETX
abbrev pub written_body : List ℕ → List ℕ → List Group → List ℕ
written_body design pins gs = flat_map written_line (written_lines design pins gs)

-- STX, the lines, ETX, the sum of all these bytes, LF
abbrev pub written_text : List ℕ → List ℕ → List Group → List ℕ
written_text design pins gs = 2 ∷ written_body design pins gs ++ 3 ∷ four_hex ((5 + sum (written_body design pins gs)) % 65536) ++ 10 ∷ []

-- consecutive groups of these sizes
abbrev pub groups_by : Bool → List ℕ → List Bool → List Group
groups_by always [] bits = []
groups_by always (size ∷ sizes) bits = record { always = always; states = take size bits } ∷ groups_by always sizes (drop size bits)

-- the number of rows of the array
abbrev pub array_rows : Kind → ℕ
array_rows k = if is_22 k then 132 else 64

-- the sizes of the rows of the array
abbrev pub row_sizes : Kind → List ℕ
row_sizes k = replicate (array_rows k) (array_width k)

-- behind the array of a 22V10: S0 and S1 of each cell, and the signature, if there is one
abbrev pub tail_sizes_22 : ℕ → List ℕ
tail_sizes_22 count = if count == 5892 then 20 ∷ 64 ∷ [] else 20 ∷ []

-- behind the array of a V8: XOR, signature, AC1, term disable, SYN, AC0
abbrev pub tail_sizes_v8 : List ℕ
tail_sizes_v8 = 8 ∷ 64 ∷ 8 ∷ 64 ∷ 1 ∷ 1 ∷ []

-- the sizes of the groups behind the array; a PAL has none
abbrev pub tail_sizes : Kind → ℕ → List ℕ
tail_sizes k count = if is_v8 k then tail_sizes_v8 else (if is_22 k then tail_sizes_22 count else [])

-- the groups of a kind: its rows, written where they hold a 1, and the groups behind the array, always written
abbrev pub written_groups : Kind → List Bool → List Group
written_groups k bits =
    groups_by false (row_sizes k) (take (array_rows k * array_width k) bits)
    ++ groups_by true (tail_sizes k (length bits)) (drop (array_rows k * array_width k) bits)

-- the design specification
abbrev pub design_of : Kind → List ℕ
design_of k = codes "palmig " ++ kind_name k

-- the number of pins
abbrev pub pins_digits : Kind → List ℕ
pins_digits k = if pins_of k == 20 then codes "20" else codes "24"

-- the fuse text of a chip of this kind with these fuses
abbrev pub written_fuses : Kind → List Bool → List ℕ
written_fuses k bits = written_text (design_of k) (pins_digits k) (written_groups k bits)
