-- The fuses that a fuse text says (JESD3-C, in the profile of docs/fuse_text.md).
use Rattle.std.specs.Prelude.{ℕ, ◌≡◌, ◌+◌, ◌-◌, ◌^◌, ◌%◌, Bool, true, false, not, ◌&&◌, ◌||◌, List, [], ◌∷◌, length, take, map, sum, filter, if◌then◌else◌, ◌==◌, nat_le, Option, Some, None, unwrap_or, Result, Ok, slice_get}
use Rattle.std.specs.List.{list_all, list_any, AllByRecursion}
use Rattle.std.specs.Option.{option_map}
use Rattle.mig_base.specs.declared.jedec.Field.{Field}
use Rattle.mig_base.specs.declared.jedec.JedError.{JedError}
use Rattle.mig_base.specs.declared.jedec.JedError.TheVariants.{NoStx, NoEtx, BadTail, BadSum, BadField, FieldK, CountTwice, CountOver, DefaultTwice, NoCount, Address, FuseTwice, FuseUnset, BadFuseSum}
use Rattle.mig_base.specs.Bools.{same_bool}
use Rattle.mig_base.specs.Numbers.{digit_value, hex_value, number_at}
use Rattle.mig_base.specs.First.{first_refusal, unless, needed, least_from, made_from}

-- a byte from 0x00 to 0x20 other than STX and ETX
abbrev pub is_blank : ℕ → Bool
is_blank b = nat_le b 32 && not (b == 2) && not (b == 3)

-- the text behind the blanks at its front
abbrev pub skip_blanks : List ℕ → List ℕ
skip_blanks [] = []
skip_blanks (b ∷ bs) = if is_blank b then skip_blanks bs else b ∷ bs

-- what stands before the first such byte, and behind it
abbrev pub cut_at : ℕ → List ℕ → Option (List ℕ × List ℕ)
cut_at byte [] = None
cut_at byte (b ∷ bs) = if b == byte then Some ([], bs) else option_map (λ p. (b ∷ p.0, p.1)) (cut_at byte bs)

-- the byte does not stand in the text
abbrev pub Lacks : ℕ → List ℕ → Type 0
Lacks byte text = AllByRecursion (λ b. (b == byte) ≡ false) text

-- the same pieces with this byte before the first
abbrev pub with_front : ℕ → List (List ℕ) → List (List ℕ)
with_front b [] = (b ∷ []) ∷ []
with_front b (p ∷ ps) = (b ∷ p) ∷ ps

-- the pieces between asterisks; the last one is what follows the last asterisk
abbrev pub pieces : List ℕ → List (List ℕ)
pieces [] = [] ∷ []
pieces (b ∷ bs) = if b == 42 then [] ∷ pieces bs else with_front b (pieces bs)

-- a number behind which there are blanks alone
abbrev pub if_blank : Option (ℕ × List ℕ) → Option ℕ
if_blank None = None
if_blank (Some n) = if list_all is_blank n.1 then Some n.0 else None

-- blanks, a number of at most so many digits, and blanks
abbrev pub number_alone : (ℕ → Option ℕ) → ℕ → ℕ → List ℕ → Option ℕ
number_alone value base most text = if_blank (number_at value base most (skip_blanks text))

-- what a field says: the number of fuses, the state of every unlisted fuse, the states of fuses from one on, a fuse sum;
-- or it is a K, a field that is read over, or has not its form
pub data Said : Type 0 where
  Count : (n : ℕ) → Said
  Default : (state : Bool) → Said
  Listing : (first : ℕ) (states : List Bool) → Said
  FuseSum : (said : ℕ) → Said
  Kept : Said
  Other : Said
  Formless : Said

-- what this gives of the value, where there is one
abbrev pub or_formless : {T : Type 0} → (T → Said) → Option T → Said
or_formless f None = Formless
or_formless f (Some t) = f t

-- a digit 0 or 1
abbrev pub is_state : ℕ → Bool
is_state b = (b == 48) || (b == 49)

-- the states that the digits of a text give: 0 intact, 1 blown
abbrev pub states_of : List ℕ → List Bool
states_of text = map (λ b. b == 49) (filter is_state text)

-- behind the number of an L field: nothing, or a blank and then digits 0 and 1 and blanks in any mixture
abbrev pub listing_after : ℕ → List ℕ → Said
listing_after first [] = Listing first []
listing_after first (b ∷ bs) = if is_blank b && list_all (λ c. is_blank c || is_state c) bs then Listing first (states_of bs) else Formless

-- behind L: blanks, the number of the first fuse, and the states
abbrev pub listing_of : List ℕ → Said
listing_of text = or_formless (λ n. listing_after n.0 n.1) (number_at digit_value 10 9 (skip_blanks text))

-- behind F: blanks, 0 or 1, blanks
abbrev pub default_of : List ℕ → Said
default_of text = or_formless (λ n. if nat_le n 1 then Default (n == 1) else Formless) (number_alone digit_value 10 1 text)

-- behind Q: the number of fuses behind an F, else another field
abbrev pub count_of : List ℕ → Said
count_of [] = Other
count_of (b ∷ text) = if b == 70 then or_formless Count (number_alone digit_value 10 9 text) else Other

-- behind C: blanks, one to four hexadecimal digits, blanks
abbrev pub sum_of : List ℕ → Said
sum_of text = or_formless FuseSum (number_alone hex_value 16 4 text)

-- what a field says, by its text from the identifier on: QF, F, L, C, K or another; one of blanks alone is read over
abbrev pub said_by : List ℕ → Said
said_by [] = Other
said_by (b ∷ text) =
    if b == 81 then count_of text
    else (if b == 70 then default_of text
    else (if b == 76 then listing_of text
    else (if b == 67 then sum_of text
    else (if b == 75 then Kept else Other))))

-- what a field says, and the place of its identifier
pub record Statement : Type 0 where
  pub at : ℕ
  pub says : Said

abbrev pub statement_of : Field → Statement
statement_of f = record { at = f.at; says = said_by f.text }

-- the place of the first byte that is no blank, in a text that begins at this place
abbrev pub place_of_text : ℕ → List ℕ → ℕ
place_of_text at text = at + (length text - length (skip_blanks text))

-- the field of a piece that begins at this place
abbrev pub field_of : ℕ → List ℕ → Field
field_of at piece = record { at = place_of_text at piece; text = skip_blanks piece }

-- the fields of these pieces, of which the first begins at this place; the last piece is none
abbrev pub fields_from : ℕ → List (List ℕ) → List Field
fields_from at [] = []
fields_from at (last ∷ []) = []
fields_from at (piece ∷ next ∷ rest) = field_of at piece ∷ fields_from (at + length piece + 1) (next ∷ rest)

-- the fields of a body's pieces: the first piece is the design specification
abbrev pub fields_of : ℕ → List (List ℕ) → List Field
fields_of at [] = []
fields_of at (design ∷ rest) = fields_from (at + length design + 1) rest

-- where something other than blanks stands behind the last asterisk
abbrev pub loose_from : ℕ → List (List ℕ) → Option ℕ
loose_from at [] = None
loose_from at (last ∷ []) = if list_all is_blank last then None else Some (place_of_text at last)
loose_from at (piece ∷ next ∷ rest) = loose_from (at + length piece + 1) (next ∷ rest)

-- the same of a body's pieces: a body without an asterisk is loose from its first byte on
abbrev pub loose_of : ℕ → List (List ℕ) → Option ℕ
loose_of at [] = None
loose_of at (only ∷ []) = Some at
loose_of at (design ∷ next ∷ rest) = loose_from (at + length design + 1) (next ∷ rest)

-- whether this says the number of fuses
abbrev pub counts : Said → Bool
counts (Count n) = true
counts _ = false

-- whether this says the state of unlisted fuses
abbrev pub defaults : Said → Bool
defaults (Default s) = true
defaults _ = false

-- whether one of these fields says so
abbrev pub any_before : (Said → Bool) → List Statement → Bool
any_before test before = list_any (λ f. test f.says) before

-- why a field can't stand here, by whether the number of fuses and the unlisted fuses' state were said before: its form is
-- tested first; there are at most 8,192 fuses
abbrev pub field_refusal_by : Bool → Bool → ℕ → Said → Option JedError
field_refusal_by counted defaulted at Formless = Some (BadField at)
field_refusal_by counted defaulted at Kept = Some (FieldK at)
field_refusal_by counted defaulted at (Count n) = if counted then Some (CountTwice at) else (if nat_le n 8192 then None else Some (CountOver n))
field_refusal_by counted defaulted at (Default s) = if defaulted then Some (DefaultTwice at) else None
field_refusal_by counted defaulted at _ = None

-- the same behind these fields
abbrev pub field_refusal : List Statement → Statement → Option JedError
field_refusal before f = field_refusal_by (any_before counts before) (any_before defaults before) f.at f.says

-- the number of fuses that this says, or else that one
abbrev pub count_or : Said → Option ℕ → Option ℕ
count_or (Count n) later = Some n
count_or _ later = later

-- the number of fuses that the fields say
abbrev pub count_in : List Statement → Option ℕ
count_in [] = None
count_in (f ∷ fs) = count_or f.says (count_in fs)

-- the state that this says of unlisted fuses, or else that one
abbrev pub default_or : Said → Option Bool → Option Bool
default_or (Default s) later = Some s
default_or _ later = later

-- the state of every unlisted fuse
abbrev pub default_in : List Statement → Option Bool
default_in [] = None
default_in (f ∷ fs) = default_or f.says (default_in fs)

-- whether there is a state and it is this one
abbrev pub is_state_at : Bool → Option Bool → Bool
is_state_at state None = false
is_state_at state (Some s) = same_bool state s

-- whether this lists the fuse with this state: the digits give the fuses from the first on
abbrev pub says_state : ℕ → Bool → Said → Bool
says_state n state (Listing first states) = nat_le first n && is_state_at state (slice_get states (n - first))
says_state n state _ = false

-- whether a field lists the fuse with this state
abbrev pub lists : ℕ → Bool → Statement → Bool
lists n state f = says_state n state f.says

-- whether some field lists the fuse with this state
abbrev pub listed : List Statement → ℕ → Bool → Bool
listed fields n state = list_any (lists n state) fields

-- a listing that goes past the fuses
abbrev pub address_refusal_by : ℕ → ℕ → Said → Option JedError
address_refusal_by count at (Listing first states) = if nat_le (first + length states) count then None else Some (Address at)
address_refusal_by count at _ = None

-- the same of a field
abbrev pub address_refusal : ℕ → Statement → Option JedError
address_refusal count f = address_refusal_by count f.at f.says

-- the sum of the fuses from this one on as words of eight bits: fuse n is bit n mod 8 of its word
abbrev pub fuse_sum_from : ℕ → List Bool → ℕ
fuse_sum_from n [] = 0
fuse_sum_from n (s ∷ ss) = (if s then 2 ^ (n % 8) else 0) + fuse_sum_from (n + 1) ss

-- the sum of all fuses modulo 65536
abbrev pub fuse_sum : List Bool → ℕ
fuse_sum states = fuse_sum_from 0 states % 65536

-- a said fuse sum other than the found one
abbrev pub sum_refusal_by : ℕ → Said → Option JedError
sum_refusal_by found (FuseSum said) = if said == found then None else Some (BadFuseSum said found)
sum_refusal_by found _ = None

-- the same of a field
abbrev pub sum_refusal : ℕ → Statement → Option JedError
sum_refusal found f = sum_refusal_by found f.says

-- the state of a fuse: as it is listed, or else this one
abbrev pub state_of : List Statement → Bool → ℕ → Bool
state_of fields other n = if listed fields n true then true else (if listed fields n false then false else other)

-- the states of so many fuses
abbrev pub states_in : List Statement → ℕ → List Bool
states_in fields count = made_from (state_of fields (unwrap_or (default_in fields) false)) 0 count

-- the least fuse that is listed with both states
abbrev pub twice_refusal : List Statement → ℕ → Option JedError
twice_refusal fields count = option_map FuseTwice (least_from (λ n. listed fields n true && listed fields n false) 0 count)

-- the least fuse that is not listed, where no field gives the others' state
abbrev pub unset_refusal : List Statement → Option Bool → ℕ → Option JedError
unset_refusal fields (Some state) count = None
unset_refusal fields None count = option_map FuseUnset (least_from (λ n. not (listed fields n true || listed fields n false)) 0 count)

-- these states, unless a fuse sum differs
abbrev pub checked_sum : List Statement → List Bool → Result (List Bool) JedError
checked_sum fields states = unless (first_refusal (λ before f. sum_refusal (fuse_sum states) f) [] fields) (Ok states)

-- the states of so many fuses, or the first refusal from the addresses on
abbrev pub fuses_of_count : List Statement → ℕ → Result (List Bool) JedError
fuses_of_count fields count =
    unless (first_refusal (λ before f. address_refusal count f) [] fields)
    (unless (twice_refusal fields count)
    (unless (unset_refusal fields (default_in fields) count)
    (checked_sum fields (states_in fields count))))

-- the states of the fuses, or the first refusal of these fields and of what stands loose behind them
abbrev pub fuses_in : List Statement → Option ℕ → Result (List Bool) JedError
fuses_in fields loose =
    unless (first_refusal field_refusal [] fields)
    (unless (option_map BadField loose)
    (needed NoCount (count_in fields) (fuses_of_count fields)))

-- a number of four digits, if all four were digits
abbrev pub if_four : ℕ → Option (ℕ × List ℕ) → Option ℕ
if_four len None = None
if_four len (Some n) = if nat_le 4 len && nat_le (length n.1) 0 then Some n.0 else None

-- the number of the first four bytes of a text, which are digits
abbrev pub number_of_four : (ℕ → Option ℕ) → ℕ → List ℕ → Option ℕ
number_of_four value base text = if_four (length text) (number_at value base 4 (take 4 text))

-- a transmission sum that differs; 0000 stands for none
abbrev pub said_refusal : ℕ → Option ℕ → Option JedError
said_refusal found None = Some BadTail
said_refusal found (Some said) = if (said == 0) || (said == found) then None else Some (BadSum said found)

-- behind ETX and blanks: nothing, or a transmission sum and anything
abbrev pub tail_refusal : ℕ → List ℕ → Option JedError
tail_refusal found [] = None
tail_refusal found (b ∷ bs) = said_refusal found (number_of_four hex_value 16 (b ∷ bs))

-- the fuses of a body that begins at this place, and of what follows ETX; the found sum goes from STX to ETX, both included
abbrev pub fuses_between : ℕ → List ℕ → List ℕ → Result (List Bool) JedError
fuses_between at body tail =
    unless (tail_refusal ((5 + sum body) % 65536) (skip_blanks tail)) (fuses_in (map statement_of (fields_of at (pieces body))) (loose_of at (pieces body)))

-- the states of the fuses of a text, from fuse 0 on, or the first refusal: from the first STX to the first ETX behind it
abbrev pub fuses_of_text : List ℕ → Result (List Bool) JedError
fuses_of_text bytes =
    needed NoStx (cut_at 2 bytes) (λ begun.
    needed NoEtx (cut_at 3 begun.1) (λ ended.
    fuses_between (length begun.0 + 1) ended.0 ended.1))
