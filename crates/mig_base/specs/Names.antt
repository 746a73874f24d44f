-- The spelling of names, stems and file names.
use Rattle.std.specs.Prelude.{ℕ, ◌≡◌, ◌-◌, ◌≤◌, Bool, false, ◌||◌, ◌&&◌, List, [], ◌∷◌, ◌++◌, length, take, drop, replicate, ◌==◌, nat_le, IsTrue, Option, Some, None, if◌then◌else◌, Result, Ok, Err}
use Rattle.mig_base.specs.declared.files.NameError.{NameError}
use Rattle.mig_base.specs.declared.files.NameError.TheVariants.{Bad, Memory}
use Rattle.mig_base.specs.Lines.{parts}
use Rattle.std.specs.List.{list_all}
use Rattle.std.proofs.Common.{arith, take-append-drop, length-take-le}

-- a letter, a digit, an underscore or a dash
abbrev pub is_name_byte : ℕ → Bool
is_name_byte b =
    (nat_le 97 b && nat_le b 122) || (nat_le 65 b && nat_le b 90) || (nat_le 48 b && nat_le b 57) || (b == 95) || (b == 45)

-- 1 to 24 letters, digits, underscores and dashes
abbrev pub is_name : List ℕ → Bool
is_name text = nat_le 1 (length text) && nat_le (length text) 24 && list_all is_name_byte text

-- the name of this spelling
abbrev pub name_of : List ℕ → Option (List ℕ)
name_of text = if is_name text then Some text else None

-- a name in 24 bytes, and zeros behind it
pub record IsPadded (bytes : List ℕ) (len : ℕ) : Type 0 where
  pub room : length bytes ≡ 24
  pub short : len ≤ 24
  pub zeros : drop len bytes ≡ replicate (24 - len) 0
  pub name : IsTrue (is_name (take len bytes))

pub IsPadded-inverse : (bytes : List ℕ) (len : ℕ) → IsPadded bytes len →
    (take len bytes ++ replicate (24 - length (take len bytes)) 0 ≡ bytes) × (length (take len bytes) ≡ len)
IsPadded-inverse bytes len h =
    let e : length (take len bytes) ≡ len = length-take-le len bytes (omega (arith, h.room, h.short)) in
    (rw (e, ← h.zeros) (take-append-drop len bytes), e)

-- what may stand between slashes
abbrev pub is_stem_part : List ℕ → Bool
is_stem_part part = nat_le 1 (length part) && list_all is_name_byte part

-- 1 to 120 bytes; each part between slashes has a byte, and all are bytes of names
abbrev pub is_stem : List ℕ → Bool
is_stem text = nat_le (length text) 120 && list_all is_stem_part (parts (λ b. b == 47) text)

-- the stem of this spelling, refused exactly where it is none
abbrev pub IsStemOf : List ℕ → Result (List ℕ) NameError → Type 0
IsStemOf text (Ok stem) = IsTrue (is_stem text) × (stem ≡ text)
IsStemOf text (Err Bad) = is_stem text ≡ false
IsStemOf text (Err Memory) = Unit {0}

abbrev pub dot_name : Option (List ℕ) → List ℕ
dot_name None = []
dot_name (Some name) = 46 ∷ name

-- a stem, where there is a chip a dot and its name, a dot and an ending
abbrev pub file_name_of : List ℕ → Option (List ℕ) → List ℕ → List ℕ
file_name_of stem chip ending = stem ++ dot_name chip ++ 46 ∷ ending
