-- The lines of a text, and the words of a line.
use Rattle.std.specs.Prelude.{ℕ, ◌+◌, Bool, true, false, not, ◌||◌, List, [], ◌∷◌, ◌++◌, filter, if◌then◌else◌, ◌==◌, Option, Some, None}
use Rattle.std.specs.List.{slice_split}
use Rattle.mig_base.specs.Numbers.{digit_value, number_at}

-- the parts between the bytes that pass
abbrev pub parts : (ℕ → Bool) → List ℕ → List (List ℕ)
parts cuts bytes = slice_split cuts bytes

-- one CR at the end is dropped
abbrev pub without_cr : List ℕ → List ℕ
without_cr [] = []
without_cr (b ∷ []) = if b == 13 then [] else b ∷ []
without_cr (b ∷ c ∷ bs) = b ∷ without_cr (c ∷ bs)

abbrev pub is_empty : List ℕ → Bool
is_empty [] = true
is_empty (b ∷ bs) = false

-- a space or a tab
abbrev pub is_gap : ℕ → Bool
is_gap b = (b == 32) || (b == 9)

-- the words of a line, between spaces and tabs
abbrev pub words_of : List ℕ → List (List ℕ)
words_of line = filter (λ w. not (is_empty w)) (parts is_gap line)

-- no words, or a first one that begins with a hash sign
abbrev pub is_comment : List (List ℕ) → Bool
is_comment [] = true
is_comment ([] ∷ ws) = false
is_comment ((b ∷ w) ∷ ws) = b == 35

-- a line with words that count, and its number
pub record TextLine : Type 0 where
  pub n : ℕ
  pub words : List (List ℕ)

-- the lines that count, numbered from n
abbrev pub lines_from : ℕ → List (List ℕ) → List TextLine
lines_from n [] = []
lines_from n (l ∷ ls) = (if is_comment (words_of l) then [] else record { n = n; words = words_of l } ∷ []) ++ lines_from (n + 1) ls

-- a line that LF ends drops one CR before it
abbrev pub ended_lines : List (List ℕ) → List (List ℕ)
ended_lines [] = []
ended_lines (last ∷ []) = last ∷ []
ended_lines (l ∷ m ∷ ms) = without_cr l ∷ ended_lines (m ∷ ms)

-- the lines of a text that have words and are no comments
abbrev pub text_lines : List ℕ → List TextLine
text_lines bytes = lines_from 1 (ended_lines (parts (λ b. b == 10) bytes))

-- a number and nothing else
abbrev pub whole : Option (ℕ × List ℕ) → Option ℕ
whole None = None
whole (Some (n, [])) = Some n
whole (Some (n, b ∷ bs)) = None

-- one to nine decimal digits
abbrev pub number_of : List ℕ → Option ℕ
number_of word = whole (number_at digit_value 10 9 word)
