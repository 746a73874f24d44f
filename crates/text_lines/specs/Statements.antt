-- The lines of a text as a reader holds them.
use Rattle.std.specs.Prelude.{ℕ, ◌≡◌, ◌+◌, ◌==◌, List, [], ◌∷◌, if◌then◌else◌, Option, Some, None}
use Rattle.mig_base.specs.Lines.{TextLine, parts, ended_lines, lines_from, words_of, is_comment}
use Rattle.text_lines.specs.declared.lines.Line.{Line}

-- a line by its number and words
abbrev pub text_line : Line → TextLine
text_line l = record { n = l.n; words = words_of l.text.now }

-- the lines that count in a text that stands behind so many lines
abbrev pub lines_behind : ℕ → List ℕ → List TextLine
lines_behind read bytes = lines_from (read + 1) (ended_lines (parts (λ b. b == 10) bytes))

-- the line of this number and text, if it counts
abbrev pub line_here : ℕ → List ℕ → List TextLine
line_here n line = if is_comment (words_of line) then [] else record { n = n; words = words_of line } ∷ []

-- the first line and those behind it, or none where none is left
abbrev pub Takes : Option Line → List TextLine → List TextLine → Type 0
Takes None before after = (before ≡ []) × (after ≡ [])
Takes (Some l) before after = before ≡ text_line l ∷ after
