-- Lines and words, one by one.
use Rattle.std.proofs.Common.{ℕ, suc, ◌≡◌, ◌+◌, ◌-◌, ◌<◌, ◌≤◌, Bool, true, false, cond, not, ◌&&◌, eqb, ltb, List, [], ◌∷◌, ◌++◌, length, take, drop, get_or, Some, None, refl, sym, ap, ◌∙◌, arith}
use Rattle.std.specs.Prelude.{filter}
use Rattle.std.specs.List.{slice_split, onto_first, position, position_or_len}
use Rattle.std.proofs.lemmas.Bool.{ne_eqb, ltb-true, lt-ltb, eqb-true, and_parts, ltb-false}
use Rattle.std.proofs.lemmas.List.{drop_more, drop_all}
use Rattle.std.proofs.lemmas.List.Splits.{slice_split_first, length-slice_split}
use Rattle.mig_base.specs.Lines.{without_cr, is_empty, is_gap, words_of, is_comment, TextLine, lines_from, ended_lines}
use Rattle.text_lines.specs.Statements.{lines_behind, line_here}

pub empty-length : (w : List ℕ) → is_empty w ≡ eqb (length w) 0
empty-length [] = refl
empty-length (b ∷ w) = sym (ne_eqb (suc (length w)) 0 (λ e. absurd (omega arith)))

-- a CR at the end is dropped
pub cr-dropped : (bs : List ℕ) → 0 < length bs → get_or bs (length bs - 1) 0 ≡ 13 → without_cr bs ≡ take (length bs - 1) bs
cr-dropped [] h e = absurd (omega arith)
cr-dropped (b ∷ []) h e = ap (λ (x : ℕ). cond (eqb x 13) [] (x ∷ [])) e
cr-dropped (b ∷ c ∷ bs) h e =
    let k : suc (suc (length bs)) - 1 ≡ suc (suc (length bs) - 1) = omega arith in
    ap (λ (xs : List ℕ). b ∷ xs) (cr-dropped (c ∷ bs) (omega arith) (sym (ap (λ (i : ℕ). get_or (b ∷ c ∷ bs) i 0) k) ∙ e)) ∙ ap (λ (i : ℕ). take i (b ∷ c ∷ bs)) (sym k)

pub cr-kept : (bs : List ℕ) → (0 < length bs → eqb (get_or bs (length bs - 1) 0) 13 ≡ false) → without_cr bs ≡ bs
cr-kept [] h = refl
cr-kept (b ∷ []) h = ap (λ (t : Bool). cond t [] (b ∷ [])) (h (omega arith))
cr-kept (b ∷ c ∷ bs) h =
    let k : suc (suc (length bs)) - 1 ≡ suc (suc (length bs) - 1) = omega arith in
    ap (λ (xs : List ℕ). b ∷ xs) (cr-kept (c ∷ bs) (λ lt. ap (λ (i : ℕ). eqb (get_or (b ∷ c ∷ bs) i 0) 13) (sym k) ∙ h (omega arith)))

-- whether a CR is at the end
abbrev pub ends_in_cr : List ℕ → Bool
ends_in_cr bs = ltb 0 (length bs) && eqb (get_or bs (length bs - 1) 0) 13

pub cr-there : (bs : List ℕ) → ends_in_cr bs ≡ true → without_cr bs ≡ take (length bs - 1) bs
cr-there bs h = let parts : (ltb 0 (length bs) ≡ true) × (eqb (get_or bs (length bs - 1) 0) 13 ≡ true) = and_parts _ _ h in cr-dropped bs (ltb-true 0 (length bs) parts.0) (eqb-true _ 13 parts.1)

pub cr-not-there : (bs : List ℕ) → ends_in_cr bs ≡ false → without_cr bs ≡ bs
cr-not-there bs h = cr-kept bs (λ some. ap (λ (t : Bool). t && eqb (get_or bs (length bs - 1) 0) 13) (sym (lt-ltb 0 (length bs) some)) ∙ h)

abbrev is_lf : ℕ → Bool
is_lf b = eqb b 10

ended-more : (line : List ℕ) (parts : List (List ℕ)) → 0 < length parts → ended_lines (line ∷ parts) ≡ without_cr line ∷ ended_lines parts
ended-more line [] h = absurd (omega arith)
ended-more line (p ∷ ps) h = refl

-- where LF stands first, a line ends
pub line-cut : (bytes : List ℕ) (end : ℕ) → position (λ b. eqb b 10) bytes ≡ Some end → (read : ℕ) →
    lines_behind read bytes ≡ line_here (read + 1) (without_cr (take end bytes)) ++ lines_behind (read + 1) (drop (end + 1) bytes)
line-cut bytes end h read = at (ltb (position_or_len is_lf bytes) (length bytes)) refl h
  where
    at : (t : Bool) → ltb (position_or_len is_lf bytes) (length bytes) ≡ t → cond t (Some (position_or_len is_lf bytes)) None ≡ Some end →
        lines_behind read bytes ≡ line_here (read + 1) (without_cr (take end bytes)) ++ lines_behind (read + 1) (drop (end + 1) bytes)
    at false e k = absurd (let no : ⊥ = cc in no)
    at true e k =
        let place : position_or_len is_lf bytes ≡ end = cc in
        let rest = slice_split is_lf (drop (end + 1) bytes) in
        let some : length rest ≡ _ = length-slice_split is_lf (drop (end + 1) bytes) in
        ap (λ (ps : List (List ℕ)). lines_from (read + 1) (ended_lines ps)) (slice_split_first is_lf bytes 0 (ltb-true _ _ e) ∙ ap (λ (k : ℕ). take k bytes ∷ slice_split is_lf (drop (k + 1) bytes)) place)
        ∙ ap (lines_from (read + 1)) (ended-more (take end bytes) rest (omega arith))

whole-part : (p : ℕ → Bool) (bs : List ℕ) → length bs ≤ position_or_len p bs → slice_split p bs ≡ bs ∷ []
whole-part p [] h = refl
whole-part p (b ∷ bs) h = at (p b) h (whole-part p bs)
  where
    at : (t : Bool) → length (b ∷ bs) ≤ cond (not t) (1 + position_or_len p bs) 0 → (length bs ≤ position_or_len p bs → slice_split p bs ≡ bs ∷ []) →
        cond t ([] ∷ slice_split p bs) (onto_first b (slice_split p bs)) ≡ (b ∷ bs) ∷ []
    at true h rest = absurd (omega arith)
    at false h rest = ap (onto_first b) (rest (omega arith))

-- without an LF all is one line
pub line-whole : (bytes : List ℕ) → position (λ b. eqb b 10) bytes ≡ None → (read : ℕ) → lines_behind read bytes ≡ line_here (read + 1) bytes ++ lines_behind (read + 1) []
line-whole bytes h read = at (ltb (position_or_len is_lf bytes) (length bytes)) refl h
  where
    at : (t : Bool) → ltb (position_or_len is_lf bytes) (length bytes) ≡ t → cond t (Some (position_or_len is_lf bytes)) None ≡ None →
        lines_behind read bytes ≡ line_here (read + 1) bytes ++ lines_behind (read + 1) []
    at true e k = absurd (let no : ⊥ = cc in no)
    at false e k = ap (λ (ps : List (List ℕ)). lines_from (read + 1) (ended_lines ps)) (whole-part is_lf bytes (ltb-false _ _ e))

-- a line that doesn't count, and one that does
pub line-passed : (n : ℕ) (line : List ℕ) → is_comment (words_of line) ≡ true → (rest : List TextLine) → line_here n line ++ rest ≡ rest
line-passed n line h rest = ap (λ (t : Bool). cond t [] (record { n = n; words = words_of line } ∷ []) ++ rest) h

pub line-counted : (n : ℕ) (line : List ℕ) → is_comment (words_of line) ≡ false → (rest : List TextLine) → line_here n line ++ rest ≡ record { n = n; words = words_of line } ∷ rest
line-counted n line h rest = ap (λ (t : Bool). cond t [] (record { n = n; words = words_of line } ∷ []) ++ rest) h

-- words behind a gap, and a word that begins
pub gap-passed : (line : List ℕ) (i d : ℕ) → i < length line → is_gap (get_or line i d) ≡ true → words_of (drop i line) ≡ words_of (drop (i + 1) line)
gap-passed line i d lt gap =
    ap words_of (drop_more line i d lt)
    ∙ ap (λ (t : Bool). filter (λ w. not (is_empty w)) (cond t ([] ∷ slice_split is_gap (drop (i + 1) line)) (onto_first (get_or line i d) (slice_split is_gap (drop (i + 1) line))))) gap

pub word-begins : (line : List ℕ) (i d : ℕ) → i < length line → is_gap (get_or line i d) ≡ false → is_comment (words_of (drop i line)) ≡ eqb (get_or line i d) 35
word-begins line i d lt gap =
    ap (λ (bs : List ℕ). is_comment (words_of bs)) (drop_more line i d lt)
    ∙ ap (λ (t : Bool). is_comment (filter (λ w. not (is_empty w)) (cond t ([] ∷ slice_split is_gap rest) (onto_first byte (slice_split is_gap rest))))) gap
    ∙ at (slice_split is_gap rest)
  where
    rest : List ℕ
    rest = drop (i + 1) line

    byte : ℕ
    byte = get_or line i d

    at : (parts : List (List ℕ)) → is_comment (filter (λ w. not (is_empty w)) (onto_first byte parts)) ≡ eqb byte 35
    at [] = refl
    at (p ∷ ps) = refl

pub words-over : (line : List ℕ) (i : ℕ) → length line ≤ i → is_comment (words_of (drop i line)) ≡ true
words-over line i h = ap (λ (bs : List ℕ). is_comment (words_of bs)) (drop_all i line h)
