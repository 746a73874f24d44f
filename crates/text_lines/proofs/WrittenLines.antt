-- The lines and words of a written text are those that were written.
use Rattle.std.proofs.Common.{ℕ, zero, suc, ◌≡◌, ◌+◌, ◌<◌, ◌≤◌, Bool, true, false, cond, ◌&&◌, ◌||◌, eqb, List, [], ◌∷◌, ◌++◌, map, refl, ap, ◌∙◌, arith, append_assoc}
use Rattle.std.specs.Prelude.{nat_le, not, filter, ◌==◌}
use Rattle.std.specs.List.{AllByRecursion, All, list_all, slice_split, join_with_byte, flat_map}
use Rattle.std.proofs.lemmas.Bool.{and_parts, leb-true, ne_eqb, not-true}
use Rattle.std.proofs.lemmas.List.Splits.{slice_split_at, slice_split_none}
use Rattle.mig_base.specs.Lines.{without_cr, is_empty, is_gap, words_of, is_comment, TextLine, lines_from, ended_lines, text_lines}
use Rattle.mig_base.specs.WrittenBoard.{written_line}

-- a word of a written line has bytes, and none of them is a blank, a CR or an LF
abbrev pub is_plain_word : List ℕ → Bool
is_plain_word w = not (is_empty w) && list_all (nat_le 33) w

-- a written line has words, and is no comment
abbrev pub is_plain_line : List (List ℕ) → Bool
is_plain_line ws = not (is_comment ws) && list_all is_plain_word ws

-- the lines of these words, numbered from n on
abbrev pub numbered : ℕ → List (List (List ℕ)) → List TextLine
numbered n [] = []
numbered n (ws ∷ wss) = record { n = n; words = ws } ∷ numbered (n + 1) wss

-- no byte of a list passes
abbrev pub None-pass : (ℕ → Bool) → List ℕ → Type 0
None-pass p bs = AllByRecursion (λ b. p b ≡ false) bs

all-of : (p : ℕ → Bool) (bs : List ℕ) → None-pass p bs → All (λ b. p b ≡ false) bs
all-of p [] h k d lt = absurd (omega arith)
all-of p (b ∷ bs) h zero d lt = h.0
all-of p (b ∷ bs) h (suc k) d lt = all-of p bs h.1 k d (omega arith)

none-append : (p : ℕ → Bool) (xs ys : List ℕ) → None-pass p xs → None-pass p ys → None-pass p (xs ++ ys)
none-append p [] ys hx hy = hy
none-append p (x ∷ xs) ys hx hy = (hx.0, none-append p xs ys hx.1 hy)

gap-none : (w : List ℕ) → list_all (nat_le 33) w ≡ true → None-pass is_gap w
gap-none [] h = tt
gap-none (b ∷ w) h =
    let parts : (nat_le 33 b ≡ true) × (list_all (nat_le 33) w ≡ true) = and_parts _ _ h in
    let big : 33 ≤ b = leb-true 33 b parts.0 in
    (ap (λ (t : Bool). t || eqb b 9) (ne_eqb b 32 (λ e. absurd (omega arith))) ∙ ne_eqb b 9 (λ e. absurd (omega arith)), gap-none w parts.1)

byte-none : (c : ℕ) (w : List ℕ) → c < 33 → list_all (nat_le 33) w ≡ true → None-pass (λ b. b == c) w
byte-none c [] lt h = tt
byte-none c (b ∷ w) lt h =
    let parts : (nat_le 33 b ≡ true) × (list_all (nat_le 33) w ≡ true) = and_parts _ _ h in
    let big : 33 ≤ b = leb-true 33 b parts.0 in
    (ne_eqb b c (λ e. absurd (omega arith)), byte-none c w lt parts.1)

word-parts : (w : List ℕ) → is_plain_word w ≡ true → (is_empty w ≡ false) × (list_all (nat_le 33) w ≡ true)
word-parts w h = let parts : (not (is_empty w) ≡ true) × (list_all (nat_le 33) w ≡ true) = and_parts _ _ h in (not-true _ parts.0, parts.1)

join-none : (c : ℕ) (ws : List (List ℕ)) → c < 32 → list_all is_plain_word ws ≡ true → None-pass (λ b. b == c) (join_with_byte 32 ws)
join-none c [] lt h = tt
join-none c (w ∷ []) lt h = byte-none c w (omega arith) (word-parts w (and_parts (is_plain_word w) true h).0).1
join-none c (w ∷ v ∷ ws) lt h =
    let parts : (is_plain_word w ≡ true) × (list_all is_plain_word (v ∷ ws) ≡ true) = and_parts _ _ h in
    none-append (λ b. b == c) w (32 ∷ join_with_byte 32 (v ∷ ws)) (byte-none c w (omega arith) (word-parts w parts.0).1)
    (ne_eqb 32 c (λ e. absurd (omega arith)), join-none c (v ∷ ws) lt parts.1)

split-words : (w : List ℕ) (ws : List (List ℕ)) → list_all is_plain_word (w ∷ ws) ≡ true → slice_split is_gap (join_with_byte 32 (w ∷ ws)) ≡ w ∷ ws
split-words w [] h = slice_split_none is_gap w (all-of is_gap w (gap-none w (word-parts w (and_parts (is_plain_word w) true h).0).1))
split-words w (v ∷ ws) h =
    let parts : (is_plain_word w ≡ true) × (list_all is_plain_word (v ∷ ws) ≡ true) = and_parts _ _ h in
    slice_split_at is_gap w 32 (join_with_byte 32 (v ∷ ws)) (all-of is_gap w (gap-none w (word-parts w parts.0).1)) refl
    ∙ ap (λ (vs : List (List ℕ)). w ∷ vs) (split-words v ws parts.1)

filter-words : (ws : List (List ℕ)) → list_all is_plain_word ws ≡ true → filter (λ w. not (is_empty w)) ws ≡ ws
filter-words [] h = refl
filter-words (w ∷ ws) h =
    let parts : (is_plain_word w ≡ true) × (list_all is_plain_word ws ≡ true) = and_parts _ _ h in
    ap (λ (t : Bool). cond (not t) (w ∷ filter (λ v. not (is_empty v)) ws) (filter (λ v. not (is_empty v)) ws)) (word-parts w parts.0).0
    ∙ ap (λ (vs : List (List ℕ)). w ∷ vs) (filter-words ws parts.1)

pub words-written : (ws : List (List ℕ)) → is_plain_line ws ≡ true → words_of (join_with_byte 32 ws) ≡ ws
words-written [] h = cc
words-written (w ∷ ws) h =
    let parts : (not (is_comment (w ∷ ws)) ≡ true) × (list_all is_plain_word (w ∷ ws) ≡ true) = and_parts _ _ h in
    ap (λ (vs : List (List ℕ)). filter (λ v. not (is_empty v)) vs) (split-words w ws parts.1) ∙ filter-words (w ∷ ws) parts.1

keeps-end : (bs : List ℕ) → None-pass (λ b. b == 13) bs → without_cr bs ≡ bs
keeps-end [] h = refl
keeps-end (b ∷ []) h = ap (λ (t : Bool). cond t [] (b ∷ [])) h.0
keeps-end (b ∷ c ∷ bs) h = ap (λ (xs : List ℕ). b ∷ xs) (keeps-end (c ∷ bs) h.1)

abbrev joined : List (List (List ℕ)) → List (List ℕ)
joined wss = map (join_with_byte 32) wss ++ [] ∷ []

split-lines : (wss : List (List (List ℕ))) → list_all is_plain_line wss ≡ true → slice_split (λ b. b == 10) (flat_map written_line wss) ≡ joined wss
split-lines [] h = refl
split-lines (ws ∷ wss) h =
    let parts : (is_plain_line ws ≡ true) × (list_all is_plain_line wss ≡ true) = and_parts _ _ h in
    let words : list_all is_plain_word ws ≡ true = (and_parts (not (is_comment ws)) _ parts.0).1 in
    ap (slice_split (λ b. b == 10)) (append_assoc (join_with_byte 32 ws) (10 ∷ []) (flat_map written_line wss))
    ∙ slice_split_at (λ b. b == 10) (join_with_byte 32 ws) 10 (flat_map written_line wss) (all-of (λ b. b == 10) _ (join-none 10 ws (omega arith) words)) refl
    ∙ ap (λ (ls : List (List ℕ)). join_with_byte 32 ws ∷ ls) (split-lines wss parts.1)

ended-lines : (wss : List (List (List ℕ))) → list_all is_plain_line wss ≡ true → ended_lines (joined wss) ≡ joined wss
ended-lines [] h = refl
ended-lines (ws ∷ wss) h =
    let parts : (is_plain_line ws ≡ true) × (list_all is_plain_line wss ≡ true) = and_parts _ _ h in
    let words : list_all is_plain_word ws ≡ true = (and_parts (not (is_comment ws)) _ parts.0).1 in
    more (join_with_byte 32 ws) wss ∙ ap (λ (l : List ℕ). l ∷ ended_lines (joined wss)) (keeps-end _ (join-none 13 ws (omega arith) words))
    ∙ ap (λ (ls : List (List ℕ)). join_with_byte 32 ws ∷ ls) (ended-lines wss parts.1)
  where
    more : (l : List ℕ) (vss : List (List (List ℕ))) → ended_lines (l ∷ joined vss) ≡ without_cr l ∷ ended_lines (joined vss)
    more l [] = refl
    more l (vs ∷ vss) = refl

count-lines : (n : ℕ) (wss : List (List (List ℕ))) → list_all is_plain_line wss ≡ true → lines_from n (joined wss) ≡ numbered n wss
count-lines n [] h = refl
count-lines n (ws ∷ wss) h =
    let parts : (is_plain_line ws ≡ true) × (list_all is_plain_line wss ≡ true) = and_parts _ _ h in
    let some : is_comment ws ≡ false = not-true _ (and_parts (not (is_comment ws)) _ parts.0).0 in
    ap (λ (vs : List (List ℕ)). cond (is_comment vs) [] (record { n = n; words = vs } ∷ []) ++ lines_from (n + 1) (joined wss)) (words-written ws parts.0)
    ∙ ap (λ (t : Bool). cond t [] (record { n = n; words = ws } ∷ []) ++ lines_from (n + 1) (joined wss)) some
    ∙ ap (λ (ls : List TextLine). record { n = n; words = ws } ∷ ls) (count-lines (n + 1) wss parts.1)

-- the lines of a written text
pub lines-written : (wss : List (List (List ℕ))) → list_all is_plain_line wss ≡ true → text_lines (flat_map written_line wss) ≡ numbered 1 wss
lines-written wss h = ap (λ (ls : List (List ℕ)). lines_from 1 (ended_lines ls)) (split-lines wss h) ∙ ap (lines_from 1) (ended-lines wss h) ∙ count-lines 1 wss h
