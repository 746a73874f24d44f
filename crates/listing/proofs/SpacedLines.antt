-- A line is its first word, the others with a space before each, and LF.
use Rattle.std.proofs.Common.{ℕ, ◌≡◌, List, [], ◌∷◌, ◌++◌, refl, sym, ap, ◌∙◌}
use Rattle.std.specs.List.{join_with_byte}
use Rattle.std.proofs.lemmas.List.{append-nil, append_assoc}
use Rattle.std.proofs.lemmas.Grind.{flat_map-append}
use Rattle.mig_base.specs.WrittenBoard.{written_line}
use Rattle.listing.specs.SpacedWords.{spaced}

joined : (w : List ℕ) (ws : List (List ℕ)) → join_with_byte 32 (w ∷ ws) ≡ w ++ spaced ws
joined w [] = sym (append-nil w)
joined w (v ∷ ws) = ap (λ (rest : List ℕ). w ++ 32 ∷ rest) (joined v ws)

line-spaced : (w : List ℕ) (ws : List (List ℕ)) → written_line (w ∷ ws) ≡ w ++ (spaced ws ++ 10 ∷ [])
line-spaced w ws = ap (λ (line : List ℕ). line ++ 10 ∷ []) (joined w ws) ∙ append_assoc w (spaced ws) (10 ∷ [])

-- a word, the words behind it and LF, written one behind the other
pub line-written : (old a b d word : List ℕ) (ws : List (List ℕ)) → a ≡ old ++ word → b ≡ a ++ spaced ws → d ≡ b ++ 10 ∷ [] → d ≡ old ++ written_line (word ∷ ws)
line-written old a b d word ws first second third =
    third ∙ ap (λ (l : List ℕ). l ++ 10 ∷ []) (second ∙ ap (λ (l : List ℕ). l ++ spaced ws) first)
    ∙ append_assoc (old ++ word) (spaced ws) (10 ∷ []) ∙ append_assoc old word (spaced ws ++ 10 ∷ [])
    ∙ ap (λ (l : List ℕ). old ++ l) (sym (line-spaced word ws))

-- a word and those behind it, further words, and LF
pub line-of-parts : (old a d w : List ℕ) (us ws : List (List ℕ)) → a ≡ old ++ (w ++ spaced us) → d ≡ (a ++ spaced ws) ++ 10 ∷ [] → d ≡ old ++ written_line (w ∷ (us ++ ws))
line-of-parts old a d w us ws first second =
    let front : a ++ spaced ws ≡ (old ++ w) ++ spaced (us ++ ws) =
    ap (λ (l : List ℕ). l ++ spaced ws) first ∙ append_assoc old (w ++ spaced us) (spaced ws) ∙ ap (λ (l : List ℕ). old ++ l) (append_assoc w (spaced us) (spaced ws))
    ∙ sym (append_assoc old w (spaced us ++ spaced ws)) ∙ ap (λ (l : List ℕ). (old ++ w) ++ l) (sym (flat_map-append (λ (word : List ℕ). 32 ∷ word) us ws)) in
    line-written old (old ++ w) (a ++ spaced ws) d w (us ++ ws) refl front second
