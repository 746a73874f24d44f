-- One more word of a line that is written.
use Rattle.std.proofs.Common.{ℕ, zero, suc, ◌≡◌, ◌+◌, ◌<◌, ◌≤◌, List, [], ◌∷◌, ◌++◌, map, length, take, get_or, refl, sym, ap, ◌∙◌, arith, append_assoc, Bor}
use Rattle.std.specs.List.{join_with_byte}
use Rattle.std.proofs.lemmas.List.{length-map, length-take-le, append-nil, map_more}

pub join-push : (ws : List (List ℕ)) (w : List ℕ) → 0 < length ws → join_with_byte 32 (ws ++ w ∷ []) ≡ join_with_byte 32 ws ++ 32 ∷ w
join-push [] w h = absurd (omega arith)
join-push (v ∷ []) w h = refl
join-push (v ∷ u ∷ ws) w h = ap (λ (bs : List ℕ). v ++ 32 ∷ bs) (join-push (u ∷ ws) w (omega arith)) ∙ sym (append_assoc v (32 ∷ join_with_byte 32 (u ∷ ws)) (32 ∷ w))

-- one more word of a line: the first, or one behind a space
pub first-word : (ws : List (Bor (List ℕ))) (i : ℕ) (d : Bor (List ℕ)) (start before between after : List ℕ) → i < length ws → i ≤ 0 →
    before ≡ start ++ join_with_byte 32 (map (λ w. w.now) (take i ws)) → between ≡ before → after ≡ between ++ (get_or ws i d).now →
    after ≡ start ++ join_with_byte 32 (map (λ w. w.now) (take (i + 1) ws))
first-word [] i d start before between after lt low h m k = absurd (omega arith)
first-word (w ∷ ws) zero d start before between after lt low h m k = k ∙ ap (λ (bs : List ℕ). bs ++ w.now) m ∙ ap (λ (bs : List ℕ). bs ++ w.now) (h ∙ append-nil start)
first-word (w ∷ ws) (suc i) d start before between after lt low h m k = absurd (omega arith)

pub next-word : (ws : List (Bor (List ℕ))) (i : ℕ) (d : Bor (List ℕ)) (start before between after : List ℕ) → i < length ws → 0 < i →
    before ≡ start ++ join_with_byte 32 (map (λ w. w.now) (take i ws)) → between ≡ before ++ 32 ∷ [] → after ≡ between ++ (get_or ws i d).now →
    after ≡ start ++ join_with_byte 32 (map (λ w. w.now) (take (i + 1) ws))
next-word ws i d start before between after lt some h m k =
    let done = map (λ w. w.now) (take i ws) in
    let word = (get_or ws i d).now in
    let long : length done ≡ i = length-map (take i ws) (λ w. w.now) ∙ length-take-le i ws (omega arith) in
    k ∙ ap (λ (bs : List ℕ). bs ++ word) m ∙ ap (λ (bs : List ℕ). (bs ++ 32 ∷ []) ++ word) h ∙ append_assoc (start ++ join_with_byte 32 done) (32 ∷ []) word ∙ append_assoc start (join_with_byte 32 done) (32 ∷ word)
    ∙ ap (λ (bs : List ℕ). start ++ bs) (sym (join-push done word (omega arith)) ∙ ap (join_with_byte 32) (sym (map_more (λ w. w.now) ws i d lt)))
