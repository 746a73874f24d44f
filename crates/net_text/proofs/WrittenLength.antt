-- The text of a board is within the bounds of a file.
use Rattle.std.proofs.Common.{ℕ, ◌≡◌, ◌+◌, ◌*◌, ◌≤◌, Bool, true, false, cond, List, [], ◌∷◌, ◌++◌, map, length, refl, arith, length-append}
use Rattle.std.specs.Prelude.{nat_le}
use Rattle.std.specs.List.{list_all, filter_map, flat_map, join_with_byte, cons_option}
use Rattle.std.proofs.lemmas.Bool.{and_parts, leb-true}
use Rattle.std.proofs.lemmas.List.{length-map}
use Rattle.mig_base.specs.declared.nets.Net.{Net}
use Rattle.mig_base.specs.declared.nets.NetLine.{NetLine}
use Rattle.mig_base.specs.declared.nets.ChipLine.{ChipLine}
use Rattle.mig_base.specs.declared.nets.Pull.{Pull}
use Rattle.mig_base.specs.declared.nets.Pull.TheVariants as pull
use Rattle.mig_base.specs.DeviceTables.{ordinary_pins}
use Rattle.mig_base.specs.WrittenBoard.{written_line, net_line, pull_line, pull_line_at, chip_line, pin_line, head_line, board_lines, written_net, is_part, same_place, place_of, board_places, IsWritable}
use Rattle.mig_base.proofs.KindFacts.{every-kind}
use Rattle.net_text.proofs.BoardSays.{is_short_word, is_short_line, board-text}

join-short : (ws : List (List ℕ)) → list_all is_short_word ws ≡ true → length (join_with_byte 32 ws) ≤ 25 * length ws
join-short [] h = omega arith
join-short (w ∷ []) h = let e : length w ≤ 24 = leb-true (length w) 24 (and_parts (is_short_word w) true h).0 in omega arith
join-short (w ∷ v ∷ ws) h =
    let parts : (is_short_word w ≡ true) × (list_all is_short_word (v ∷ ws) ≡ true) = and_parts _ _ h in
    let e : length w ≤ 24 = leb-true (length w) 24 parts.0 in
    let rest : length (join_with_byte 32 (v ∷ ws)) ≤ 25 * length (v ∷ ws) = join-short (v ∷ ws) parts.1 in
    let all : length (w ++ 32 ∷ join_with_byte 32 (v ∷ ws)) ≡ length w + length (32 ∷ join_with_byte 32 (v ∷ ws)) = length-append w _ in
    omega arith

line-short : (ws : List (List ℕ)) → is_short_line ws ≡ true → length (written_line ws) ≤ 101
line-short ws h =
    let parts : (nat_le (length ws) 4 ≡ true) × (list_all is_short_word ws ≡ true) = and_parts _ _ h in
    let few : length ws ≤ 4 = leb-true (length ws) 4 parts.0 in
    let words : length (join_with_byte 32 ws) ≤ 25 * length ws = join-short ws parts.1 in
    let all : length (written_line ws) ≡ length (join_with_byte 32 ws) + 1 = length-append (join_with_byte 32 ws) (10 ∷ []) in
    omega arith

text-short : (wss : List (List (List ℕ))) → list_all is_short_line wss ≡ true → length (flat_map written_line wss) ≤ 101 * length wss
text-short [] h = omega arith
text-short (ws ∷ wss) h =
    let parts : (is_short_line ws ≡ true) × (list_all is_short_line wss ≡ true) = and_parts _ _ h in
    let line : length (written_line ws) ≤ 101 = line-short ws parts.0 in
    let rest : length (flat_map written_line wss) ≤ 101 * length wss = text-short wss parts.1 in
    let all : length (written_line ws ++ flat_map written_line wss) ≡ length (written_line ws) + length (flat_map written_line wss) = length-append (written_line ws) _ in
    omega arith

few-pulls : (ls : List NetLine) → length (filter_map pull_line ls) ≤ length ls
few-pulls [] = omega arith
few-pulls (l ∷ ls) = at l.pull (few-pulls ls)
  where
    at : (p : Pull) → length (filter_map pull_line ls) ≤ length ls → length (cons_option (pull_line_at l.name p) (filter_map pull_line ls)) ≤ length (l ∷ ls)
    at pull.Free h = omega arith
    at pull.Up h = omega arith
    at pull.Down h = omega arith

few-places : (j : ℕ) (cs : List ChipLine) → length (board_places j cs) ≤ 24 * length cs
few-places j [] = omega arith
few-places j (c ∷ cs) =
    let here : length (ordinary_pins c.kind) ≤ 24 = leb-true _ _ (every-kind (λ k. nat_le (length (ordinary_pins k)) 24) refl c.kind) in
    let same : length (map (λ p. let q : ℕ × ℕ = (j, p) in q) (ordinary_pins c.kind)) ≡ length (ordinary_pins c.kind) = length-map (ordinary_pins c.kind) (λ p. let q : ℕ × ℕ = (j, p) in q) in
    let rest : length (board_places (j + 1) cs) ≤ 24 * length cs = few-places (j + 1) cs in
    let all : length (board_places j (c ∷ cs)) ≡ length (map (λ p. let q : ℕ × ℕ = (j, p) in q) (ordinary_pins c.kind)) + length (board_places (j + 1) cs) = length-append (map (λ p. let q : ℕ × ℕ = (j, p) in q) (ordinary_pins c.kind)) _ in
    omega arith

part-few : {T : Type 0} (same : T → T → Bool) (xs ys : List T) → is_part same xs ys ≡ true → length xs ≤ length ys
part-few same [] ys h = omega arith
part-few same (x ∷ xs) [] h = absurd (cc)
part-few {T} same (x ∷ xs) (y ∷ ys) h = at (same x y) h (λ zs. part-few same zs ys)
  where
    at : (t : Bool) → cond t (is_part same xs ys) (is_part same (x ∷ xs) ys) ≡ true → ((zs : List T) → is_part same zs ys ≡ true → length zs ≤ length ys) → length (x ∷ xs) ≤ length (y ∷ ys)
    at true p rest = let few : length xs ≤ length ys = rest xs p in omega arith
    at false p rest = let few : length (x ∷ xs) ≤ length ys = rest (x ∷ xs) p in omega arith

-- a written board has at most so many bytes
pub written-short : (net : Net) → IsWritable net → length (written_net net) ≤ 1048576
written-short net w =
    let text : length (written_net net) ≤ 101 * length (board_lines net) = text-short (board_lines net) (board-text net w).short in
    let nets : length net.nets ≤ 1024 = w.few_nets in
    let chips : length net.chips ≤ 64 = w.few_chips in
    let pulls : length (filter_map pull_line net.nets) ≤ length net.nets = few-pulls net.nets in
    let places : length (map place_of net.pins) ≤ length (board_places 0 net.chips) = part-few same_place (map place_of net.pins) (board_places 0 net.chips) w.pins_in_order in
    let most : length (board_places 0 net.chips) ≤ 24 * length net.chips = few-places 0 net.chips in
    let pins : length (map place_of net.pins) ≡ length net.pins = length-map net.pins place_of in
    let a : length (map net_line net.nets) ≡ length net.nets = length-map net.nets net_line in
    let b : length (map chip_line net.chips) ≡ length net.chips = length-map net.chips chip_line in
    let c : length (map (pin_line net) net.pins) ≡ length net.pins = length-map net.pins (pin_line net) in
    let two = head_line net ∷ map net_line net.nets in
    let three = two ++ filter_map pull_line net.nets in
    let four = three ++ map chip_line net.chips in
    let five = four ++ map (pin_line net) net.pins in
    let l3 : length three ≡ length two + length (filter_map pull_line net.nets) = length-append two _ in
    let l4 : length four ≡ length three + length (map chip_line net.chips) = length-append three _ in
    let l5 : length five ≡ length four + length (map (pin_line net) net.pins) = length-append four _ in
    let l6 : length (board_lines net) ≡ length five + 1 = length-append five _ in
    omega arith
