-- Each wiring that a text gives can be written.
use Rattle.std.proofs.Common.{ℕ, ◌≡◌, ◌+◌, ◌<◌, ◌≤◌, Bool, true, false, cond, ◌&&◌, List, [], ◌∷◌, ◌++◌, map, length, refl, ap, ◌∙◌, subst, arith, Option, Some, None, Result, Ok, Err}
use Rattle.std.specs.Prelude.{not, nat_lt, codes}
use Rattle.std.specs.List.{AllByRecursion, list_all, filter_map, cons_option}
use Rattle.std.specs.Str.{bytes_eq}
use Rattle.std.specs.Option.{option_map}
use Rattle.std.proofs.lemmas.Bool.{and_from, lt-ltb}
use Rattle.std.proofs.lemmas.List.{length-map}
use Rattle.std.proofs.lemmas.List.Folds.{list_all-append}
use Rattle.mig_base.specs.declared.kinds.Kind.{Kind}
use Rattle.mig_base.specs.declared.nets.Net.{Net}
use Rattle.mig_base.specs.declared.nets.NetLine.{NetLine}
use Rattle.mig_base.specs.declared.nets.ChipLine.{ChipLine}
use Rattle.mig_base.specs.declared.nets.PinLine.{PinLine}
use Rattle.mig_base.specs.declared.nets.Port.{Port}
use Rattle.mig_base.specs.declared.nets.Port.TheVariants.{Inner}
use Rattle.mig_base.specs.declared.nets.NetError.{NetError}
use Rattle.mig_base.specs.declared.nets.Pull.{Pull}
use Rattle.mig_base.specs.DeviceTables.{ordinary_pins}
use Rattle.mig_base.specs.Names.{is_name}
use Rattle.mig_base.specs.First.{or_else, first_refusal, unless}
use Rattle.mig_base.specs.Lines.{TextLine, text_lines, number_of}
use Rattle.mig_base.specs.BoardText.{Says, Head, NetOf, ChipOf, PinOf, PullOf, End, Wrong, or_wrong, says, after_net, after_chip, after_pin, after_pull, after_board, after_end, port_named, pull_named, said_line, said_lines, all_said, line_refusal, nets_in, net_names, names_of_nets, chips_in, place_named, has_pin, net_on, net_at, is_input_port, pull_in, with_pull, pins_of_chip, pins_in, net_in, net_of_text}
use Rattle.mig_base.specs.WrittenBoard.{are_distinct, is_part, is_pulled, Place, same_place, place_of, board_places, written_net, IsWritable}
use Rattle.mig_base.proofs.Distinct.{places-equal, same-refl, part-more}
use Rattle.net_text.proofs.BoardKept.{Keeps, lines-keep}

-- the name that a line defines has its form
abbrev is_well_named : Says → Bool
is_well_named (NetOf name dir) = is_name name
is_well_named (ChipOf name kind) = is_name name
is_well_named _ = true

choose : (b : Bool) (x y : Says) → is_well_named x ≡ true → is_well_named y ≡ true → is_well_named (cond b x y) ≡ true
choose true x y hx hy = hx
choose false x y hx hy = hy

net-named : (ws : List (List ℕ)) → is_well_named (after_net ws) ≡ true
net-named [] = refl
net-named (name ∷ []) = at (is_name name) refl
  where
    at : (t : Bool) → is_name name ≡ t → is_well_named (cond t (NetOf name Inner) Wrong) ≡ true
    at true e = e
    at false e = refl
net-named (name ∷ dir ∷ []) = at (is_name name) (port_named dir) refl
  where
    at : (t : Bool) (o : Option Port) → is_name name ≡ t → is_well_named (cond t (or_wrong (NetOf name) o) Wrong) ≡ true
    at true None e = refl
    at true (Some p) e = e
    at false o e = refl
net-named (name ∷ dir ∷ w ∷ ws) = refl

chip-named : (ws : List (List ℕ)) → is_well_named (after_chip ws) ≡ true
chip-named [] = refl
chip-named (name ∷ []) = refl
chip-named (name ∷ kind ∷ []) = at (is_name name) _ refl
  where
    at : (t : Bool) (k : Option Kind) → is_name name ≡ t → is_well_named (cond t (ChipOf name k) Wrong) ≡ true
    at true k e = e
    at false k e = refl
chip-named (name ∷ kind ∷ w ∷ ws) = refl

pin-named : (ws : List (List ℕ)) → is_well_named (after_pin ws) ≡ true
pin-named [] = refl
pin-named (chip ∷ []) = refl
pin-named (chip ∷ pin ∷ []) = refl
pin-named (chip ∷ pin ∷ net ∷ []) = choose (is_name chip && is_name net) (or_wrong (λ n. PinOf chip n net) (number_of pin)) Wrong (at (number_of pin)) refl
  where
    at : (o : Option ℕ) → is_well_named (or_wrong (λ n. PinOf chip n net) o) ≡ true
    at None = refl
    at (Some n) = refl
pin-named (chip ∷ pin ∷ net ∷ w ∷ ws) = refl

pull-named : (ws : List (List ℕ)) → is_well_named (after_pull ws) ≡ true
pull-named [] = refl
pull-named (net ∷ []) = refl
pull-named (net ∷ dir ∷ []) = choose (is_name net) (or_wrong (PullOf net) (pull_named dir)) Wrong (at (pull_named dir)) refl
  where
    at : (o : Option Pull) → is_well_named (or_wrong (PullOf net) o) ≡ true
    at None = refl
    at (Some p) = refl
pull-named (net ∷ dir ∷ w ∷ ws) = refl

end-named : (ws : List (List ℕ)) → is_well_named (after_end ws) ≡ true
end-named [] = refl
end-named (w ∷ ws) = refl

board-named : (ws : List (List ℕ)) → is_well_named (after_board ws) ≡ true
board-named [] = refl
board-named (v ∷ []) =
    choose (bytes_eq v (codes "1")) (Head 1) (cond (bytes_eq v (codes "2")) (Head 2) Wrong) refl (choose (bytes_eq v (codes "2")) (Head 2) Wrong refl refl)
board-named (v ∷ w ∷ ws) = refl

says-named : (ws : List (List ℕ)) → is_well_named (says ws) ≡ true
says-named [] = refl
says-named (w ∷ ws) =
    let board = cond (bytes_eq w (codes "board")) (after_board ws) Wrong in
    let end = cond (bytes_eq w (codes "end")) (after_end ws) board in
    let pulled = cond (bytes_eq w (codes "pull")) (after_pull ws) end in
    let pin = cond (bytes_eq w (codes "pin")) (after_pin ws) pulled in
    let chip = cond (bytes_eq w (codes "chip")) (after_chip ws) pin in
    choose (bytes_eq w (codes "net")) (after_net ws) chip (net-named ws)
    (choose (bytes_eq w (codes "chip")) (after_chip ws) pin (chip-named ws)
    (choose (bytes_eq w (codes "pin")) (after_pin ws) pulled (pin-named ws)
    (choose (bytes_eq w (codes "pull")) (after_pull ws) end (pull-named ws)
    (choose (bytes_eq w (codes "end")) (after_end ws) board (end-named ws)
    (choose (bytes_eq w (codes "board")) (after_board ws) Wrong (board-named ws) refl)))))

all-named : (ls : List TextLine) → AllByRecursion (λ s. is_well_named s ≡ true) (all_said (map said_line ls))
all-named [] = tt
all-named (l ∷ ls) = (says-named l.words, all-named ls)

nets-named : (ss : List Says) → AllByRecursion (λ s. is_well_named s ≡ true) ss → list_all (λ l. is_name l.name) (nets_in ss) ≡ true
nets-named [] h = refl
nets-named (NetOf name dir ∷ ss) h = and_from _ _ h.0 (nets-named ss h.1)
nets-named (Head v ∷ ss) h = nets-named ss h.1
nets-named (ChipOf name kind ∷ ss) h = nets-named ss h.1
nets-named (PinOf c p net ∷ ss) h = nets-named ss h.1
nets-named (PullOf net dir ∷ ss) h = nets-named ss h.1
nets-named (End ∷ ss) h = nets-named ss h.1
nets-named (Wrong ∷ ss) h = nets-named ss h.1

chips-named : (ss : List Says) → AllByRecursion (λ s. is_well_named s ≡ true) ss → list_all (λ c. is_name c.name) (chips_in ss) ≡ true
chips-named [] h = refl
chips-named (ChipOf name None ∷ ss) h = chips-named ss h.1
chips-named (ChipOf name (Some kind) ∷ ss) h = and_from _ _ h.0 (chips-named ss h.1)
chips-named (NetOf name dir ∷ ss) h = chips-named ss h.1
chips-named (Head v ∷ ss) h = chips-named ss h.1
chips-named (PinOf c p net ∷ ss) h = chips-named ss h.1
chips-named (PullOf net dir ∷ ss) h = chips-named ss h.1
chips-named (End ∷ ss) h = chips-named ss h.1
chips-named (Wrong ∷ ss) h = chips-named ss h.1

-- the nets with their pulls have the same names
pulled-names : (ss : List Says) (ls : List NetLine) → net_names (map (with_pull ss) ls) ≡ net_names ls
pulled-names ss ls = ap (λ (ns : List (List ℕ)). codes "GND" ∷ codes "VCC" ∷ ns) (names ls)
  where
    names : (ms : List NetLine) → map (λ l. l.name) (map (with_pull ss) ms) ≡ map (λ l. l.name) ms
    names [] = refl
    names (m ∷ ms) = ap (λ (ns : List (List ℕ)). m.name ∷ ns) (names ms)

still-named : (ss : List Says) (ls : List NetLine) → list_all (λ l. is_name l.name) (map (with_pull ss) ls) ≡ list_all (λ l. is_name l.name) ls
still-named ss [] = refl
still-named ss (l ∷ ls) = ap (λ (t : Bool). is_name l.name && t) (still-named ss ls)

no-input : (ss : List Says) (ls : List NetLine) → AllByRecursion (λ l. (is_pulled (pull_in ss l.name) && is_input_port l.port) ≡ false) ls →
    list_all (λ l. not (is_pulled l.pull && is_input_port l.port)) (map (with_pull ss) ls) ≡ true
no-input ss [] h = refl
no-input ss (l ∷ ls) h = and_from _ _ (ap not h.0) (no-input ss ls h.1)

part-append : (xs ys zs qs : List Place) → is_part same_place xs ys ≡ true → is_part same_place zs qs ≡ true → is_part same_place (xs ++ zs) (ys ++ qs) ≡ true
part-append [] [] zs qs h k = k
part-append [] (y ∷ ys) zs qs h k = part-more same_place zs y (ys ++ qs) (part-append [] ys zs qs refl k)
part-append (x ∷ xs) [] zs qs h k = cc
part-append (x ∷ xs) (y ∷ ys) zs qs h k = at (same_place x y) h (λ vs p. part-append vs ys zs qs p k)
  where
    at : (t : Bool) → cond t (is_part same_place xs ys) (is_part same_place (x ∷ xs) ys) ≡ true →
        ((vs : List Place) → is_part same_place vs ys ≡ true → is_part same_place (vs ++ zs) (ys ++ qs) ≡ true) →
        cond t (is_part same_place (xs ++ zs) (ys ++ qs)) (is_part same_place (x ∷ (xs ++ zs)) (ys ++ qs)) ≡ true
    at true p rest = rest xs p
    at false p rest = rest (x ∷ xs) p

abbrev line_at : ℕ → ℕ → ℕ → PinLine
line_at j p n = record { chip = j; pin = p; net = n }

-- the lines of pins are a part of the pins
lines-part : (f : ℕ → Option ℕ) (j : ℕ) (ps : List ℕ) → is_part same_place (map place_of (filter_map (λ p. option_map (line_at j p) (f p)) ps)) (map (λ p. (j, p)) ps) ≡ true
lines-part f j [] = refl
lines-part f j (p ∷ ps) = at (f p) (lines-part f j ps)
  where
    rest : List PinLine
    rest = filter_map (λ q. option_map (line_at j q) (f q)) ps

    at : (o : Option ℕ) → is_part same_place (map place_of (filter_map (λ q. option_map (line_at j q) (f q)) ps)) (map (λ q. (j, q)) ps) ≡ true →
        is_part same_place (map place_of (cons_option (option_map (line_at j p) o) (filter_map (λ q. option_map (line_at j q) (f q)) ps))) ((j, p) ∷ map (λ q. (j, q)) ps) ≡ true
    at None h = part-more same_place (map place_of (filter_map (λ q. option_map (line_at j q) (f q)) ps)) (j, p) (map (λ q. (j, q)) ps) h
    at (Some n) h =
        ap (λ (t : Bool). cond t (is_part same_place (map place_of (filter_map (λ q. option_map (line_at j q) (f q)) ps)) (map (λ q. (j, q)) ps))
        (is_part same_place ((j, p) ∷ map place_of (filter_map (λ q. option_map (line_at j q) (f q)) ps)) (map (λ q. (j, q)) ps))) (same-refl places-equal (j, p)) ∙ h

map-lines : (xs ys : List PinLine) → map place_of (xs ++ ys) ≡ map place_of xs ++ map place_of ys
map-lines [] ys = refl
map-lines (x ∷ xs) ys = ap (λ (qs : List Place). place_of x ∷ qs) (map-lines xs ys)

pins-part : (ss : List Says) (j : ℕ) (cs : List ChipLine) → is_part same_place (map place_of (pins_in ss j cs)) (board_places j cs) ≡ true
pins-part ss j [] = refl
pins-part ss j (c ∷ cs) =
    ap (λ (qs : List Place). is_part same_place qs (board_places j (c ∷ cs))) (map-lines (pins_of_chip ss j c) (pins_in ss (j + 1) cs))
    ∙ part-append (map place_of (pins_of_chip ss j c)) (map (λ p. (j, p)) (ordinary_pins c.kind)) (map place_of (pins_in ss (j + 1) cs)) (board_places (j + 1) cs)
    (lines-part (λ p. net_at ss (names_of_nets ss) c.name p) j (ordinary_pins c.kind)) (pins-part ss (j + 1) cs)

pub place-within : (name : List ℕ) (names : List (List ℕ)) (k : ℕ) → place_named name names ≡ Some k → k < length names
place-within name [] k e = absurd (let no : ⊥ = cc in no)
place-within name (n ∷ names) k e = at (bytes_eq name n) (place_named name names) e (place-within name names)
  where
    at : (t : Bool) (o : Option ℕ) → cond t (Some 0) (option_map (λ i. i + 1) o) ≡ Some k → ((i : ℕ) → o ≡ Some i → i < length names) → k < length (n ∷ names)
    at true o e rest = let same : 0 ≡ k = cc in omega arith
    at false None e rest = absurd (let no : ⊥ = cc in no)
    at false (Some i) e rest = let same : i + 1 ≡ k = cc in let lt : i < length names = rest i refl in omega arith

net-within : (ss : List Says) (names : List (List ℕ)) (chip : List ℕ) (pin k : ℕ) → net_at ss names chip pin ≡ Some k → k < length names
net-within [] names chip pin k e = absurd (let no : ⊥ = cc in no)
net-within (s ∷ ss) names chip pin k e = at (has_pin chip pin s) s e (net-within ss names chip pin k)
  where
    on : (x : Says) → net_on names x ≡ Some k → k < length names
    on (PinOf c p net) h = place-within net names k h
    on (Head v) h = absurd (let no : ⊥ = cc in no)
    on (NetOf name dir) h = absurd (let no : ⊥ = cc in no)
    on (ChipOf name kind) h = absurd (let no : ⊥ = cc in no)
    on (PullOf net dir) h = absurd (let no : ⊥ = cc in no)
    on End h = absurd (let no : ⊥ = cc in no)
    on Wrong h = absurd (let no : ⊥ = cc in no)

    at : (t : Bool) (x : Says) → cond t (net_on names x) (net_at ss names chip pin) ≡ Some k → (net_at ss names chip pin ≡ Some k → k < length names) → k < length names
    at true x h rest = on x h
    at false x h rest = rest h

lines-on : (f : ℕ → Option ℕ) (j m : ℕ) → ((p k : ℕ) → f p ≡ Some k → k < m) → (ps : List ℕ) → list_all (λ l. nat_lt l.net m) (filter_map (λ p. option_map (line_at j p) (f p)) ps) ≡ true
lines-on f j m h [] = refl
lines-on f j m h (p ∷ ps) = at (f p) (h p) (lines-on f j m h ps)
  where
    at : (o : Option ℕ) → ((k : ℕ) → o ≡ Some k → k < m) → list_all (λ l. nat_lt l.net m) (filter_map (λ q. option_map (line_at j q) (f q)) ps) ≡ true →
        list_all (λ l. nat_lt l.net m) (cons_option (option_map (line_at j p) o) (filter_map (λ q. option_map (line_at j q) (f q)) ps)) ≡ true
    at None g rest = rest
    at (Some k) g rest = and_from _ _ (lt-ltb k m (g k refl)) rest

pins-on : (ss : List Says) (j : ℕ) (cs : List ChipLine) → list_all (λ l. nat_lt l.net (length (names_of_nets ss))) (pins_in ss j cs) ≡ true
pins-on ss j [] = refl
pins-on ss j (c ∷ cs) =
    list_all-append (λ l. nat_lt l.net (length (names_of_nets ss))) (pins_of_chip ss j c) (pins_in ss (j + 1) cs)
    ∙ and_from _ _ (lines-on (λ p. net_at ss (names_of_nets ss) c.name p) j (length (names_of_nets ss)) (λ p k e. net-within ss (names_of_nets ss) c.name p k e) (ordinary_pins c.kind)) (pins-on ss (j + 1) cs)

net-writable : (ss : List Says) → AllByRecursion (λ s. is_well_named s ≡ true) ss → Keeps ss → IsWritable (net_in ss)
net-writable ss named k = record {
  few_nets = let e : length (map (with_pull ss) (nets_in ss)) ≡ length (nets_in ss) = length-map (nets_in ss) (with_pull ss) in let f : length (nets_in ss) ≤ 1024 = k.few_nets in omega arith;
  few_chips = k.few_chips;
  named_nets = still-named ss (nets_in ss) ∙ nets-named ss named;
  named_chips = chips-named ss named;
  distinct_nets = ap (are_distinct bytes_eq) (pulled-names ss (nets_in ss)) ∙ k.distinct_nets;
  distinct_chips = k.distinct_chips;
  no_input_pulled = no-input ss (nets_in ss) k.pulled;
  pins_in_order = pins-part ss 0 (chips_in ss);
  pins_on_nets = ap (λ (m : ℕ). list_all (λ l. nat_lt l.net m) (pins_in ss 0 (chips_in ss))) (ap length (pulled-names ss (nets_in ss))) ∙ pins-on ss 0 (chips_in ss);
}

-- a text whose lines nothing refuses gives a wiring that can be written
pub accepted-writable : (bytes : List ℕ) → first_refusal line_refusal [] (said_lines bytes) ≡ None → IsWritable (net_in (all_said (said_lines bytes)))
accepted-writable bytes h = net-writable (all_said (said_lines bytes)) (all-named (text_lines bytes)) (lines-keep (said_lines bytes) h)

-- and so does each text that gives one
pub given-writable : (bytes : List ℕ) (net : Net) → net_of_text bytes ≡ Ok net → IsWritable net
given-writable bytes net h = at (first_refusal line_refusal [] (said_lines bytes)) refl _ h
  where
    at : (o : Option NetError) → first_refusal line_refusal [] (said_lines bytes) ≡ o → (e : Option NetError) → unless (or_else o e) (Ok (net_in (all_said (said_lines bytes)))) ≡ Ok net → IsWritable net
    at None a None b = let same : net_in (all_said (said_lines bytes)) ≡ net = cc in subst IsWritable same (accepted-writable bytes a)
    at None a (Some e) b = absurd (let no : ⊥ = cc in no)
    at (Some x) a e b = absurd (let no : ⊥ = cc in no)
