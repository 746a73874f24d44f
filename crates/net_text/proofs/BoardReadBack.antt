-- A written board is read back, and its text is short.
use Rattle.std.proofs.Common.{ℕ, ◌≡◌, ◌+◌, ◌<◌, Bool, true, false, cond, ◌&&◌, ◌||◌, eqb, List, [], ◌∷◌, ◌++◌, map, length, refl, sym, ap, ◌∙◌, subst, arith, Option, Some, None, Result, Ok, length-append, append_assoc}
use Rattle.std.specs.Prelude.{not, codes}
use Rattle.std.specs.List.{AllByRecursion, list_any, filter_map, slice_get, cons_option}
use Rattle.std.specs.Str.{bytes_eq}
use Rattle.std.specs.Option.{option_map}
use Rattle.std.proofs.lemmas.Bool.{and_parts, or_parts, not-true}
use Rattle.std.proofs.lemmas.List.{append-nil, length_push}
use Rattle.std.proofs.lemmas.List.Folds.{list_any-append}
use Rattle.std.proofs.lemmas.List.Elements.{filter_map-append}
use Rattle.mig_base.specs.declared.nets.Net.{Net}
use Rattle.mig_base.specs.declared.nets.NetLine.{NetLine}
use Rattle.mig_base.specs.declared.nets.ChipLine.{ChipLine}
use Rattle.mig_base.specs.declared.nets.PinLine.{PinLine}
use Rattle.mig_base.specs.declared.nets.NetError.{NetError}
use Rattle.mig_base.specs.declared.nets.NetError.TheVariants.{NoEnd}
use Rattle.mig_base.specs.declared.nets.Pull.{Pull}
use Rattle.mig_base.specs.declared.nets.Pull.TheVariants as pull
use Rattle.mig_base.specs.DeviceTables.{ordinary_pins}
use Rattle.mig_base.specs.First.{or_else, unless}
use Rattle.mig_base.specs.BoardText.{Says, End, SaidLine, all_said, ends, refuse, text_refusal, nets_in, net_names, names_of_nets, chips_in, has_pin, pulls, net_on, net_at, pins_in, pull_on, pull_in, with_pull, net_in, net_of_text, net_said, chip_said}
use Rattle.mig_base.specs.WrittenBoard.{are_distinct, is_part, Place, same_place, place_of, board_places, chip_name, written_net, IsWritable}
use Rattle.mig_base.proofs.Distinct.{bytes-equal, places-equal, same-sym, same-refl, same-is, part-any, places-distinct}
use Rattle.net_text.proofs.BoardSays.{net_says, pull_says_at, pull_says, chip_says, pin_says, board_says, said_from, said-written, IsWired, pins-wired, chip-name-is}
use Rattle.net_text.proofs.BoardParts.{unpulled, none-passes, names-unpulled, first_two, first_three, first_four, first_five, five-nets, five-chips, four-none, pins-of-pins, place-found}
use Rattle.net_text.proofs.BoardPasses.{lines-pass, board-passes, apart-before, apart-behind, not-pulled-yet, same-chip, chip-within}
use Rattle.net_text.proofs.BoardKept.{pull-free}

said-nets : (net : Net) → nets_in (board_says net) ≡ map unpulled net.nets
said-nets net = filter_map-append net_said (first_five net net.pins) (End ∷ []) ∙ append-nil _ ∙ five-nets net net.pins

said-chips : (net : Net) → chips_in (board_says net) ≡ net.chips
said-chips net = filter_map-append chip_said (first_five net net.pins) (End ∷ []) ∙ append-nil _ ∙ five-chips net net.pins

said-names : (net : Net) → names_of_nets (board_says net) ≡ net_names net.nets
said-names net = ap net_names (said-nets net) ∙ names-unpulled net.nets

-- pulls

pull-behind : (name : List ℕ) (xs ys : List Says) → list_any (pulls name) xs ≡ false → pull_in (xs ++ ys) name ≡ pull_in ys name
pull-behind name [] ys h = refl
pull-behind name (x ∷ xs) ys h =
    let parts : (pulls name x ≡ false) × (list_any (pulls name) xs ≡ false) = or_parts _ _ h in
    ap (λ (t : Bool). cond t (pull_on x) (pull_in (xs ++ ys) name)) parts.0 ∙ pull-behind name xs ys parts.1

pull-before : (name : List ℕ) (xs ys : List Says) → list_any (pulls name) ys ≡ false → pull_in (xs ++ ys) name ≡ pull_in xs name
pull-before name [] ys h = pull-free name ys h
pull-before name (x ∷ xs) ys h = ap (λ (p : Pull). cond (pulls name x) (pull_on x) p) (pull-before name xs ys h)

pull-here : (l : NetLine) (rest : List NetLine) → list_any (bytes_eq l.name) (map (λ m. m.name) rest) ≡ false → pull_in (filter_map pull_says (l ∷ rest)) l.name ≡ l.pull
pull-here l rest h = at l.pull
  where
    at : (d : Pull) → pull_in (cons_option (pull_says_at l.name d) (filter_map pull_says rest)) l.name ≡ d
    at pull.Free = pull-free l.name (filter_map pull_says rest) (not-pulled-yet l.name rest h)
    at pull.Up = ap (λ (t : Bool). cond t pull.Up (pull_in (filter_map pull_says rest) l.name)) (same-refl bytes-equal l.name)
    at pull.Down = ap (λ (t : Bool). cond t pull.Down (pull_in (filter_map pull_says rest) l.name)) (same-refl bytes-equal l.name)

pull-back : (net : Net) → IsWritable net → (done : List NetLine) (l : NetLine) (rest : List NetLine) → net.nets ≡ done ++ l ∷ rest → pull_in (board_says net) l.name ≡ l.pull
pull-back net w done l rest e =
    pull-before l.name (first_five net net.pins) (End ∷ []) refl
    ∙ pull-before l.name (first_four net net.chips) (map (pin_says net) net.pins) (none-passes (pulls l.name) (pin_says net) net.pins (λ q. refl))
    ∙ pull-before l.name (first_three net net.nets) (map chip_says net.chips) (none-passes (pulls l.name) chip_says net.chips (λ c. refl))
    ∙ pull-behind l.name (first_two net net.nets) (filter_map pull_says net.nets) (none-passes (pulls l.name) net_says net.nets (λ m. refl))
    ∙ ap (λ (ms : List NetLine). pull_in (filter_map pull_says ms) l.name) e
    ∙ ap (λ (ss : List Says). pull_in ss l.name) (filter_map-append pull_says done (l ∷ rest))
    ∙ pull-behind l.name (filter_map pull_says done) (filter_map pull_says (l ∷ rest)) (not-pulled-yet l.name done apart)
    ∙ pull-here l rest (apart-behind net w done l rest e)
  where
    apart : list_any (bytes_eq l.name) (map (λ m. m.name) done) ≡ false
    apart = (or_parts (bytes_eq l.name (codes "VCC")) (list_any (bytes_eq l.name) (map (λ m. m.name) done))
        (or_parts (bytes_eq l.name (codes "GND")) (list_any (bytes_eq l.name) (codes "VCC" ∷ map (λ m. m.name) done)) (apart-before net w done l rest e)).1).1

nets-back : (net : Net) → IsWritable net → (done rest : List NetLine) → net.nets ≡ done ++ rest → map (with_pull (board_says net)) (map unpulled rest) ≡ rest
nets-back net w done [] e = refl
nets-back net w done (l ∷ rest) e =
    ap (λ (p : Pull). let m : NetLine = record { name = l.name; port = l.port; pull = p } in m ∷ map (with_pull (board_says net)) (map unpulled rest)) (pull-back net w done l rest e)
    ∙ ap (λ (ms : List NetLine). l ∷ ms) (nets-back net w (done ++ l ∷ []) rest (e ∙ sym (append_assoc done (l ∷ []) rest)))

-- pins

-- the net of the first of these lines that has the place
abbrev net_of_place : List PinLine → Place → Option ℕ
net_of_place [] q = None
net_of_place (l ∷ ls) q = cond (same_place q (place_of l)) (Some l.net) (net_of_place ls q)

abbrev line_at : Place → ℕ → PinLine
line_at q n = record { chip = q.0; pin = q.1; net = n }

abbrev line_of_place : List PinLine → Place → Option PinLine
line_of_place ls q = option_map (line_at q) (net_of_place ls q)

net-behind : (names : List (List ℕ)) (chip : List ℕ) (pin : ℕ) (xs ys : List Says) → list_any (has_pin chip pin) xs ≡ false → net_at (xs ++ ys) names chip pin ≡ net_at ys names chip pin
net-behind names chip pin [] ys h = refl
net-behind names chip pin (x ∷ xs) ys h =
    let parts : (has_pin chip pin x ≡ false) × (list_any (has_pin chip pin) xs ≡ false) = or_parts _ _ h in
    ap (λ (t : Bool). cond t (net_on names x) (net_at (xs ++ ys) names chip pin)) parts.0 ∙ net-behind names chip pin xs ys parts.1

same-pin : (net : Net) → IsWritable net → (l : PinLine) → IsWired net l → (j p : ℕ) → j < length net.chips → has_pin (chip_name net j) p (pin_says net l) ≡ same_place (j, p) (place_of l)
same-pin net w l h j p lt = ap (λ (t : Bool). t && eqb p l.pin) (same-chip net w j l.chip lt (chip-within net l h))

net-found : (net : Net) → IsWritable net → (ls : List PinLine) → AllByRecursion (IsWired net) ls → (j p : ℕ) → j < length net.chips →
    net_at (map (pin_says net) ls ++ End ∷ []) (net_names net.nets) (chip_name net j) p ≡ net_of_place ls (j, p)
net-found net w [] h j p lt = refl
net-found net w (l ∷ ls) h j p lt =
    ap (λ (t : Bool). cond t (net_on (net_names net.nets) (pin_says net l)) (net_at (map (pin_says net) ls ++ End ∷ []) (net_names net.nets) (chip_name net j) p)) (same-pin net w l h.0 j p lt)
    ∙ ap (λ (o : Option ℕ). cond (same_place (j, p) (place_of l)) o (net_at (map (pin_says net) ls ++ End ∷ []) (net_names net.nets) (chip_name net j) p)) (place-found (net_names net.nets) l.net w.distinct_nets h.0.on)
    ∙ ap (λ (o : Option ℕ). cond (same_place (j, p) (place_of l)) (Some l.net) o) (net-found net w ls h.1 j p lt)

net-back : (net : Net) → IsWritable net → (j p : ℕ) → j < length net.chips → net_at (board_says net) (names_of_nets (board_says net)) (chip_name net j) p ≡ net_of_place net.pins (j, p)
net-back net w j p lt =
    ap (λ (ns : List (List ℕ)). net_at (board_says net) ns (chip_name net j) p) (said-names net)
    ∙ ap (λ (ss : List Says). net_at ss (net_names net.nets) (chip_name net j) p) (append_assoc (first_four net net.chips) (map (pin_says net) net.pins) (End ∷ []))
    ∙ net-behind (net_names net.nets) (chip_name net j) p (first_four net net.chips) (map (pin_says net) net.pins ++ End ∷ []) (four-none net (has_pin (chip_name net j) p) (pins-of-pins (chip_name net j) p) net.chips)
    ∙ net-found net w net.pins (pins-wired net w) j p lt

chip-back : (net : Net) → IsWritable net → (j : ℕ) → j < length net.chips → (ps : List ℕ) →
    filter_map (λ p. option_map (line_at (j, p)) (net_at (board_says net) (names_of_nets (board_says net)) (chip_name net j) p)) ps ≡ filter_map (line_of_place net.pins) (map (λ p. (j, p)) ps)
chip-back net w j lt [] = refl
chip-back net w j lt (p ∷ ps) =
    ap (λ (o : Option ℕ). cons_option (option_map (line_at (j, p)) o) (filter_map (λ q. option_map (line_at (j, q)) (net_at (board_says net) (names_of_nets (board_says net)) (chip_name net j) q)) ps)) (net-back net w j p lt)
    ∙ ap (λ (ls : List PinLine). cons_option (line_of_place net.pins (j, p)) ls) (chip-back net w j lt ps)

pins-by-place : (net : Net) → IsWritable net → (done cs : List ChipLine) → net.chips ≡ done ++ cs → pins_in (board_says net) (length done) cs ≡ filter_map (line_of_place net.pins) (board_places (length done) cs)
pins-by-place net w done [] e = refl
pins-by-place net w done (c ∷ cs) e =
    ap (λ (n : List ℕ). filter_map (λ p. option_map (line_at (length done, p)) (net_at (board_says net) (names_of_nets (board_says net)) n p)) (ordinary_pins c.kind) ++ pins_in (board_says net) (length done + 1) cs) (sym name)
    ∙ ap (λ (ls : List PinLine). ls ++ pins_in (board_says net) (length done + 1) cs) (chip-back net w (length done) within (ordinary_pins c.kind))
    ∙ ap (λ (ls : List PinLine). filter_map (line_of_place net.pins) (map (λ p. (length done, p)) (ordinary_pins c.kind)) ++ ls)
    (subst (λ (j : ℕ). pins_in (board_says net) j cs ≡ filter_map (line_of_place net.pins) (board_places j cs)) (length_push done c) (pins-by-place net w (done ++ c ∷ []) cs (e ∙ sym (append_assoc done (c ∷ []) cs))))
    ∙ sym (filter_map-append (line_of_place net.pins) (map (λ p. (length done, p)) (ordinary_pins c.kind)) (board_places (length done + 1) cs))
  where
    there : (ds : List ChipLine) → slice_get (ds ++ c ∷ cs) (length ds) ≡ Some c
    there [] = refl
    there (d ∷ ds) = there ds

    name : chip_name net (length done) ≡ c.name
    name = chip-name-is net (length done) c (ap (λ (ds : List ChipLine). slice_get ds (length done)) e ∙ there done)

    within : length done < length net.chips
    within = let all : length net.chips ≡ length done + length (c ∷ cs) = ap length e ∙ length-append done (c ∷ cs) in omega arith

not-placed : (q : Place) (ls : List PinLine) → list_any (same_place q) (map place_of ls) ≡ false → net_of_place ls q ≡ None
not-placed q [] h = refl
not-placed q (l ∷ ls) h =
    let parts : (same_place q (place_of l) ≡ false) × (list_any (same_place q) (map place_of ls) ≡ false) = or_parts _ _ h in
    ap (λ (t : Bool). cond t (Some l.net) (net_of_place ls q)) parts.0 ∙ not-placed q ls parts.1

without-first : (l : PinLine) (ls : List PinLine) (qs : List Place) → list_any (same_place (place_of l)) qs ≡ false → filter_map (line_of_place (l ∷ ls)) qs ≡ filter_map (line_of_place ls) qs
without-first l ls [] h = refl
without-first l ls (q ∷ qs) h =
    let parts : (same_place (place_of l) q ≡ false) × (list_any (same_place (place_of l)) qs ≡ false) = or_parts _ _ h in
    ap (λ (t : Bool). cons_option (option_map (line_at q) (cond t (Some l.net) (net_of_place ls q))) (filter_map (line_of_place (l ∷ ls)) qs)) (same-sym places-equal q (place_of l) ∙ parts.0)
    ∙ ap (λ (ms : List PinLine). cons_option (line_of_place ls q) ms) (without-first l ls qs parts.1)

no-lines : (qs : List Place) → filter_map (line_of_place []) qs ≡ []
no-lines [] = refl
no-lines (q ∷ qs) = no-lines qs

-- the lines at places that they are a part of
lines-back : (ls : List PinLine) (qs : List Place) → is_part same_place (map place_of ls) qs ≡ true → are_distinct same_place qs ≡ true → filter_map (line_of_place ls) qs ≡ ls
lines-back [] qs h d = no-lines qs
lines-back (l ∷ ls) [] h d = cc
lines-back (l ∷ ls) (q ∷ qs) h d = at (same_place (place_of l) q) refl h (λ ms p. lines-back ms qs p parts.1)
  where
    parts : (not (list_any (same_place q) qs) ≡ true) × (are_distinct same_place qs ≡ true)
    parts = and_parts _ _ d

    here : place_of l ≡ q → line_of_place (l ∷ ls) q ≡ Some l
    here e =
        ap (λ (p : Place). option_map (line_at p) (cond (same_place p (place_of l)) (Some l.net) (net_of_place ls p))) (sym e)
        ∙ ap (λ (t : Bool). option_map (line_at (place_of l)) (cond t (Some l.net) (net_of_place ls (place_of l)))) (same-refl places-equal (place_of l))

    at : (t : Bool) → same_place (place_of l) q ≡ t → cond t (is_part same_place (map place_of ls) qs) (is_part same_place (map place_of (l ∷ ls)) qs) ≡ true →
        ((ms : List PinLine) → is_part same_place (map place_of ms) qs ≡ true → filter_map (line_of_place ms) qs ≡ ms) → filter_map (line_of_place (l ∷ ls)) (q ∷ qs) ≡ l ∷ ls
    at true e p rest =
        let same : place_of l ≡ q = same-is places-equal (place_of l) q e in
        let none : list_any (same_place (place_of l)) qs ≡ false = ap (λ (x : Place). list_any (same_place x) qs) same ∙ not-true _ parts.0 in
        ap (λ (o : Option PinLine). cons_option o (filter_map (line_of_place (l ∷ ls)) qs)) (here same)
        ∙ ap (λ (ms : List PinLine). l ∷ ms) (without-first l ls qs none ∙ rest ls p)
    at false e p rest =
        let none : list_any (same_place q) (map place_of (l ∷ ls)) ≡ false = part-any places-equal (map place_of (l ∷ ls)) qs p q (not-true _ parts.0) in
        ap (λ (o : Option ℕ). cons_option (option_map (line_at q) o) (filter_map (line_of_place (l ∷ ls)) qs)) (not-placed q (l ∷ ls) none)
        ∙ rest (l ∷ ls) p

said-back : (net : Net) → IsWritable net → net_in (board_says net) ≡ net
said-back net w =
    ap (λ (ms : List NetLine). let n : Net = record { nets = map (with_pull (board_says net)) ms; chips = chips_in (board_says net); pins = pins_in (board_says net) 0 (chips_in (board_says net)) } in n) (said-nets net)
    ∙ ap (λ (ms : List NetLine). let n : Net = record { nets = ms; chips = chips_in (board_says net); pins = pins_in (board_says net) 0 (chips_in (board_says net)) } in n) (nets-back net w [] net.nets refl)
    ∙ ap (λ (cs : List ChipLine). let n : Net = record { nets = net.nets; chips = cs; pins = pins_in (board_says net) 0 cs } in n) (said-chips net)
    ∙ ap (λ (ps : List PinLine). let n : Net = record { nets = net.nets; chips = net.chips; pins = ps } in n)
    (pins-by-place net w [] net.chips refl ∙ lines-back net.pins (board_places 0 net.chips) w.pins_in_order (places-distinct 0 net.chips))

all-said-from : (n : ℕ) (ss : List Says) → all_said (said_from n ss) ≡ ss
all-said-from n [] = refl
all-said-from n (s ∷ ss) = ap (λ (xs : List Says). s ∷ xs) (all-said-from (n + 1) ss)

ends-from : (n : ℕ) (ss : List Says) → list_any (λ l. ends l.said) (said_from n ss) ≡ list_any ends ss
ends-from n [] = refl
ends-from n (s ∷ ss) = ap (λ (t : Bool). ends s || t) (ends-from (n + 1) ss)

board-ends : (net : Net) → list_any ends (board_says net) ≡ true
board-ends net = list_any-append ends (first_five net net.pins) (End ∷ []) ∙ or-true (list_any ends (first_five net net.pins))
  where
    or-true : (a : Bool) → (a || (true || false)) ≡ true
    or-true true = refl
    or-true false = refl

none-refused : (net : Net) → IsWritable net → text_refusal (said_from 1 (board_says net)) ≡ None
none-refused net w =
    ap (λ (o : Option NetError). or_else o (refuse (not (list_any (λ l. ends l.said) (said_from 1 (board_says net)))) NoEnd)) (lines-pass [] 1 (board_says net) (board-passes net w))
    ∙ ap (λ (t : Bool). refuse (not t) NoEnd) (ends-from 1 (board_says net) ∙ board-ends net)

-- what is written is read back
pub written-read : (net : Net) → IsWritable net → net_of_text (written_net net) ≡ Ok net
written-read net w =
    ap (λ (ls : List SaidLine). let r : Result Net NetError = unless (text_refusal ls) (Ok (net_in (all_said ls))) in r) (said-written net w)
    ∙ ap (λ (o : Option NetError). unless o (Ok (net_in (all_said (said_from 1 (board_says net)))))) (none-refused net w)
    ∙ ap (λ (ss : List Says). let r : Result Net NetError = Ok (net_in ss) in r) (all-said-from 1 (board_says net))
    ∙ ap (λ (n : Net). let r : Result Net NetError = Ok n in r) (said-back net w)
