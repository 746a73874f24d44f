-- The wiring of a board that is built for PAL16 chips can be written.
use Rattle.std.proofs.Common.{ℕ, ◌≡◌, ◌+◌, ◌<◌, Bool, true, false, not, cond, ◌&&◌, List, [], ◌∷◌, ◌++◌, map, length, Option, Some, None, refl, sym, ap, ◌∙◌, subst, inl, inr, ◌⊎◌, ltb, lt-ltb, ltb-true, arith, IsTrue}
use Rattle.std.specs.List.{filter_map, list_all, cons_option}
use Rattle.std.specs.Str.{bytes_eq}
use Rattle.std.proofs.lemmas.List.{length-map, map-append}
use Rattle.std.proofs.lemmas.Option.{same_Some}
use Rattle.mig_base.specs.declared.nets.Net.{Net}
use Rattle.mig_base.specs.declared.nets.NetLine.{NetLine}
use Rattle.mig_base.specs.declared.nets.ChipLine.{ChipLine}
use Rattle.mig_base.specs.declared.nets.PinLine.{PinLine}
use Rattle.mig_base.specs.declared.cells.ChipCells.{ChipCells}
use Rattle.mig_base.specs.Among.{Among}
use Rattle.mig_base.specs.Names.{is_name}
use Rattle.mig_base.specs.BoardText.{net_names, is_input_port}
use Rattle.mig_base.specs.DeviceTables.{ordinary_pins}
use Rattle.mig_base.specs.Boards.{units_from}
use Rattle.mig_base.specs.WrittenBoard.{are_distinct, is_part, is_pulled, Place, same_place, place_of, board_places, IsWritable}
use Rattle.mig_base.proofs.Distinct.{same-refl, part-more, places-equal}
use Rattle.mig_base.proofs.Amongs.{among-split, among-map, pass-all}
use Rattle.new_board.specs.NewChip.{OldBoard, NewChip, private_from}
use Rattle.new_board.specs.InputPins.{pin_net}
use Rattle.new_board.specs.NewFiles.{fitted, new_number, new_chip_line, new_pins_from, new_wires, wire_at}
use Rattle.new_board.specs.OneForOne.{same_chips_from, same_chips}
use Rattle.rebuilt_boards.specs.RebuiltBoards.{built_chips, built_net}
use Rattle.new_board.specs.declared.types.FittedChip.{FittedChip}
use Rattle.new_board.specs.declared.types.PinNet.{PinNet}
use Rattle.new_board.proofs.Items.{get-among, among-unfilter_map}
use Rattle.rebuilt_boards.proofs.RebuiltCircuit.{board_of}
use Rattle.new_board.proofs.NewWiring.{rebuilt_net, kept_of}
use Rattle.new_board.proofs.KeptNumbers.{kept-numbers}
use Rattle.rebuilt_boards.proofs.PalUnits.{ArePals}
use Rattle.rebuilt_boards.proofs.PalBoards.{IsPalBoard}
use Rattle.new_board.proofs.BuiltNets.{nets-few, nets-named, nets-distinct}

-- names

pub new-names : (b : OldBoard) (j : ℕ) (lines : List ChipLine) (chips : List ChipCells) → ArePals lines chips →
    map (λ (c : NewChip). c.name) (same_chips_from b j lines chips) ≡ map (λ (l : ChipLine). l.name) lines
new-names b j [] chips h = refl
new-names b j (l ∷ ls) [] h = absurd h
new-names b j (l ∷ ls) (c ∷ cs) h = ap (λ (rest : List (List ℕ)). l.name ∷ rest) (new-names b (j + 1) ls cs h.1)

-- maps in turn
pub map-after : {A B C : Type 0} (g : B → C) (f : A → B) (xs : List A) → map g (map f xs) ≡ map (λ x. g (f x)) xs
map-after g f [] = refl
map-after g f (x ∷ xs) = ap (λ rest. g (f x) ∷ rest) (map-after g f xs)

-- a test of the images
pub all-after : {A B : Type 0} (test : B → Bool) (f : A → B) (xs : List A) → list_all (λ x. test (f x)) xs ≡ list_all test (map f xs)
all-after test f [] = refl
all-after test f (x ∷ xs) = ap (λ (q : Bool). test (f x) && q) (all-after test f xs)

pub built-names : (net : Net) (chips : List ChipCells) → IsPalBoard net chips → map (λ (f : FittedChip). f.name) (built_chips net chips) ≡ map (λ (c : ChipLine). c.name) net.chips
built-names net chips board =
    map-after (λ (f : FittedChip). f.name) (fitted (board_of net (units_from 0 chips))) (same_chips net chips) ∙ new-names (board_of net (units_from 0 chips)) 0 net.chips chips board.pals

line-names : (net : Net) (chips : List ChipCells) → IsPalBoard net chips → map (λ (c : ChipLine). c.name) (built_net net chips).chips ≡ map (λ (c : ChipLine). c.name) net.chips
line-names net chips board = map-after (λ (c : ChipLine). c.name) new_chip_line (built_chips net chips) ∙ built-names net chips board

-- as many
same-length : {A B C : Type 0} (f : A → C) (g : B → C) (xs : List A) (ys : List B) → map f xs ≡ map g ys → length xs ≡ length ys
same-length {C = C} f g xs ys e = sym (length-map xs f) ∙ ap (λ (zs : List C). length zs) e ∙ length-map ys g

pub built-count : (net : Net) (chips : List ChipCells) → IsPalBoard net chips → length (built_chips net chips) ≡ length net.chips
built-count net chips board = same-length (λ (f : FittedChip). f.name) (λ (c : ChipLine). c.name) (built_chips net chips) net.chips (built-names net chips board)

-- pins in order

part-behind : {T : Type 0} (same : T → T → Bool) (xs ys zs : List T) → is_part same xs zs ≡ true → is_part same xs (ys ++ zs) ≡ true
part-behind same xs [] zs h = h
part-behind same xs (y ∷ ys) zs h = part-more same xs y (ys ++ zs) (part-behind same xs ys zs h)

part-append : {T : Type 0} (same : T → T → Bool) (xs us ys zs : List T) → is_part same xs ys ≡ true → is_part same us zs ≡ true → is_part same (xs ++ us) (ys ++ zs) ≡ true
part-append same [] us ys zs h k = part-behind same us ys zs k
part-append same (x ∷ xs) us [] zs h k = cc
part-append {T} same (x ∷ xs) us (y ∷ ys) zs h k = at (same x y) h (λ ws p. part-append same ws us ys zs p k)
  where
    at : (t : Bool) → cond t (is_part same xs ys) (is_part same (x ∷ xs) ys) ≡ true → ((ws : List T) → is_part same ws ys ≡ true → is_part same (ws ++ us) (ys ++ zs) ≡ true) →
        cond t (is_part same (xs ++ us) (ys ++ zs)) (is_part same (x ∷ xs ++ us) (ys ++ zs)) ≡ true
    at true p rest = rest xs p
    at false p rest = rest (x ∷ xs) p

pins-part : (b : OldBoard) (j : ℕ) (net_at : ℕ → Option ℕ) (pins : List ℕ) →
    is_part same_place (map (λ (w : PinNet). (j, w.pin)) (filter_map (λ pin. wire_at b pin (net_at pin)) pins)) (map (λ p. (j, p)) pins) ≡ true
pins-part b j net_at [] = refl
pins-part b j net_at (p ∷ ps) = at (net_at p) (pins-part b j net_at ps)
  where
    rest : List PinNet
    rest = filter_map (λ pin. wire_at b pin (net_at pin)) ps

    places : List PinNet → List Place
    places ws = map (λ (w : PinNet). (j, w.pin)) ws

    wired : (n : ℕ) (t : Bool) → is_part same_place (places rest) (map (λ p. (j, p)) ps) ≡ true →
        is_part same_place (places (cons_option (cond t (Some (record { pin = p; net = n })) None) rest)) ((j, p) ∷ map (λ p. (j, p)) ps) ≡ true
    wired n true h =
        ap (λ (t : Bool). cond t (is_part same_place (places rest) (map (λ p. (j, p)) ps)) (is_part same_place ((j, p) ∷ places rest) (map (λ p. (j, p)) ps))) (same-refl places-equal (j, p)) ∙ h
    wired n false h = part-more same_place (places rest) (j, p) (map (λ p. (j, p)) ps) h

    at : (o : Option ℕ) → is_part same_place (places rest) (map (λ p. (j, p)) ps) ≡ true →
        is_part same_place (places (cons_option (wire_at b p o) rest)) ((j, p) ∷ map (λ p. (j, p)) ps) ≡ true
    at None h = part-more same_place (places rest) (j, p) (map (λ p. (j, p)) ps) h
    at (Some n) h = wired n (ltb n (private_from b.net)) h

chips-part : (b : OldBoard) (kept : List ℕ) (j : ℕ) (news : List NewChip) →
    is_part same_place (map place_of (new_pins_from kept j (map (fitted b) news))) (board_places j (map new_chip_line (map (fitted b) news))) ≡ true
chips-part b kept j [] = refl
chips-part b kept j (c ∷ cs) =
    let line = λ (w : PinNet). let l : PinLine = record { chip = j; pin = w.pin; net = new_number kept w.net } in l in
    let rest = new_pins_from kept (j + 1) (map (fitted b) cs) in
    ap (λ (ps : List Place). is_part same_place ps (board_places j (map new_chip_line (map (fitted b) (c ∷ cs)))))
    (map-append place_of (map line (new_wires b c)) rest ∙ ap (λ (ps : List Place). ps ++ map place_of rest) (map-after place_of line (new_wires b c)))
    ∙ part-append same_place (map (λ (w : PinNet). (j, w.pin)) (new_wires b c)) (map place_of rest) (map (λ p. (j, p)) (ordinary_pins c.kind)) (board_places (j + 1) (map new_chip_line (map (fitted b) cs)))
    (pins-part b j (pin_net b c) (ordinary_pins c.kind)) (chips-part b kept (j + 1) cs)

-- each pin line is on a net

wire-is : (b : OldBoard) (pin : ℕ) (o : Option ℕ) (w : PinNet) → wire_at b pin o ≡ Some w → (o ≡ Some w.net) × (w.net < private_from b.net)
wire-is b pin None w e = cc
wire-is b pin (Some n) w e = at (ltb n (private_from b.net)) refl e
  where
    at : (t : Bool) → ltb n (private_from b.net) ≡ t → cond t (Some (record { pin = pin; net = n })) None ≡ Some w → (Some n ≡ Some w.net) × (w.net < private_from b.net)
    at false low e = cc
    at true low e =
        let net : n ≡ w.net = ap (λ (x : PinNet). x.net) (same_Some (record { pin = pin; net = n }) w e) in
        (ap (λ (k : ℕ). Some k) net, subst (λ (k : ℕ). k < private_from b.net) net (ltb-true n (private_from b.net) low))

among-pins : (kept : List ℕ) (j : ℕ) (fs : List FittedChip) (l : PinLine) → Among l (new_pins_from kept j fs) → (f : FittedChip) × Among f fs × ((w : PinNet) × Among w f.wires × (l.net ≡ new_number kept w.net))
among-pins kept j [] l a = absurd a
among-pins kept j (f ∷ fs) l a =
    at (among-split l (map (λ (w : PinNet). record { chip = j; pin = w.pin; net = new_number kept w.net }) f.wires) (new_pins_from kept (j + 1) fs) a) (among-pins kept (j + 1) fs l)
  where
    at : Among l (map (λ (w : PinNet). record { chip = j; pin = w.pin; net = new_number kept w.net }) f.wires) ⊎ Among l (new_pins_from kept (j + 1) fs) →
        (Among l (new_pins_from kept (j + 1) fs) → (g : FittedChip) × Among g fs × ((w : PinNet) × Among w g.wires × (l.net ≡ new_number kept w.net))) →
        (g : FittedChip) × Among g (f ∷ fs) × ((w : PinNet) × Among w g.wires × (l.net ≡ new_number kept w.net))
    at (inl h) rest =
        let w = among-map (λ (w : PinNet). record { chip = j; pin = w.pin; net = new_number kept w.net }) l f.wires h in
        (f, inl refl, (w.0, w.1, ap (λ (l : PinLine). l.net) w.2))
    at (inr h) rest = let r = rest h in (r.0, inr r.1, r.2)

line-below : (net : Net) (chips : List ChipCells) → IsPalBoard net chips → (l : PinLine) → Among l (built_net net chips).pins → l.net < private_from (built_net net chips)
line-below net chips board l a =
    let b = board_of net (units_from 0 chips) in
    let news = same_chips net chips in
    let at = among-pins (kept_of b news) 0 (map (fitted b) news) l a in
    let chip = among-map (fitted b) at.0 news at.1 in
    let place = get-among chip.0 news chip.1 in
    let w = at.2 in
    let wire : Among w.0 (new_wires b chip.0) = subst (λ (f : FittedChip). Among w.0 f.wires) chip.2 w.1 in
    let pin = among-unfilter_map (λ pin. wire_at b pin (pin_net b chip.0 pin)) w.0 (ordinary_pins chip.0.kind) wire in
    let on = wire-is b pin.0 (pin_net b chip.0 pin.0) w.0 pin.2 in
    let numbered = (kept-numbers b news).wired place.0 chip.0 pin.0 w.0.net place.1 pin.1 on.0 on.1 in
    subst (λ (k : ℕ). k < private_from (rebuilt_net b news)) (sym w.2) numbered.below

names-count : (nets : List NetLine) → length (net_names nets) ≡ 2 + length nets
names-count nets = let count : length (map (λ (l : NetLine). l.name) nets) ≡ length nets = length-map nets (λ (l : NetLine). l.name) in omega arith

-- the wiring of the built board has a text, where that of the old one has one
pub board-writable : (net : Net) (chips : List ChipCells) → IsPalBoard net chips → IsWritable net → IsWritable (built_net net chips)
board-writable net chips board w = record {
  few_nets = let few = nets-few b news in let old = w.few_nets in omega arith;
  few_chips =
      let count : length (built_net net chips).chips ≡ length net.chips = same-length (λ (c : ChipLine). c.name) (λ (c : ChipLine). c.name) (built_net net chips).chips net.chips (line-names net chips board) in
      let few = w.few_chips in
      omega arith;
  named_nets = nets-named b news (λ l. is_name l.name) w.named_nets;
  named_chips =
      all-after is_name (λ (c : ChipLine). c.name) (built_net net chips).chips ∙ ap (list_all is_name) (line-names net chips board)
      ∙ sym (all-after is_name (λ (c : ChipLine). c.name) net.chips) ∙ w.named_chips;
  distinct_nets = nets-distinct b news w.distinct_nets;
  distinct_chips = subst (λ (names : List (List ℕ)). IsTrue (are_distinct bytes_eq names)) (sym (line-names net chips board)) w.distinct_chips;
  no_input_pulled = nets-named b news (λ l. not (is_pulled l.pull && is_input_port l.port)) w.no_input_pulled;
  pins_in_order = chips-part b (kept_of b news) 0 news;
  pins_on_nets = pass-all (λ (l : PinLine). ltb l.net (length (net_names (built_net net chips).nets))) (built_net net chips).pins (λ l a.
      let below = line-below net chips board l a in
      let count = names-count (built_net net chips).nets in
      lt-ltb l.net (length (net_names (built_net net chips).nets)) (omega arith));
}
  where
    b : OldBoard
    b = board_of net (units_from 0 chips)

    news : List NewChip
    news = same_chips net chips
