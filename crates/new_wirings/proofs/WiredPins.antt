-- The pin lines of new chips: by chip and rising pin, each on a kept net.
use Rattle.std.proofs.Common.{ℕ, ◌≡◌, ◌+◌, ◌-◌, ◌<◌, ◌≤◌, Bool, true, false, not, cond, ◌&&◌, List, [], ◌∷◌, ◌++◌, map, length, Option, Some, refl, sym, ap, ◌∙◌, inl, inr, ◌⊎◌, eqb, eq-eqb, ltb, lt-ltb, le-ltb, ltb-true, arith}
use Rattle.std.specs.List.{list_any, list_all, filter, slice_get}
use Rattle.std.proofs.lemmas.Bool.{and_parts, cases_lt}
use Rattle.std.proofs.lemmas.List.{map-append}
use Rattle.mig_base.specs.declared.nets.Net.{Net}
use Rattle.mig_base.specs.declared.nets.NetLine.{NetLine}
use Rattle.mig_base.specs.declared.nets.PinLine.{PinLine}
use Rattle.mig_base.specs.Among.{Among}
use Rattle.mig_base.specs.DeviceTables.{ordinary_pins}
use Rattle.mig_base.specs.Boards.{places_from, is_port}
use Rattle.mig_base.specs.WrittenBoard.{is_part, Place, same_place, place_of, board_places}
use Rattle.mig_base.proofs.ListLaws.{item-at}
use Rattle.mig_base.proofs.Distinct.{part-more}
use Rattle.mig_base.proofs.Amongs.{among-split, among-left, among-right, among-map, among-any}
use Rattle.new_board.specs.NewChip.{private_from}
use Rattle.new_board.specs.NewFiles.{kept_numbers, new_net, new_number, number_in, new_chip_line, new_pins_from, stands_on}
use Rattle.new_board.specs.declared.types.FittedChip.{FittedChip}
use Rattle.new_board.specs.declared.types.PinNet.{PinNet}
use Rattle.new_board.proofs.Items.{all-pass, among-filter}
use Rattle.new_board.proofs.KeptNets.{get-places, number-below}
use Rattle.new_board.proofs.KeptNumbers.{port_places}
use Rattle.new_wirings.specs.NewWirings.{has_rising_pins, is_on_named_nets}
use Rattle.new_wirings.proofs.KeptLines.{inner_kept, lines-length}

-- maps in turn
pub map-in-turn : {A B C : Type 0} (g : B → C) (f : A → B) (xs : List A) → map g (map f xs) ≡ map (λ x. g (f x)) xs
map-in-turn g f [] = refl
map-in-turn g f (x ∷ xs) = ap (λ rest. g (f x) ∷ rest) (map-in-turn g f xs)

part-behind : {T : Type 0} (same : T → T → Bool) (xs ys zs : List T) → is_part same xs zs ≡ true → is_part same xs (ys ++ zs) ≡ true
part-behind same xs [] zs h = h
part-behind same xs (y ∷ ys) zs h = part-more same xs y (ys ++ zs) (part-behind same xs ys zs h)

part-append : {T : Type 0} (same : T → T → Bool) (xs us ys zs : List T) → is_part same xs ys ≡ true → is_part same us zs ≡ true → is_part same (xs ++ us) (ys ++ zs) ≡ true
part-append same [] us ys zs h k = part-behind same us ys zs k
part-append same (x ∷ xs) us [] zs h k = cc
part-append {T} same (x ∷ xs) us (y ∷ ys) zs h k = at (same x y) h (λ ws p. part-append same ws us ys zs p k)
  where
    at : (t : Bool) → cond t (is_part same xs ys) (is_part same (x ∷ xs) ys) ≡ true → ((ws : List T) → is_part same ws ys ≡ true → is_part same (ws ++ us) (ys ++ zs) ≡ true) →
        cond t (is_part same (xs ++ us) (ys ++ zs)) (is_part same (x ∷ xs ++ us) (ys ++ zs)) ≡ true
    at true p rest = rest xs p
    at false p rest = rest (x ∷ xs) p

-- rising pins of one chip are places in order
part-paired : (j : ℕ) (ps qs : List ℕ) → is_part (λ p q. eqb p q) ps qs ≡ true → is_part same_place (map (λ p. (j, p)) ps) (map (λ q. (j, q)) qs) ≡ true
part-paired j [] qs h = refl
part-paired j (p ∷ ps) [] h = cc
part-paired j (p ∷ ps) (q ∷ qs) h = ap (λ (t : Bool). cond (t && eqb p q) (is_part same_place (map (λ p. (j, p)) ps) (map (λ q. (j, q)) qs)) (is_part same_place (map (λ p. (j, p)) (p ∷ ps)) (map (λ q. (j, q)) qs))) (eq-eqb j j refl)
    ∙ at (eqb p q) h (λ rs r. part-paired j rs qs r)
  where
    at : (t : Bool) → cond t (is_part (λ p q. eqb p q) ps qs) (is_part (λ p q. eqb p q) (p ∷ ps) qs) ≡ true →
        ((rs : List ℕ) → is_part (λ p q. eqb p q) rs qs ≡ true → is_part same_place (map (λ p. (j, p)) rs) (map (λ q. (j, q)) qs) ≡ true) →
        cond t (is_part same_place (map (λ p. (j, p)) ps) (map (λ q. (j, q)) qs)) (is_part same_place (map (λ p. (j, p)) (p ∷ ps)) (map (λ q. (j, q)) qs)) ≡ true
    at true e rest = rest ps e
    at false e rest = rest (p ∷ ps) e

pub pins-rise : (kept : List ℕ) (j : ℕ) (chips : List FittedChip) → list_all has_rising_pins chips ≡ true →
    is_part same_place (map place_of (new_pins_from kept j chips)) (board_places j (map new_chip_line chips)) ≡ true
pins-rise kept j [] h = refl
pins-rise kept j (f ∷ fs) h =
    let line = λ (w : PinNet). let l : PinLine = record { chip = j; pin = w.pin; net = new_number kept w.net } in l in
    let rest = new_pins_from kept (j + 1) fs in
    let parts = and_parts (has_rising_pins f) (list_all has_rising_pins fs) h in
    let pins = map (λ (w : PinNet). w.pin) f.wires in
    ap (λ (ps : List Place). is_part same_place ps (board_places j (map new_chip_line (f ∷ fs))))
    (map-append place_of (map line f.wires) rest
    ∙ ap (λ (ps : List Place). ps ++ map place_of rest) (map-in-turn place_of line f.wires ∙ sym (map-in-turn (λ p. (j, p)) (λ (w : PinNet). w.pin) f.wires)))
    ∙ part-append same_place (map (λ p. (j, p)) pins) (map place_of rest) (map (λ p. (j, p)) (ordinary_pins f.cells.kind)) (board_places (j + 1) (map new_chip_line fs))
    (part-paired j pins (ordinary_pins f.cells.kind) parts.0) (pins-rise kept (j + 1) fs parts.1)

among-pins : (kept : List ℕ) (j : ℕ) (fs : List FittedChip) (l : PinLine) → Among l (new_pins_from kept j fs) → (f : FittedChip) × Among f fs × ((w : PinNet) × Among w f.wires × (l.net ≡ new_number kept w.net))
among-pins kept j [] l a = absurd a
among-pins kept j (f ∷ fs) l a =
    at (among-split l (map (λ (w : PinNet). record { chip = j; pin = w.pin; net = new_number kept w.net }) f.wires) (new_pins_from kept (j + 1) fs) a) (among-pins kept (j + 1) fs l)
  where
    at : Among l (map (λ (w : PinNet). record { chip = j; pin = w.pin; net = new_number kept w.net }) f.wires) ⊎ Among l (new_pins_from kept (j + 1) fs) →
        (Among l (new_pins_from kept (j + 1) fs) → (g : FittedChip) × Among g fs × ((w : PinNet) × Among w g.wires × (l.net ≡ new_number kept w.net))) →
        (g : FittedChip) × Among g (f ∷ fs) × ((w : PinNet) × Among w g.wires × (l.net ≡ new_number kept w.net))
    at (inl h) rest =
        let w = among-map (λ (w : PinNet). record { chip = j; pin = w.pin; net = new_number kept w.net }) l f.wires h in
        (f, inl refl, (w.0, w.1, ap (λ (l : PinLine). l.net) w.2))
    at (inr h) rest = let r = rest h in (r.0, inr r.1, r.2)

-- a named net on which a pin of a new chip stands is kept
wire-kept : (net : Net) (chips : List FittedChip) (f : FittedChip) (w : PinNet) → Among f chips → Among w f.wires → w.net < private_from net → 2 ≤ w.net → Among w.net (kept_numbers net chips)
wire-kept net chips f w chip wire low named = at (is_port line.0) refl
  where
    n : ℕ
    n = w.net

    line : (l : NetLine) × (slice_get net.nets (w.net - 2) ≡ Some l)
    line = item-at net.nets (w.net - 2) (omega arith)

    number : w.net ≡ 2 + (w.net - 2)
    number = omega arith

    stands : list_any (stands_on w.net) chips ≡ true
    stands = among-any (stands_on w.net) f chips chip (among-any (λ (v : PinNet). eqb v.net w.net) w f.wires wire (eq-eqb w.net w.net refl))

    at : (q : Bool) → is_port line.0 ≡ q → Among w.net (kept_numbers net chips)
    at true e = among-left w.net (port_places net) (inner_kept net chips) (get-places is_port 2 (w.net - 2) w.net net.nets line.0 line.1 e number)
    at false e = among-right w.net (port_places net) (inner_kept net chips)
        (among-filter (λ n. list_any (stands_on n) chips) w.net (places_from (λ l. not (is_port l)) 2 net.nets)
        (get-places (λ l. not (is_port l)) 2 (w.net - 2) w.net net.nets line.0 line.1 (ap (λ (q : Bool). not q) e) number) stands)

number-low : (net : Net) (chips : List FittedChip) (f : FittedChip) (w : PinNet) → Among f chips → Among w f.wires → w.net < private_from net → new_number (kept_numbers net chips) w.net < private_from (new_net net chips)
number-low net chips f w chip wire low = at (cases_lt w.net 2)
  where
    at : (w.net < 2) ⊎ (2 ≤ w.net) → new_number (kept_numbers net chips) w.net < private_from (new_net net chips)
    at (inl h) =
        let same : new_number (kept_numbers net chips) w.net ≡ w.net = ap (λ (q : Bool). cond q w.net (2 + number_in (kept_numbers net chips) w.net)) (lt-ltb w.net 2 h) in
        omega arith
    at (inr h) =
        let kept = kept_numbers net chips in
        let k : number_in kept w.net < length kept = number-below kept w.net (wire-kept net chips f w chip wire low h) in
        let long : length (new_net net chips).nets ≡ length kept = lines-length net chips in
        let new : new_number kept w.net ≡ 2 + number_in kept w.net = ap (λ (q : Bool). cond q w.net (2 + number_in kept w.net)) (le-ltb w.net 2 h) in
        omega arith

pub pins-low : (net : Net) (chips : List FittedChip) → list_all (is_on_named_nets net) chips ≡ true → (l : PinLine) → Among l (new_net net chips).pins → l.net < private_from (new_net net chips)
pins-low net chips h l a =
    let at = among-pins (kept_numbers net chips) 0 chips l a in
    let w = at.2 in
    let on = all-pass (is_on_named_nets net) at.0 chips h at.1 in
    let low = ltb-true w.0.net (private_from net) (all-pass (λ (v : PinNet). ltb v.net (private_from net)) w.0 at.0.wires on w.1) in
    let below = number-low net chips at.0 w.0 at.1 w.1 low in
    let is = w.2 in
    omega arith
