-- Each pin of a board stands on a net of it, and each register has its number.
use Rattle.std.proofs.Common.{ℕ, suc, ◌≡◌, ◌+◌, ◌<◌, Bool, true, false, cond, List, [], ◌∷◌, ◌++◌, map, length, Option, Some, None, refl, sym, ap, ◌∙◌, inl, inr, arith}
use Rattle.std.specs.List.{slice_get, AllByRecursion}
use Rattle.std.specs.Option.{option_map}
use Rattle.std.proofs.lemmas.Option.{slice_get_within}
use Rattle.std.proofs.lemmas.List.{length-append, length-map}
use Rattle.mig_base.specs.declared.nets.Net.{Net}
use Rattle.mig_base.specs.declared.circuit.Wire.{Wire}
use Rattle.mig_base.specs.Among.{Among}
use Rattle.mig_base.specs.Boards.{At, same_at, place_of, line_at, pins_from, privates, net_of, ChipUnit, at_of, is_registered, registers_of, kinds_from, kinds_of, circuit_on}
use Rattle.mig_base.proofs.ListLaws.{item-at}
use Rattle.mig_base.proofs.PlaceLaws.{length-kinds_from}
use Rattle.new_board.specs.NewChip.{private_from}
use Rattle.new_board.proofs.Wiring.{inner_kind, wire_of, net-line, net-private, among-privates, LinesFit, place-get, at-same, same-at}
use Rattle.rebuilt_boards.proofs.RebuiltCircuit.{old-wire}
use Rattle.rebuilt_boards.proofs.Placing.{IsElsewhere, AreApart}
use Rattle.new_board.proofs.Items.{all-filter}

length-kinds : (net : Net) → length (kinds_of net) ≡ private_from net + length (privates net)
length-kinds net =
    let joined : length (kinds_from 0 net.nets ++ map inner_kind (privates net)) ≡ length (kinds_from 0 net.nets) + length (map inner_kind (privates net)) = length-append (kinds_from 0 net.nets) (map inner_kind (privates net)) in
    let named : length (kinds_from 0 net.nets) ≡ length net.nets = length-kinds_from 0 net.nets in
    let others : length (map inner_kind (privates net)) ≡ length (privates net) = length-map (privates net) inner_kind in
    omega arith

-- the net of a pin is one of the board
pub net-within : (net : Net) (units : List ChipUnit) (q : At) → LinesFit net → Among q (pins_from 0 net.chips) → (w : Wire) × (slice_get (circuit_on net units).nets (net_of net q) ≡ Some w)
net-within net units q fit a =
    let kind = item-at (kinds_of net) (net_of net q) (below (line_at net.pins q) refl) in
    (wire_of net units (net_of net q) kind.0, old-wire net units (net_of net q) ∙ ap (option_map (wire_of net units (net_of net q))) kind.1)
  where
    below : (o : Option ℕ) → line_at net.pins q ≡ o → net_of net q < length (kinds_of net)
    below (Some n) e =
        let low : n < private_from net = fit.within q n e in
        let is : net_of net q ≡ n = net-line net q n e in
        let long : length (kinds_of net) ≡ private_from net + length (privates net) = length-kinds net in
        omega arith
    below None e =
        let is : net_of net q ≡ private_from net + place_of q (privates net) = net-private net q e in
        let place : place_of q (privates net) < length (privates net) = slice_get_within (privates net) (place_of q (privates net)) q (place-get q (privates net) (among-privates net q a e)) in
        let long : length (kinds_of net) ≡ private_from net + length (privates net) = length-kinds net in
        omega arith

-- the registers of a board have different pins
pub registers-apart : (us : List ChipUnit) → AreApart us → AreApart (registers_of us)
registers-apart [] h = tt
registers-apart (u ∷ us) h = at (is_registered u) (registers-apart us h.1)
  where
    at : (q : Bool) → AreApart (registers_of us) → AreApart (cond q (u ∷ registers_of us) (registers_of us))
    at true rest = (all-filter (IsElsewhere (at_of u)) is_registered us h.0, rest)
    at false rest = rest

-- a unit by the place of its pin
pub unit-place : (us : List ChipUnit) (u : ChipUnit) → AreApart us → Among u us → slice_get us (place_of (at_of u) (map at_of us)) ≡ Some u
unit-place [] u h a = absurd a
unit-place (x ∷ xs) u h (inl e) =
    ap (λ (q : Bool). slice_get (x ∷ xs) (cond q 0 (place_of (at_of u) (map at_of xs) + 1))) (ap (λ (w : ChipUnit). same_at (at_of u) (at_of w)) (sym e) ∙ same-at (at_of u)) ∙ ap (λ (w : ChipUnit). Some w) (sym e)
unit-place (x ∷ xs) u h (inr a) =
    let next : place_of (at_of u) (map at_of xs) + 1 ≡ suc (place_of (at_of u) (map at_of xs)) = omega arith in
    ap (λ (q : Bool). slice_get (x ∷ xs) (cond q 0 (place_of (at_of u) (map at_of xs) + 1))) (other (same_at (at_of u) (at_of x)) refl)
    ∙ ap (slice_get (x ∷ xs)) next ∙ unit-place xs u h.1 a
  where
    elsewhere : (ys : List ChipUnit) → AllByRecursion (IsElsewhere (at_of x)) ys → Among u ys → at_of u ≡ at_of x → ⊥
    elsewhere [] g c = absurd c
    elsewhere (y ∷ ys) g (inl e) = λ same. g.0 (ap at_of (sym e) ∙ same)
    elsewhere (y ∷ ys) g (inr c) = elsewhere ys g.1 c

    other : (q : Bool) → same_at (at_of u) (at_of x) ≡ q → q ≡ false
    other true e = absurd (elsewhere xs h.0 a (at-same (at_of u) (at_of x) e))
    other false e = refl
