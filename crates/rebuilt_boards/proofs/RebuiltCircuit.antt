-- The nets of a rebuilt board: each pin of a new chip stands on a net that has the kind and the drivers of its old net.
use Rattle.std.proofs.Common.{ℕ, ◌≡◌, ◌+◌, ◌-◌, ◌<◌, ◌≤◌, Bool, true, cond, ◌&&◌, List, [], ◌∷◌, map, length, Option, Some, None, refl, sym, ap, ◌∙◌, subst, inl, inr, ◌⊎◌, eqb, eqb-true, eq-eqb, ne_eqb, ltb, lt-ltb, le-ltb, arith}
use Rattle.std.specs.Prelude.{option_and_then}
use Rattle.std.specs.List.{slice_get}
use Rattle.std.specs.Option.{option_map}
use Rattle.std.proofs.lemmas.Bool.{cases_lt, cases_eq}
use Rattle.std.proofs.lemmas.Option.{same_Some, slice_get-map, none-some}
use Rattle.mig_base.specs.First.{or_else}
use Rattle.mig_base.specs.Structure.{has_no_driver}
use Rattle.mig_base.specs.declared.kinds.Kind.TheVariants.{Gal16V8}
use Rattle.mig_base.specs.declared.kinds.Mode.TheVariants.{Complex}
use Rattle.mig_base.specs.declared.nets.Net.{Net}
use Rattle.mig_base.specs.declared.nets.Pull.{Pull}
use Rattle.mig_base.specs.declared.nets.Pull.TheVariants as pull
use Rattle.mig_base.specs.declared.circuit.Wire.{Wire}
use Rattle.mig_base.specs.declared.circuit.NetKind.{NetKind}
use Rattle.mig_base.specs.declared.circuit.NetKind.TheVariants.{Inner}
use Rattle.mig_base.specs.declared.circuit.Circuit.{Circuit}
use Rattle.mig_base.specs.Among.{Among}
use Rattle.mig_base.specs.DeviceTables.{ordinary_pins}
use Rattle.mig_base.specs.Boards.{At, place_of, line_at, pins_from, privates, net_of, ChipUnit, at_of, places_from, kinds_of, can_drive, driver_of, drives, circuit_on}
use Rattle.mig_base.proofs.Amongs.{among-get, among-map}
use Rattle.new_board.specs.NewChip.{OldBoard, NewChip, private_from, unit_on, unit_net, unit_net_of}
use Rattle.new_board.specs.InputPins.{pin_net}
use Rattle.new_board.specs.NewFiles.{new_cell, new_cells, fitted, wire_at, new_wires, new_number, new_chip_line}
use Rattle.new_board.specs.declared.types.PlacedUnit.{PlacedUnit}
use Rattle.new_board.specs.OneForOne.{old_rows}
use Rattle.rebuilt_boards.proofs.OldRows.{old-unit}
use Rattle.new_board.proofs.NewWiring.{rebuilt_net, kept_of, cell-pin, NumbersFit}
use Rattle.new_board.proofs.Items.{get-among}
use Rattle.new_board.proofs.Wiring.{wire_of, wires-get, inner_kind, kinds-private, net-line, net-private, among-privates, LinesFit, private-none, private-own, wire_on, new-line, wire-some, wire-none, among-pins, place-get, place-apart, places-same, places-none}

-- the board of a wiring and units
abbrev pub board_of : Net → List ChipUnit → OldBoard
board_of net units = record { net = net; units = units; circuit = circuit_on net units }

abbrev or_no_chip : Option NewChip → NewChip
or_no_chip None = record { name = []; kind = Gal16V8; mode = Complex; units = [] }
or_no_chip (Some chip) = chip

abbrev pub chip_at : List NewChip → ℕ → NewChip
chip_at news j = or_no_chip (slice_get news j)

pub chip-at : (news : List NewChip) (j : ℕ) (chip : NewChip) → slice_get news j ≡ Some chip → chip_at news j ≡ chip
chip-at news j chip e = ap or_no_chip e

-- the unit that becomes of a unit
abbrev pub rebuilt_unit : OldBoard → List NewChip → ChipUnit → ChipUnit
rebuilt_unit b news u = record { chip = u.chip; cells = new_cells b (chip_at news u.chip); cell = new_cell b (chip_at news u.chip) u.cell.pin }

abbrev pub rebuilt_units : OldBoard → List NewChip → List ChipUnit
rebuilt_units b news = map (rebuilt_unit b news) b.units

abbrev pub rebuilt_circuit : OldBoard → List NewChip → Circuit
rebuilt_circuit b news = circuit_on (rebuilt_net b news) (rebuilt_units b news)

pub rebuilt-at : (b : OldBoard) (news : List NewChip) (u : ChipUnit) → at_of (rebuilt_unit b news u) ≡ at_of u
rebuilt-at b news u = ap (λ (p : ℕ). (u.chip, p)) (cell-pin b (chip_at news u.chip) u.cell.pin)

-- each unit has its place on a new chip, and drives where it drove
pub record UnitsFit (b : OldBoard) (news : List NewChip) : Type 0 where
  pub lines : LinesFit b.net
  pub circuit_is : b.circuit ≡ circuit_on b.net b.units
  pub chip : (u : ChipUnit) → Among u b.units → slice_get news u.chip ≡ Some (chip_at news u.chip)
  pub on : (i : ℕ) (u : ChipUnit) → slice_get b.units i ≡ Some u → unit_on (chip_at news u.chip).units u.cell.pin ≡ Some (old_rows b.circuit u.cell.pin i)
  pub old_pin : (u : ChipUnit) → Among u b.units → Among (at_of u) (pins_from 0 b.net.chips)
  pub new_pin : (u : ChipUnit) → Among u b.units → Among u.cell.pin (ordinary_pins (chip_at news u.chip).kind)
  pub from : (j : ℕ) (chip : NewChip) (pin : ℕ) (x : PlacedUnit) → slice_get news j ≡ Some chip → unit_on chip.units pin ≡ Some x →
      (u : ChipUnit) × (slice_get b.units x.unit ≡ Some u) × (at_of u ≡ (j, pin))
  pub enabled : (u : ChipUnit) → Among u b.units →
      can_drive (driver_of (rebuilt_net b news) (rebuilt_units b news) (rebuilt_unit b news u)).enable ≡ can_drive (driver_of b.net b.units u).enable
  -- a private net on which a pin without unit stands has no driver
  pub undriven : (j : ℕ) (chip : NewChip) (pin n : ℕ) → slice_get news j ≡ Some chip → unit_on chip.units pin ≡ None → pin_net b chip pin ≡ Some n →
      private_from b.net ≤ n → has_no_driver (slice_get b.circuit.nets n) ≡ true

-- a pin of a new chip, with its old net
pub record IsPin (b : OldBoard) (news : List NewChip) (q : At) (n : ℕ) : Type 0 where
  pub chip : NewChip
  pub chip_is : slice_get news q.0 ≡ Some chip
  pub ordinary : Among q.1 (ordinary_pins chip.kind)
  pub net : pin_net b chip q.1 ≡ Some n

or-first : (o other : Option ℕ) (n : ℕ) → o ≡ Some n → or_else o other ≡ Some n
or-first o other n e = ap (λ (q : Option ℕ). or_else q other) e

pub unit-pin : (b : OldBoard) (news : List NewChip) (i : ℕ) (u : ChipUnit) → UnitsFit b news → slice_get b.units i ≡ Some u → IsPin b news (at_of u) (net_of b.net (at_of u))
unit-pin b news i u fit e =
    let a : Among u b.units = among-get b.units i u e in
    let chip = chip_at news u.chip in
    record {
      chip = chip;
      chip_is = fit.chip u a;
      ordinary = fit.new_pin u a;
      net = or-first _ _ (net_of b.net (at_of u)) (or-first _ _ (net_of b.net (at_of u)) (ap (option_and_then (λ (x : PlacedUnit). unit_net b x.unit)) (fit.on i u e) ∙ ap (unit_net b) (old-unit b.circuit u.cell.pin i) ∙ ap (unit_net_of b) e));
    }

fitted-get : (b : OldBoard) (news : List NewChip) (j : ℕ) (chip : NewChip) → slice_get news j ≡ Some chip → slice_get (map (fitted b) news) j ≡ Some (fitted b chip)
fitted-get b news j chip e = slice_get-map (fitted b) news j ∙ ap (option_map (fitted b)) e

-- the line of such a pin
pin-line : (b : OldBoard) (news : List NewChip) (q : At) (n : ℕ) (p : IsPin b news q n) →
    line_at (rebuilt_net b news).pins q ≡ option_map (new_number (kept_of b news)) (wire_on (new_wires b p.chip) q.1)
pin-line b news q n p = new-line (kept_of b news) 0 q.0 q.0 (map (fitted b) news) (fitted b p.chip) q.1 (fitted-get b news q.0 p.chip p.chip_is) (omega arith)

pub named-net : (b : OldBoard) (news : List NewChip) (q : At) (n : ℕ) → IsPin b news q n → n < private_from b.net →
    net_of (rebuilt_net b news) q ≡ new_number (kept_of b news) n
named-net b news q n p h = net-line (rebuilt_net b news) q (new_number (kept_of b news) n)
    (pin-line b news q n p ∙ ap (option_map (new_number (kept_of b news))) (wire-some b (pin_net b p.chip) (ordinary_pins p.chip.kind) q.1 n p.ordinary p.net h))

private-line : (b : OldBoard) (news : List NewChip) (q : At) (n : ℕ) → IsPin b news q n → private_from b.net ≤ n → line_at (rebuilt_net b news).pins q ≡ None
private-line b news q n p h =
    pin-line b news q n p
    ∙ ap (option_map (new_number (kept_of b news))) (wire-none b (pin_net b p.chip) (ordinary_pins p.chip.kind) q.1
    (ap (wire_at b q.1) p.net ∙ ap (λ (t : Bool). cond t (Some (record { pin = q.1; net = n })) None) (le-ltb n (private_from b.net) h)))

pin-among : (b : OldBoard) (news : List NewChip) (q : At) (n : ℕ) → IsPin b news q n → Among q (pins_from 0 (rebuilt_net b news).chips)
pin-among b news q n p = among-pins 0 q.0 q.0 (map new_chip_line (map (fitted b) news)) (new_chip_line (fitted b p.chip)) q.1
    (slice_get-map new_chip_line (map (fitted b) news) q.0 ∙ ap (option_map new_chip_line) (fitted-get b news q.0 p.chip p.chip_is)) (omega arith) p.ordinary

private-place : (b : OldBoard) (news : List NewChip) (q : At) (n : ℕ) → IsPin b news q n → private_from b.net ≤ n →
    net_of (rebuilt_net b news) q ≡ private_from (rebuilt_net b news) + place_of q (privates (rebuilt_net b news))
private-place b news q n p h = net-private (rebuilt_net b news) q (private-line b news q n p h)

pin-private : (b : OldBoard) (news : List NewChip) (q : At) (n : ℕ) → IsPin b news q n → private_from b.net ≤ n → Among q (privates (rebuilt_net b news))
pin-private b news q n p h = among-privates (rebuilt_net b news) q (pin-among b news q n p) (private-line b news q n p h)

-- the old net of a net of the new board

abbrev or_zero : Option ℕ → ℕ
or_zero None = 0
or_zero (Some n) = n

abbrev old_private : OldBoard → List NewChip → Option At → ℕ
old_private b news None = 0
old_private b news (Some q) = or_zero (pin_net b (chip_at news q.0) q.1)

abbrev pub old_net : OldBoard → List NewChip → (ℕ → ℕ) → ℕ → ℕ
old_net b news old n = cond (ltb n (private_from (rebuilt_net b news))) (old n) (old_private b news (slice_get (privates (rebuilt_net b news)) (n - private_from (rebuilt_net b news))))

pub old-named : (b : OldBoard) (news : List NewChip) (old : ℕ → ℕ) (n : ℕ) → n < private_from (rebuilt_net b news) → old_net b news old n ≡ old n
old-named b news old n h = ap (λ (t : Bool). cond t (old n) (old_private b news (slice_get (privates (rebuilt_net b news)) (n - private_from (rebuilt_net b news))))) (lt-ltb n (private_from (rebuilt_net b news)) h)

-- a pin of the new board stands on a net whose old net is its own
pub pin-old : (b : OldBoard) (news : List NewChip) (old : ℕ → ℕ) (q : At) (n : ℕ) → NumbersFit b news old → IsPin b news q n → old_net b news old (net_of (rebuilt_net b news) q) ≡ n
pin-old b news old q n fit p = at (cases_lt n (private_from b.net))
  where
    at : (n < private_from b.net) ⊎ (private_from b.net ≤ n) → old_net b news old (net_of (rebuilt_net b news) q) ≡ n
    at (inl low) =
        let numbered = fit.wired q.0 p.chip q.1 n p.chip_is p.ordinary p.net low in
        ap (old_net b news old) (named-net b news q n p low) ∙ old-named b news old (new_number (kept_of b news) n) numbered.below ∙ numbered.back
    at (inr high) =
        let place = place_of q (privates (rebuilt_net b news)) in
        let start = private_from (rebuilt_net b news) in
        let back : start + place - start ≡ place = omega arith in
        let above : start ≤ start + place = omega arith in
        ap (old_net b news old) (private-place b news q n p high)
        ∙ ap (λ (t : Bool). cond t (old (start + place)) (old_private b news (slice_get (privates (rebuilt_net b news)) (start + place - start)))) (le-ltb (start + place) start above)
        ∙ ap (λ (k : ℕ). old_private b news (slice_get (privates (rebuilt_net b news)) k)) back
        ∙ ap (old_private b news) (place-get q (privates (rebuilt_net b news)) (pin-private b news q n p high))
        ∙ ap (λ (c : NewChip). or_zero (pin_net b c q.1)) (chip-at news q.0 p.chip p.chip_is)
        ∙ ap or_zero p.net

eqb-same : (n m i k : ℕ) → (n ≡ m → i ≡ k) → (i ≡ k → n ≡ m) → eqb n m ≡ eqb i k
eqb-same n m i k f g = at (cases_eq n m)
  where
    at : (n ≡ m) ⊎ (n ≡ m → ⊥) → eqb n m ≡ eqb i k
    at (inl e) = eq-eqb n m e ∙ sym (eq-eqb i k (f e))
    at (inr ne) = ne_eqb n m ne ∙ sym (ne_eqb i k (λ e. ne (g e)))

-- a unit drives a net of the new board where it drives its old net, if it stands there where it stood here
rebuilt-drives : (b : OldBoard) (news : List NewChip) (n m : ℕ) (u : ChipUnit) → UnitsFit b news → Among u b.units →
    eqb (net_of (rebuilt_net b news) (at_of u)) n ≡ eqb (net_of b.net (at_of u)) m →
    drives (rebuilt_net b news) (rebuilt_units b news) n (rebuilt_unit b news u) ≡ drives b.net b.units m u
rebuilt-drives b news n m u fit a e =
    ap (λ (q : At). eqb (net_of (rebuilt_net b news) q) n && can_drive (driver_of (rebuilt_net b news) (rebuilt_units b news) (rebuilt_unit b news u)).enable) (rebuilt-at b news u)
    ∙ ap (λ (t : Bool). t && can_drive (driver_of (rebuilt_net b news) (rebuilt_units b news) (rebuilt_unit b news u)).enable) e
    ∙ ap (λ (t : Bool). eqb (net_of b.net (at_of u)) m && t) (fit.enabled u a)

-- where a unit stands on a constant or a named net
named-stands : (b : OldBoard) (news : List NewChip) (old : ℕ → ℕ) (n : ℕ) (u : ChipUnit) → NumbersFit b news old → UnitsFit b news → Among u b.units →
    n < private_from (rebuilt_net b news) → eqb (net_of (rebuilt_net b news) (at_of u)) n ≡ eqb (net_of b.net (at_of u)) (old n)
named-stands b news old n u numbers fit a h = at (cases_lt m (private_from b.net))
  where
    m : ℕ
    m = net_of b.net (at_of u)

    m' : ℕ
    m' = net_of (rebuilt_net b news) (at_of u)

    pin : IsPin b news (at_of u) m
    pin = let i = get-among u b.units a in unit-pin b news i.0 u fit i.1

    at : (m < private_from b.net) ⊎ (private_from b.net ≤ m) → eqb m' n ≡ eqb m (old n)
    at (inl low) =
        let numbered = numbers.wired (at_of u).0 pin.chip (at_of u).1 m pin.chip_is pin.ordinary pin.net low in
        let is : m' ≡ new_number (kept_of b news) m = named-net b news (at_of u) m pin low in
        let below : m' < private_from (rebuilt_net b news) = subst (λ (k : ℕ). k < private_from (rebuilt_net b news)) (sym is) numbered.below in
        let back : old m' ≡ m = ap old is ∙ numbered.back in
        eqb-same m' n m (old n) (λ e. sym back ∙ ap old e) (λ e. numbers.apart m' n below h (back ∙ e))
    at (inr high) =
        let is : m' ≡ private_from (rebuilt_net b news) + place_of (at_of u) (privates (rebuilt_net b news)) = private-place b news (at_of u) m pin high in
        let within : old n < private_from b.net = numbers.within n h in
        eqb-same m' n m (old n) (λ e. absurd (omega arith)) (λ e. absurd (omega arith))

-- the wires of both boards

pub old-wire : (net : Net) (units : List ChipUnit) (n : ℕ) → slice_get (circuit_on net units).nets n ≡ option_map (wire_of net units n) (slice_get (kinds_of net) n)
old-wire net units n = wires-get net units 0 (kinds_of net) n ∙ ap (λ (k : ℕ). option_map (wire_of net units k) (slice_get (kinds_of net) n)) (omega arith)

with_drivers : Option (NetKind × Pull) → List ℕ → Option Wire
with_drivers k drivers = option_map (λ k. record { kind = k.0; pull = k.1; drivers = drivers }) k

-- a constant or a named net of the new board has the wire of its old net
pub named-wire : (b : OldBoard) (news : List NewChip) (old : ℕ → ℕ) (n : ℕ) → NumbersFit b news old → UnitsFit b news → n < private_from (rebuilt_net b news) →
    slice_get (rebuilt_circuit b news).nets n ≡ slice_get b.circuit.nets (old n)
unfolding with_drivers
named-wire b news old n numbers fit h =
    old-wire (rebuilt_net b news) (rebuilt_units b news) n
    ∙ ap (λ (k : Option (NetKind × Pull)). with_drivers k (places_from (drives (rebuilt_net b news) (rebuilt_units b news) n) 0 (rebuilt_units b news))) (numbers.kinds n h)
    ∙ ap (with_drivers (slice_get (kinds_of b.net) (old n)))
    (places-same (drives (rebuilt_net b news) (rebuilt_units b news) n) (drives b.net b.units (old n)) (rebuilt_unit b news) 0 b.units
    (λ u a. rebuilt-drives b news n (old n) u fit a (named-stands b news old n u numbers fit a h)))
    ∙ sym (old-wire b.net b.units (old n))
    ∙ ap (λ (c : Circuit). slice_get c.nets (old n)) (sym fit.circuit_is)

pin-unique : (b : OldBoard) (news : List NewChip) (q : At) (n m : ℕ) → IsPin b news q n → IsPin b news q m → n ≡ m
pin-unique b news q n m p r =
    let chips : p.chip ≡ r.chip = same_Some p.chip r.chip (sym p.chip_is ∙ r.chip_is) in
    same_Some n m (sym p.net ∙ ap (λ (c : NewChip). pin_net b c q.1) chips ∙ r.net)

-- a unit that stands on the private net of a pin of the new board has that pin
private-unit : (b : OldBoard) (news : List NewChip) (old : ℕ → ℕ) (q : At) (n : ℕ) (u : ChipUnit) → NumbersFit b news old → UnitsFit b news → IsPin b news q n → private_from b.net ≤ n →
    Among u b.units → net_of (rebuilt_net b news) (at_of u) ≡ net_of (rebuilt_net b news) q → at_of u ≡ q
private-unit b news old q n u numbers fit p high a e = at (cases_lt m (private_from b.net))
  where
    m : ℕ
    m = net_of b.net (at_of u)

    pin : IsPin b news (at_of u) m
    pin = let i = get-among u b.units a in unit-pin b news i.0 u fit i.1

    at : (m < private_from b.net) ⊎ (private_from b.net ≤ m) → at_of u ≡ q
    at (inl low) =
        let below : new_number (kept_of b news) m < private_from (rebuilt_net b news) = (numbers.wired (at_of u).0 pin.chip (at_of u).1 m pin.chip_is pin.ordinary pin.net low).below in
        let there : net_of (rebuilt_net b news) q ≡ private_from (rebuilt_net b news) + place_of q (privates (rebuilt_net b news)) = private-place b news q n p high in
        let is : net_of (rebuilt_net b news) (at_of u) ≡ new_number (kept_of b news) m = named-net b news (at_of u) m pin low in
        absurd (omega arith)
    at (inr above) =
        let there : net_of (rebuilt_net b news) q ≡ private_from (rebuilt_net b news) + place_of q (privates (rebuilt_net b news)) = private-place b news q n p high in
        let is : net_of (rebuilt_net b news) (at_of u) ≡ private_from (rebuilt_net b news) + place_of (at_of u) (privates (rebuilt_net b news)) = private-place b news (at_of u) m pin above in
        place-apart (at_of u) q (privates (rebuilt_net b news)) (pin-private b news (at_of u) m pin above) (pin-private b news q n p high) (omega arith)

-- the drivers of the private net of a pin with a unit
unit-private : (b : OldBoard) (news : List NewChip) (q : At) (n : ℕ) (x : PlacedUnit) (fit : UnitsFit b news) (p : IsPin b news q n) → unit_on p.chip.units q.1 ≡ Some x → (n ≡ net_of b.net q) × Among q (pins_from 0 b.net.chips)
unit-private b news q n x fit p e =
    let u = fit.from q.0 p.chip q.1 x p.chip_is e in
    let pin : IsPin b news q (net_of b.net q) = subst (λ (r : At). IsPin b news r (net_of b.net r)) u.2 (unit-pin b news x.unit u.0 fit u.1) in
    (pin-unique b news q n (net_of b.net q) p pin, subst (λ (r : At). Among r (pins_from 0 b.net.chips)) u.2 (fit.old_pin u.0 (among-get b.units x.unit u.0 u.1)))

-- its drivers are those of its old net
private-drivers : (b : OldBoard) (news : List NewChip) (old : ℕ → ℕ) (q : At) (n : ℕ) (x : PlacedUnit) → NumbersFit b news old → UnitsFit b news → (p : IsPin b news q n) → private_from b.net ≤ n →
    unit_on p.chip.units q.1 ≡ Some x →
    places_from (drives (rebuilt_net b news) (rebuilt_units b news) (net_of (rebuilt_net b news) q)) 0 (rebuilt_units b news) ≡ places_from (drives b.net b.units n) 0 b.units
private-drivers b news old q n x numbers fit p high e =
    places-same (drives (rebuilt_net b news) (rebuilt_units b news) (net_of (rebuilt_net b news) q)) (drives b.net b.units n) (rebuilt_unit b news) 0 b.units
    (λ u a. rebuilt-drives b news (net_of (rebuilt_net b news) q) n u fit a
    (eqb-same (net_of (rebuilt_net b news) (at_of u)) (net_of (rebuilt_net b news) q) (net_of b.net (at_of u)) n
    (λ same. ap (net_of b.net) (private-unit b news old q n u numbers fit p high a same) ∙ sym own.0)
    (λ same. ap (net_of (rebuilt_net b news)) (private-own b.net q (at_of u) fit.lines own.1 (fit.old_pin u a) (subst (λ (k : ℕ). private_from b.net ≤ k) own.0 high) (same ∙ own.0)))))
  where
    own : (n ≡ net_of b.net q) × Among q (pins_from 0 b.net.chips)
    own = unit-private b news q n x fit p e

private-undriven : (b : OldBoard) (news : List NewChip) (old : ℕ → ℕ) (q : At) (n : ℕ) → NumbersFit b news old → UnitsFit b news → (p : IsPin b news q n) → private_from b.net ≤ n →
    unit_on p.chip.units q.1 ≡ None →
    places_from (drives (rebuilt_net b news) (rebuilt_units b news) (net_of (rebuilt_net b news) q)) 0 (rebuilt_units b news) ≡ []
private-undriven b news old q n numbers fit p high none =
    places-none (drives (rebuilt_net b news) (rebuilt_units b news) (net_of (rebuilt_net b news) q)) 0 (rebuilt_units b news)
    (λ x a. let u = among-map (rebuilt_unit b news) x b.units a in
    ap (drives (rebuilt_net b news) (rebuilt_units b news) (net_of (rebuilt_net b news) q)) u.2
    ∙ ap (λ (t : Bool). t && can_drive (driver_of (rebuilt_net b news) (rebuilt_units b news) (rebuilt_unit b news u.0)).enable)
    (ap (λ (r : At). eqb (net_of (rebuilt_net b news) r) (net_of (rebuilt_net b news) q)) (rebuilt-at b news u.0)
    ∙ ne_eqb (net_of (rebuilt_net b news) (at_of u.0)) (net_of (rebuilt_net b news) q)
    (λ same. elsewhere u.0 u.1 (private-unit b news old q n u.0 numbers fit p high u.1 same))))
  where
    elsewhere : (u : ChipUnit) → Among u b.units → at_of u ≡ q → ⊥
    elsewhere u a same =
        let i = get-among u b.units a in
        let chips : chip_at news u.chip ≡ p.chip = ap (λ (r : At). chip_at news r.0) same ∙ chip-at news q.0 p.chip p.chip_is in
        let found : unit_on p.chip.units q.1 ≡ Some (old_rows b.circuit u.cell.pin i.0) = ap (λ (c : NewChip). unit_on c.units q.1) (sym chips) ∙ ap (λ (r : At). unit_on (chip_at news u.chip).units r.1) (sym same) ∙ fit.on i.0 u i.1 in
        let no : None ≡ Some (old_rows b.circuit u.cell.pin i.0) = sym none ∙ found in
        none-some (old_rows b.circuit u.cell.pin i.0) no

-- a private net of the old board
pub old-private_wire : (net : Net) (units : List ChipUnit) (n : ℕ) (w : Wire) → private_from net ≤ n → slice_get (circuit_on net units).nets n ≡ Some w →
    w ≡ record { kind = Inner; pull = pull.Free; drivers = places_from (drives net units n) 0 units }
old-private_wire net units n w high e = at (slice_get (privates net) (n - private_from net)) refl
  where
    kinds : slice_get (kinds_of net) n ≡ option_map inner_kind (slice_get (privates net) (n - private_from net))
    kinds = kinds-private net (n - private_from net) n (omega arith)

    at : (o : Option At) → slice_get (privates net) (n - private_from net) ≡ o → w ≡ record { kind = Inner; pull = pull.Free; drivers = places_from (drives net units n) 0 units }
    at None is = absurd (none-some w (sym (old-wire net units n ∙ ap (option_map (wire_of net units n)) (kinds ∙ ap (option_map inner_kind) is)) ∙ e))
    at (Some q) is = same_Some w _ (sym e ∙ old-wire net units n ∙ ap (option_map (wire_of net units n)) (kinds ∙ ap (option_map inner_kind) is))

-- the private net of a pin of the new board
new-private_wire : (b : OldBoard) (news : List NewChip) (q : At) (n : ℕ) → IsPin b news q n → private_from b.net ≤ n →
    slice_get (rebuilt_circuit b news).nets (net_of (rebuilt_net b news) q)
    ≡ Some (record { kind = Inner; pull = pull.Free; drivers = places_from (drives (rebuilt_net b news) (rebuilt_units b news) (net_of (rebuilt_net b news) q)) 0 (rebuilt_units b news) })
new-private_wire b news q n p high =
    let m = net_of (rebuilt_net b news) q in
    old-wire (rebuilt_net b news) (rebuilt_units b news) m
    ∙ ap (option_map (wire_of (rebuilt_net b news) (rebuilt_units b news) m))
    (kinds-private (rebuilt_net b news) (place_of q (privates (rebuilt_net b news))) m (private-place b news q n p high)
    ∙ ap (option_map inner_kind) (place-get q (privates (rebuilt_net b news)) (pin-private b news q n p high)))

pub driven-wire : (o : Option Wire) → has_no_driver o ≡ true → (w : Wire) × (o ≡ Some w) × (w.drivers ≡ [])
driven-wire None e = cc
driven-wire (Some w) e = (w, refl, none w.drivers (eqb-true (length w.drivers) 0 e))
  where
    none : (us : List ℕ) → length us ≡ 0 → us ≡ []
    none [] e = refl
    none (u ∷ us) e = absurd (omega arith)

-- a pin of the new board stands on a net that has the wire of its old net
pub pin-wire : (b : OldBoard) (news : List NewChip) (old : ℕ → ℕ) (q : At) (n : ℕ) → NumbersFit b news old → UnitsFit b news → IsPin b news q n →
    slice_get (rebuilt_circuit b news).nets (net_of (rebuilt_net b news) q) ≡ slice_get b.circuit.nets n
pin-wire b news old q n numbers fit p = at (cases_lt n (private_from b.net)) (unit_on p.chip.units q.1) refl
  where
    old_circuit : slice_get (circuit_on b.net b.units).nets n ≡ slice_get b.circuit.nets n
    old_circuit = ap (λ (c : Circuit). slice_get c.nets n) (sym fit.circuit_is)

    at : (n < private_from b.net) ⊎ (private_from b.net ≤ n) → (o : Option PlacedUnit) → unit_on p.chip.units q.1 ≡ o →
        slice_get (rebuilt_circuit b news).nets (net_of (rebuilt_net b news) q) ≡ slice_get b.circuit.nets n
    at (inl low) o e =
        let numbered = numbers.wired q.0 p.chip q.1 n p.chip_is p.ordinary p.net low in
        ap (slice_get (rebuilt_circuit b news).nets) (named-net b news q n p low)
        ∙ named-wire b news old (new_number (kept_of b news) n) numbers fit numbered.below ∙ ap (slice_get b.circuit.nets) numbered.back
    at (inr high) (Some x) e =
        let own = unit-private b news q n x fit p e in
        let place = place_of q (privates b.net) in
        let high_own : private_from b.net ≤ net_of b.net q = subst (λ (k : ℕ). private_from b.net ≤ k) own.0 high in
        let none : line_at b.net.pins q ≡ None = private-none b.net q fit.lines high_own in
        new-private_wire b news q n p high
        ∙ ap (λ (ds : List ℕ). Some (record { kind = Inner; pull = pull.Free; drivers = ds })) (private-drivers b news old q n x numbers fit p high e)
        ∙ ap (option_map (wire_of b.net b.units n)) (sym (kinds-private b.net place n (own.0 ∙ net-private b.net q none)
        ∙ ap (option_map inner_kind) (place-get q (privates b.net) (among-privates b.net q own.1 none))))
        ∙ sym (old-wire b.net b.units n) ∙ old_circuit
    at (inr high) None e =
        let w = driven-wire (slice_get b.circuit.nets n) (fit.undriven q.0 p.chip q.1 n p.chip_is e p.net high) in
        let is = old-private_wire b.net b.units n w.0 high (old_circuit ∙ w.1) in
        let no_driver : [] ≡ places_from (drives b.net b.units n) 0 b.units = sym w.2 ∙ ap (λ (x : Wire). x.drivers) is in
        new-private_wire b news q n p high
        ∙ ap (λ (ds : List ℕ). Some (record { kind = Inner; pull = pull.Free; drivers = ds })) (private-undriven b news old q n numbers fit p high e ∙ no_driver)
        ∙ ap (λ (x : Wire). Some x) (sym is) ∙ sym w.1
