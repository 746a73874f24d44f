-- The nets of pins, the wires of nets, and the lines of the new wiring.
use Rattle.std.proofs.Common.{ℕ, zero, suc, ◌≡◌, ◌+◌, ◌<◌, ◌≤◌, Bool, true, false, cond, ◌&&◌, List, [], ◌∷◌, ◌++◌, map, length, Option, Some, None, is_none, refl, sym, ap, ◌∙◌, subst, inl, inr, ◌⊎◌, eqb, eqb-true, eq-eqb, ne_eqb, ltb, lt-ltb, arith}
use Rattle.std.specs.List.{filter_map, cons_option, slice_get}
use Rattle.std.specs.Option.{option_map}
use Rattle.std.proofs.lemmas.Bool.{and_parts, cases_eq}
use Rattle.std.proofs.lemmas.Option.{same_Some}
use Rattle.mig_base.specs.First.{or_else}
use Rattle.mig_base.specs.declared.nets.Net.{Net}
use Rattle.mig_base.specs.declared.nets.ChipLine.{ChipLine}
use Rattle.mig_base.specs.declared.nets.PinLine.{PinLine}
use Rattle.mig_base.specs.declared.nets.Pull.{Pull}
use Rattle.mig_base.specs.declared.nets.Pull.TheVariants as pull
use Rattle.mig_base.specs.declared.circuit.NetKind.{NetKind}
use Rattle.mig_base.specs.declared.circuit.NetKind.TheVariants.{Inner}
use Rattle.mig_base.specs.declared.circuit.Wire.{Wire}
use Rattle.mig_base.specs.Among.{Among}
use Rattle.mig_base.specs.DeviceTables.{ordinary_pins}
use Rattle.mig_base.specs.Boards.{At, same_at, place_of, line_at, pins_from, privates, or_private, net_of, ChipUnit, places_from, kinds_from, kinds_of, wires_from, drives}
use Rattle.mig_base.proofs.PlaceLaws.{length-kinds_from}
use Rattle.mig_base.proofs.Amongs.{map-among, among-left, among-right}
use Rattle.new_board.specs.NewChip.{OldBoard, private_from}
use Rattle.new_board.specs.NewFiles.{wire_at, new_number, new_pins_from}
use Rattle.new_board.specs.declared.types.PinNet.{PinNet}
use Rattle.new_board.specs.declared.types.FittedChip.{FittedChip}
use Rattle.new_board.proofs.Items.{among-filter}

-- an item of a joined list, by its place

pub get-left : {T : Type 0} (xs ys : List T) (i : ℕ) → i < length xs → slice_get (xs ++ ys) i ≡ slice_get xs i
get-left [] ys i h = absurd (omega arith)
get-left (x ∷ xs) ys zero h = refl
get-left (x ∷ xs) ys (suc i) h = get-left xs ys i (omega arith)

pub get-right : {T : Type 0} (xs ys : List T) (i k : ℕ) → k ≡ length xs + i → slice_get (xs ++ ys) k ≡ slice_get ys i
get-right [] ys i k e = ap (slice_get ys) (omega arith)
get-right (x ∷ xs) ys i zero e = absurd (omega arith)
get-right (x ∷ xs) ys i (suc k) e = get-right xs ys i k (omega arith)

pub at-same : (q r : At) → same_at q r ≡ true → q ≡ r
at-same q r e =
    let parts = and_parts (eqb q.0 r.0) (eqb q.1 r.1) e in
    let chip : q.0 ≡ r.0 = eqb-true q.0 r.0 parts.0 in
    let pin : q.1 ≡ r.1 = eqb-true q.1 r.1 parts.1 in
    λ i. (chip i, pin i)

pub same-at : (q : At) → same_at q q ≡ true
same-at q = ap (λ b. b && eqb q.1 q.1) (eq-eqb q.0 q.0 refl) ∙ eq-eqb q.1 q.1 refl

-- the place of a pin that is there
pub place-get : (q : At) (qs : List At) → Among q qs → slice_get qs (place_of q qs) ≡ Some q
place-get q [] a = absurd a
place-get q (r ∷ rs) a = at (same_at q r) refl a (place-get q rs)
  where
    at : (b : Bool) → same_at q r ≡ b → Among q (r ∷ rs) → (Among q rs → slice_get rs (place_of q rs) ≡ Some q) →
        slice_get (r ∷ rs) (cond b 0 (place_of q rs + 1)) ≡ Some q
    at true e a rest = ap (λ x. Some x) (sym (at-same q r e))
    at false e (inl same) rest = let no : true ≡ false = sym (same-at q) ∙ ap (same_at q) same ∙ e in cc
    at false e (inr a) rest = ap (slice_get (r ∷ rs)) next ∙ rest a
      where
        next : place_of q rs + 1 ≡ suc (place_of q rs)
        next = omega arith

pub place-apart : (q r : At) (qs : List At) → Among q qs → Among r qs → place_of q qs ≡ place_of r qs → q ≡ r
place-apart q r qs a b e = same_Some q r (sym (place-get q qs a) ∙ ap (slice_get qs) e ∙ place-get r qs b)

-- the wire of a net

abbrev pub wire_of : Net → List ChipUnit → ℕ → NetKind × Pull → Wire
wire_of net units n k = record { kind = k.0; pull = k.1; drivers = places_from (drives net units n) 0 units }

pub wires-get : (net : Net) (units : List ChipUnit) (start : ℕ) (ks : List (NetKind × Pull)) (i : ℕ) →
    slice_get (wires_from net units start ks) i ≡ option_map (wire_of net units (start + i)) (slice_get ks i)
wires-get net units start [] i = refl
wires-get net units start (k ∷ ks) zero = ap (λ n. Some (wire_of net units n k)) (omega arith)
wires-get net units start (k ∷ ks) (suc i) =
    wires-get net units (start + 1) ks i ∙ ap (λ n. option_map (wire_of net units n) (slice_get ks i)) (omega arith)

abbrev pub inner_kind : At → NetKind × Pull
inner_kind q = (Inner, pull.Free)

-- a private net is inner and not pulled
pub kinds-private : (net : Net) (i n : ℕ) → n ≡ private_from net + i → slice_get (kinds_of net) n ≡ option_map inner_kind (slice_get (privates net) i)
kinds-private net i zero e = absurd (omega arith)
kinds-private net i (suc zero) e = absurd (omega arith)
kinds-private net i (suc (suc n)) e =
    get-right (kinds_from 0 net.nets) (map inner_kind (privates net)) i n
    (let long = length-kinds_from 0 net.nets in omega arith)
    ∙ mapped (privates net) i
  where
    mapped : (qs : List At) (i : ℕ) → slice_get (map inner_kind qs) i ≡ option_map inner_kind (slice_get qs i)
    mapped [] i = refl
    mapped (q ∷ qs) zero = refl
    mapped (q ∷ qs) (suc i) = mapped qs i

-- the net of a pin

pub net-line : (net : Net) (q : At) (n : ℕ) → line_at net.pins q ≡ Some n → net_of net q ≡ n
net-line net q n e = ap (or_private (length net.nets) (privates net) q) e

pub net-private : (net : Net) (q : At) → line_at net.pins q ≡ None → net_of net q ≡ private_from net + place_of q (privates net)
net-private net q e = ap (or_private (length net.nets) (privates net) q) e

pub among-privates : (net : Net) (q : At) → Among q (pins_from 0 net.chips) → line_at net.pins q ≡ None → Among q (privates net)
among-privates net q a e = among-filter (λ r. is_none (line_at net.pins r)) q (pins_from 0 net.chips) a (ap (λ o. is_none o) e)

-- every line is on a constant or a named net
pub record LinesFit (net : Net) : Type 0 where
  pub within : (q : At) (n : ℕ) → line_at net.pins q ≡ Some n → n < private_from net

-- a pin whose net is private has no line
pub private-none : (net : Net) (q : At) → LinesFit net → private_from net ≤ net_of net q → line_at net.pins q ≡ None
private-none net q fit h = at (line_at net.pins q) refl
  where
    at : (o : Option ℕ) → line_at net.pins q ≡ o → o ≡ None
    at None e = refl
    at (Some n) e = absurd (let low : n < private_from net = fit.within q n e in let is : net_of net q ≡ n = net-line net q n e in omega arith)

-- a private net has one pin
pub private-own : (net : Net) (q r : At) → LinesFit net → Among q (pins_from 0 net.chips) → Among r (pins_from 0 net.chips) →
    private_from net ≤ net_of net q → net_of net r ≡ net_of net q → r ≡ q
private-own net q r fit a b h e =
    let none_q : line_at net.pins q ≡ None = private-none net q fit h in
    let none_r : line_at net.pins r ≡ None = private-none net r fit (omega arith) in
    let at_q : net_of net q ≡ private_from net + place_of q (privates net) = net-private net q none_q in
    let at_r : net_of net r ≡ private_from net + place_of r (privates net) = net-private net r none_r in
    place-apart r q (privates net) (among-privates net r b none_r) (among-privates net q a none_q) (omega arith)

-- the lines of the new wiring

abbrev pub wire_on : List PinNet → ℕ → Option ℕ
wire_on [] pin = None
wire_on (w ∷ ws) pin = cond (eqb pin w.pin) (Some w.net) (wire_on ws pin)

abbrev chip_pin : List ℕ → ℕ → PinNet → PinLine
chip_pin kept j w = record { chip = j; pin = w.pin; net = new_number kept w.net }

line-chip : (kept : List ℕ) (j : ℕ) (ws : List PinNet) (rest : List PinLine) (pin : ℕ) →
    line_at (map (chip_pin kept j) ws ++ rest) (j, pin) ≡ or_else (option_map (new_number kept) (wire_on ws pin)) (line_at rest (j, pin))
line-chip kept j [] rest pin = refl
line-chip kept j (w ∷ ws) rest pin =
    ap (λ (q : Bool). cond (q && eqb pin w.pin) (Some (new_number kept w.net)) (line_at (map (chip_pin kept j) ws ++ rest) (j, pin))) (eq-eqb j j refl)
    ∙ at (eqb pin w.pin) (line-chip kept j ws rest pin)
  where
    at : (q : Bool) → line_at (map (chip_pin kept j) ws ++ rest) (j, pin) ≡ or_else (option_map (new_number kept) (wire_on ws pin)) (line_at rest (j, pin)) →
        cond q (Some (new_number kept w.net)) (line_at (map (chip_pin kept j) ws ++ rest) (j, pin))
        ≡ or_else (option_map (new_number kept) (cond q (Some w.net) (wire_on ws pin))) (line_at rest (j, pin))
    at true e = refl
    at false e = e

line-other : (kept : List ℕ) (j k : ℕ) (ws : List PinNet) (rest : List PinLine) (pin : ℕ) → (k ≡ j → ⊥) →
    line_at (map (chip_pin kept j) ws ++ rest) (k, pin) ≡ line_at rest (k, pin)
line-other kept j k [] rest pin ne = refl
line-other kept j k (w ∷ ws) rest pin ne =
    ap (λ (q : Bool). cond (q && eqb pin w.pin) (Some (new_number kept w.net)) (line_at (map (chip_pin kept j) ws ++ rest) (k, pin))) (ne_eqb k j ne)
    ∙ line-other kept j k ws rest pin ne

line-before : (kept : List ℕ) (start k : ℕ) (fs : List FittedChip) (pin : ℕ) → k < start → line_at (new_pins_from kept start fs) (k, pin) ≡ None
line-before kept start k [] pin h = refl
line-before kept start k (f ∷ fs) pin h =
    line-other kept start k f.wires (new_pins_from kept (start + 1) fs) pin (λ e. omega arith) ∙ line-before kept (start + 1) k fs pin (omega arith)

or-none : {T : Type 0} (o : Option T) → or_else o None ≡ o
or-none None = refl
or-none (Some x) = refl

-- the line of a pin of a new chip
pub new-line : (kept : List ℕ) (start i j : ℕ) (fs : List FittedChip) (f : FittedChip) (pin : ℕ) → slice_get fs i ≡ Some f → j ≡ start + i →
    line_at (new_pins_from kept start fs) (j, pin) ≡ option_map (new_number kept) (wire_on f.wires pin)
new-line kept start i j [] f pin e at = cc
new-line kept start zero j (g ∷ fs) f pin e at =
    let same : g ≡ f = same_Some g f e in
    let is : j ≡ start = omega arith in
    ap (λ (k : ℕ). line_at (new_pins_from kept start (g ∷ fs)) (k, pin)) is
    ∙ line-chip kept start g.wires (new_pins_from kept (start + 1) fs) pin
    ∙ ap (or_else (option_map (new_number kept) (wire_on g.wires pin))) (line-before kept (start + 1) start fs pin (omega arith))
    ∙ or-none (option_map (new_number kept) (wire_on g.wires pin))
    ∙ ap (λ (h : FittedChip). option_map (new_number kept) (wire_on h.wires pin)) same
new-line kept start (suc i) j (g ∷ fs) f pin e at =
    line-other kept start j g.wires (new_pins_from kept (start + 1) fs) pin (λ same. omega arith)
    ∙ new-line kept (start + 1) i j fs f pin e (omega arith)

-- the wire of a pin that has a line
pub wire-some : (b : OldBoard) (nets : ℕ → Option ℕ) (pins : List ℕ) (pin n : ℕ) → Among pin pins → nets pin ≡ Some n → n < private_from b.net →
    wire_on (filter_map (λ p. wire_at b p (nets p)) pins) pin ≡ Some n
wire-some b nets [] pin n a e h = absurd a
wire-some b nets (p ∷ ps) pin n a e h = at (cases_eq pin p) a (λ c. wire-some b nets ps pin n c e h)
  where
    other : (pin ≡ p → ⊥) → (o : Option ℕ) → (wire_on (filter_map (λ p. wire_at b p (nets p)) ps) pin ≡ Some n) →
        wire_on (cons_option (wire_at b p o) (filter_map (λ p. wire_at b p (nets p)) ps)) pin ≡ Some n
    other ne None rest = rest
    other ne (Some m) rest = by (ltb m (private_from b.net))
      where
        by : (q : Bool) → wire_on (cons_option (cond q (Some (record { pin = p; net = m })) None) (filter_map (λ p. wire_at b p (nets p)) ps)) pin ≡ Some n
        by true = ap (λ (q : Bool). cond q (Some m) (wire_on (filter_map (λ p. wire_at b p (nets p)) ps) pin)) (ne_eqb pin p ne) ∙ rest
        by false = rest

    at : (pin ≡ p) ⊎ (pin ≡ p → ⊥) → Among pin (p ∷ ps) → (Among pin ps → wire_on (filter_map (λ p. wire_at b p (nets p)) ps) pin ≡ Some n) →
        wire_on (cons_option (wire_at b p (nets p)) (filter_map (λ p. wire_at b p (nets p)) ps)) pin ≡ Some n
    at (inl same) a rest =
        ap (λ (o : Option ℕ). wire_on (cons_option (wire_at b p o) (filter_map (λ p. wire_at b p (nets p)) ps)) pin) (ap nets (sym same) ∙ e)
        ∙ ap (λ (q : Bool). wire_on (cons_option (cond q (Some (record { pin = p; net = n })) None) (filter_map (λ p. wire_at b p (nets p)) ps)) pin) (lt-ltb n (private_from b.net) h)
        ∙ ap (λ (q : Bool). cond q (Some n) (wire_on (filter_map (λ p. wire_at b p (nets p)) ps) pin)) (eq-eqb pin p same)
    at (inr ne) (inl same) rest = absurd (ne same)
    at (inr ne) (inr c) rest = other ne (nets p) (rest c)

-- a pin that has no line
pub wire-none : (b : OldBoard) (nets : ℕ → Option ℕ) (pins : List ℕ) (pin : ℕ) → wire_at b pin (nets pin) ≡ None →
    wire_on (filter_map (λ p. wire_at b p (nets p)) pins) pin ≡ None
wire-none b nets [] pin e = refl
wire-none b nets (p ∷ ps) pin e = at (cases_eq pin p) (wire-none b nets ps pin e)
  where
    other : (pin ≡ p → ⊥) → (o : Option ℕ) → (wire_on (filter_map (λ p. wire_at b p (nets p)) ps) pin ≡ None) →
        wire_on (cons_option (wire_at b p o) (filter_map (λ p. wire_at b p (nets p)) ps)) pin ≡ None
    other ne None rest = rest
    other ne (Some m) rest = by (ltb m (private_from b.net))
      where
        by : (q : Bool) → wire_on (cons_option (cond q (Some (record { pin = p; net = m })) None) (filter_map (λ p. wire_at b p (nets p)) ps)) pin ≡ None
        by true = ap (λ (q : Bool). cond q (Some m) (wire_on (filter_map (λ p. wire_at b p (nets p)) ps) pin)) (ne_eqb pin p ne) ∙ rest
        by false = rest

    at : (pin ≡ p) ⊎ (pin ≡ p → ⊥) → wire_on (filter_map (λ p. wire_at b p (nets p)) ps) pin ≡ None →
        wire_on (cons_option (wire_at b p (nets p)) (filter_map (λ p. wire_at b p (nets p)) ps)) pin ≡ None
    at (inl same) rest =
        ap (λ (o : Option PinNet). wire_on (cons_option o (filter_map (λ p. wire_at b p (nets p)) ps)) pin) (ap (λ (r : ℕ). wire_at b r (nets r)) (sym same) ∙ e) ∙ rest
    at (inr ne) rest = other ne (nets p) rest

-- a pin of a chip is a pin of the board
pub among-pins : (start i j : ℕ) (cs : List ChipLine) (c : ChipLine) (pin : ℕ) → slice_get cs i ≡ Some c → j ≡ start + i → Among pin (ordinary_pins c.kind) →
    Among (j, pin) (pins_from start cs)
among-pins start i j [] c pin e at a = cc
among-pins start zero j (d ∷ cs) c pin e at a =
    let same : d ≡ c = same_Some d c e in
    let is : start ≡ j = omega arith in
    subst (λ (k : ℕ). Among (k, pin) (pins_from start (d ∷ cs))) is
    (among-left (start, pin) (map (λ p. (start, p)) (ordinary_pins d.kind)) (pins_from (start + 1) cs)
    (map-among (λ p. (start, p)) pin (ordinary_pins d.kind) (subst (λ (q : ChipLine). Among pin (ordinary_pins q.kind)) (sym same) a)))
among-pins start (suc i) j (d ∷ cs) c pin e at a =
    among-right (j, pin) (map (λ p. (start, p)) (ordinary_pins d.kind)) (pins_from (start + 1) cs) (among-pins (start + 1) i j cs c pin e (omega arith) a)

-- the places of units by a test, where the units are made from others
pub places-same : {T S : Type 0} (test : S → Bool) (other : T → Bool) (f : T → S) (i : ℕ) (xs : List T) → ((x : T) → Among x xs → test (f x) ≡ other x) →
    places_from test i (map f xs) ≡ places_from other i xs
places-same test other f i [] h = refl
places-same test other f i (x ∷ xs) h =
    ap (λ (q : Bool). cond q (i ∷ []) [] ++ places_from test (i + 1) (map f xs)) (h x (inl refl))
    ∙ ap (λ rest. cond (other x) (i ∷ []) [] ++ rest) (places-same test other f (i + 1) xs (λ y a. h y (inr a)))

pub places-none : {T : Type 0} (test : T → Bool) (i : ℕ) (xs : List T) → ((x : T) → Among x xs → test x ≡ false) → places_from test i xs ≡ []
places-none test i [] h = refl
places-none test i (x ∷ xs) h =
    ap (λ (q : Bool). cond q (i ∷ []) [] ++ places_from test (i + 1) xs) (h x (inl refl)) ∙ places-none test (i + 1) xs (λ y a. h y (inr a))
