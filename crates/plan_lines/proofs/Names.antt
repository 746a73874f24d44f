-- Units and chips by their names.
use Rattle.std.proofs.Common.{ℕ, zero, suc, ◌≡◌, ◌+◌, ◌<◌, ◌≤◌, Bool, true, false, cond, List, [], ◌∷◌, map, length, drop, get_or, Option, Some, None, refl, sym, ap, ◌∙◌, arith, ltb}
use Rattle.std.specs.Prelude.{not}
use Rattle.std.specs.List.{list_any, position, position_or_len, zip}
use Rattle.std.specs.Str.{bytes_eq}
use Rattle.std.proofs.lemmas.List.{drop_more, drop_all, length-map, get_or-map}
use Rattle.mig_base.specs.declared.nets.Net.{Net}
use Rattle.mig_base.specs.declared.nets.PinName.{PinName}
use Rattle.mig_base.specs.declared.plans.Breach.TheVariants.{PinTaken}
use Rattle.mig_base.specs.declared.plans.PlanChip.{PlanChip}
use Rattle.mig_base.specs.declared.plans.PlanLine.{PlanLine}
use Rattle.mig_base.specs.declared.plans.PlanLine.TheVariants.{Place}
use Rattle.mig_base.specs.Boards.{ChipUnit, units_from}
use Rattle.board.specs.declared.Unit.{Unit as NamedUnit}
use Rattle.board.specs.Joined.{Joined}
use Rattle.board.specs.NodeNames.{unit_name}
use Rattle.board.specs.UnitLists.{cell_places, unit_on, units_on}
use Rattle.board.proofs.UnitLaws.{length-cells}
use Rattle.new_board.specs.NewChip.{when}
use Rattle.plans.specs.LineBreaches.{takes_pin, pin_taken}
use Rattle.plans.specs.Placings.{same_pin, unit_names, unit_named, numbered_from, numbered_units, chip_named}

-- the names of units are those of the board's units
names-of : (net : Net) (us : List ChipUnit) (ps : List ℕ) → length ps ≡ length us → map (λ u. u.name) (map (unit_on net) (zip us ps)) ≡ map (unit_name net) us
names-of net [] ps e = refl
names-of net (u ∷ us) [] e = absurd (omega arith)
names-of net (u ∷ us) (p ∷ ps) e = ap (λ (ns : List PinName). unit_name net u ∷ ns) (names-of net us ps (omega arith))

pub names-on : (b : Joined) → map (λ (u : NamedUnit). u.name) (units_on b.net b.chips) ≡ unit_names b
names-on b = names-of b.net (units_from 0 b.chips) (cell_places b.chips) (length-cells 0 b.chips)

-- the place among names is that among what has them
place-map : {S T : Type 0} (f : S → T) (p : T → Bool) (ss : List S) → position_or_len p (map f ss) ≡ position_or_len (λ s. p (f s)) ss
place-map f p [] = refl
place-map f p (s ∷ ss) = ap (λ (n : ℕ). cond (not (p (f s))) (1 + n) 0) (place-map f p ss)

position-map : {S T : Type 0} (f : S → T) (p : T → Bool) (ss : List S) → position p (map f ss) ≡ position (λ s. p (f s)) ss
position-map f p ss =
    ap (λ (n : ℕ). cond (ltb n (length (map f ss))) (Some n) None) (place-map f p ss)
    ∙ ap (λ (m : ℕ). cond (ltb (position_or_len (λ s. p (f s)) ss) m) (Some (position_or_len (λ s. p (f s)) ss)) None) (length-map ss f)

pub number-of : (b : Joined) (units : List NamedUnit) (name : PinName) (o : Option ℕ) → units ≡ units_on b.net b.chips → o ≡ position (λ u. same_pin name u.name) units → o ≡ unit_named b name
number-of b units name o e h =
    h ∙ sym (position-map (λ (u : NamedUnit). u.name) (same_pin name) units) ∙ ap (λ (us : List NamedUnit). position (same_pin name) (map (λ u. u.name) us)) e ∙ ap (position (same_pin name)) (names-on b)

-- units by number and name
length-numbered : (u : ℕ) (names : List PinName) → length (numbered_from u names) ≡ length names
length-numbered u [] = refl
length-numbered u (n ∷ names) = ap suc (length-numbered (u + 1) names)

numbered-get : (u i : ℕ) (names : List PinName) (d : ℕ × PinName) → i < length names → get_or (numbered_from u names) i d ≡ (u + i, get_or names i d.1)
numbered-get u i [] d lt = absurd (omega arith)
numbered-get u zero (n ∷ names) d lt = let e : u ≡ u + 0 = omega arith in ap (λ (k : ℕ). (k, n)) e
numbered-get u (suc i) (n ∷ names) d lt =
    numbered-get (u + 1) i names d (omega arith) ∙ (let e : u + 1 + i ≡ u + suc i = omega arith in ap (λ (k : ℕ). (k, get_or names i d.1)) e)

pub length-units-named : (b : Joined) (units : List NamedUnit) → units ≡ units_on b.net b.chips → length (numbered_units b) ≡ length units
length-units-named b units e = length-numbered 0 (unit_names b) ∙ ap length (sym (names-on b)) ∙ length-map (units_on b.net b.chips) (λ (u : NamedUnit). u.name) ∙ ap length (sym e)

pub name-at : (b : Joined) (units : List NamedUnit) (i : ℕ) (unit : NamedUnit) → units ≡ units_on b.net b.chips → i < length units → unit ≡ get_or units i unit →
    unit.name ≡ get_or (unit_names b) i unit.name
name-at b units i unit e lt is =
    let names : map (λ (u : NamedUnit). u.name) units ≡ unit_names b = ap (map (λ u. u.name)) e ∙ names-on b in
    sym (ap (λ (ns : List PinName). get_or ns i unit.name) (sym names) ∙ get_or-map (λ (u : NamedUnit). u.name) units i unit unit.name lt ∙ ap (λ (u : NamedUnit). u.name) (sym is))

pub length-names : (b : Joined) (units : List NamedUnit) → units ≡ units_on b.net b.chips → length (unit_names b) ≡ length units
length-names b units e = ap length (sym (names-on b)) ∙ length-map (units_on b.net b.chips) (λ (u : NamedUnit). u.name) ∙ ap length (sym e)

pub unit-at : (b : Joined) (units : List NamedUnit) (i : ℕ) (unit : NamedUnit) → units ≡ units_on b.net b.chips → i < length units → unit ≡ get_or units i unit →
    (let q : ℕ × PinName = (i, unit.name) in q) ≡ get_or (numbered_units b) i (i, unit.name)
unit-at b units i unit e lt is =
    let long : length (unit_names b) ≡ length units = length-names b units e in
    sym (numbered-get 0 i (unit_names b) (i, unit.name) (omega arith)
    ∙ ap (λ (n : PinName). (let q : ℕ × PinName = (0 + i, n) in q)) (sym (name-at b units i unit e lt is))
    ∙ (let z : 0 + i ≡ i = omega arith in ap (λ (k : ℕ). (let q : ℕ × PinName = (k, unit.name) in q)) z))

-- the chip of a name, chip by chip
chip-step : (chips : List PlanChip) (name : List ℕ) (i : ℕ) (c : PlanChip) (t : Bool) → i < length chips → c ≡ get_or chips i c → bytes_eq c.name name ≡ t →
    chip_named (drop i chips) name ≡ cond t (Some c) (chip_named (drop (i + 1) chips) name)
chip-step chips name i c t lt is h =
    ap (λ (cs : List PlanChip). chip_named cs name) (drop_more chips i c lt)
    ∙ ap (λ (d : PlanChip). cond (bytes_eq d.name name) (Some d) (chip_named (drop (i + 1) chips) name)) (sym is)
    ∙ ap (λ (u : Bool). cond u (Some c) (chip_named (drop (i + 1) chips) name)) h

pub chip-here : (chips : List PlanChip) (name : List ℕ) (i : ℕ) (c : PlanChip) → i < length chips → c ≡ get_or chips i c → bytes_eq c.name name ≡ true → chip_named (drop i chips) name ≡ Some c
chip-here chips name i c lt is h = chip-step chips name i c true lt is h

pub chip-next : (chips : List PlanChip) (name : List ℕ) (i : ℕ) (c : PlanChip) → i < length chips → c ≡ get_or chips i c → bytes_eq c.name name ≡ false → chip_named (drop i chips) name ≡ chip_named (drop (i + 1) chips) name
chip-next chips name i c lt is h = chip-step chips name i c false lt is h

pub chip-past : (chips : List PlanChip) (name : List ℕ) (i : ℕ) → length chips ≤ i → chip_named (drop i chips) name ≡ None
chip-past chips name i done = ap (λ (cs : List PlanChip). chip_named cs name) (drop_all i chips done)

-- a place line, by whether its pin is taken
pub taken-by : (before : List PlanLine) (line : PlanLine) (unit : PinName) (chip : List ℕ) (pin : ℕ) (t : Bool) → line ≡ Place unit chip pin → t ≡ list_any (takes_pin chip pin) before →
    pin_taken (before, line) ≡ when t (Some (PinTaken unit pin))
taken-by before line unit chip pin t e h =
    ap (λ (l : PlanLine). pin_taken (before, l)) e ∙ ap (λ (u : Bool). when u (Some (PinTaken unit pin))) (sym h)
