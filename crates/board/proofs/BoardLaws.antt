-- The variables and the nodes of a board, and what its parts say of its equations.
use Rattle.std.proofs.Common.{ℕ, ◌≡◌, ◌<◌, Bool, true, false, List, length, get_or, Option, Some, None, refl, sym, ap, ◌∙◌, subst, arith, zero-add}
use Rattle.std.specs.Prelude.{◌==◌, slice_get, slice_index_or, if◌then◌else◌}
use Rattle.std.proofs.lemmas.Bool.{cond-false, ne_eqb}
use Rattle.std.proofs.lemmas.List.{length-map}
use Rattle.std.proofs.lemmas.Option.{slice_get-get_or, get_or_from_slice_get, slice_get_within}
use Rattle.mig_base.specs.declared.cells.ChipCells.{ChipCells}
use Rattle.mig_base.specs.declared.circuit.Circuit.{Circuit}
use Rattle.mig_base.specs.declared.circuit.Read.{Read}
use Rattle.mig_base.specs.declared.circuit.Read.TheVariants.{OfNet, OfRegister}
use Rattle.mig_base.specs.declared.nets.Net.{Net as Wiring}
use Rattle.mig_base.specs.declared.nets.Var.{Var}
use Rattle.mig_base.specs.declared.nets.Var.TheVariants.{Net, Reg}
use Rattle.mig_base.specs.Accepted.{IsAccepted}
use Rattle.mig_base.specs.Boards.{ChipUnit, circuit, driver_of, is_registered, register_of, registers_of, units_from}
use Rattle.mig_base.proofs.ListLaws.{get_or-made_from, length-made_from}
use Rattle.ranks.specs.declared.Ranks.{Ranks}
use Rattle.ranks.specs.Order.{IsOrder}
use Rattle.mig_base.specs.Reads.{IsNode}
use Rattle.ranks.specs.RankEquations.{IsRanks}
use Rattle.ranks.proofs.OrderOfRanks.{ranks-order}
use Rattle.mig_base.specs.Structure.{alias_of}
use Rattle.structure.specs.declared.derived.Structure.{Structure}
use Rattle.structure.specs.Derived.{IsStructure}
use Rattle.board.specs.declared.Unit.{Unit as NamedUnit}
use Rattle.board.specs.declared.tables.Tables.{Tables}
use Rattle.mig_base.specs.declared.cells.Cell.{Cell}
use Rattle.mig_base.specs.declared.cells.Enable.{Enable}
use Rattle.mig_base.specs.declared.cells.Enable.TheVariants as enable
use Rattle.mig_base.specs.declared.circuit.Wire.{Wire}
use Rattle.board.specs.Built.{IsBuilt, IsPassed, IsTables}
use Rattle.board.specs.Enables.{drivers_of, effective_of, effective_on, pin_enable}
use Rattle.board.specs.Joined.{Joined, equations_of}
use Rattle.board.specs.UnitLists.{has_register, register_units, units_on}
use Rattle.board.specs.Variables.{IsVariable, read_of, register_place, var_of}
use Rattle.board.proofs.AcceptedLaws.{passed-accepted}
use Rattle.board.proofs.PlaceLaws.{HasPlace, HasUnit, IsNamed, has-place, has-unit, unit-named}
use Rattle.board.proofs.UnitLaws.{length-places, length-units}

-- the equations are accepted, and have these ranks
pub equations-accepted : (net : Wiring) (chips : List ChipCells) (c : Circuit) (r : Ranks) → c ≡ circuit net chips → IsPassed c r → IsAccepted (circuit net chips)
equations-accepted net chips c r e p = subst IsAccepted e (passed-accepted c r p)

pub equations-ranks : (net : Wiring) (chips : List ChipCells) (c : Circuit) (r : Ranks) → c ≡ circuit net chips → IsPassed c r → IsRanks (circuit net chips) r
equations-ranks net chips c r e p = subst (λ (d : Circuit). IsRanks d r) e p.ranks

pub equations-order : (net : Wiring) (chips : List ChipCells) (c : Circuit) (r : Ranks) → c ≡ circuit net chips → IsPassed c r → IsOrder (circuit net chips) r.order
equations-order net chips c r e p = ranks-order (circuit net chips) r (equations-ranks net chips c r e p)

-- as many units and registers by name as the equations have
pub units-long : (net : Wiring) (chips : List ChipCells) → length (units_on net chips) ≡ length (circuit net chips).units
units-long net chips = length-units net chips ∙ sym (length-map (units_from 0 chips) (driver_of net (units_from 0 chips)))

pub registers-long : (net : Wiring) (chips : List ChipCells) → length (registers_of (units_from 0 chips)) ≡ length (circuit net chips).registers
registers-long net chips = sym (length-map (registers_of (units_from 0 chips)) (register_of net (units_from 0 chips)))

pub register-units-long : (net : Wiring) (chips : List ChipCells) → length (register_units chips) ≡ length (circuit net chips).registers
register-units-long net chips = length-places is_registered 0 (units_from 0 chips) ∙ registers-long net chips

registered-unit : (o : Option ChipUnit) → has_register o ≡ true → (x : ChipUnit) × (o ≡ Some x) × (is_registered x ≡ true)
registered-unit None e = cc
registered-unit (Some x) e = (x, refl, e)

unit-place : (chips : List ChipCells) (u : ℕ) → has_register (slice_get (units_from 0 chips) u) ≡ true → HasPlace is_registered 0 u (units_from 0 chips)
unit-place chips u h = let x = registered-unit (slice_get (units_from 0 chips) u) h in has-place is_registered 0 u (units_from 0 chips) x.0 x.1 x.2

-- the node of a variable is one of the board, and the variable of that node is this one
pub read-node : (b : Joined) (v : Var) → IsVariable b v → IsNode (equations_of b) (read_of b.chips v)
read-node b (Net n) h = h
read-node b (Reg u) h = let p = (unit-place b.chips u h).within in let long = registers-long b.net b.chips in omega arith

pub read-back : (b : Joined) (v : Var) → IsVariable b v → var_of b.chips (read_of b.chips v) ≡ v
read-back b (Net n) h = refl
read-back b (Reg u) h = ap Reg ((unit-place b.chips u h).at ∙ zero-add u)

register-unit : (b : Joined) (k : ℕ) → k < length (equations_of b).registers → HasUnit is_registered 0 k (units_from 0 b.chips)
register-unit b k h = has-unit is_registered 0 k (units_from 0 b.chips) (let long = registers-long b.net b.chips in omega arith)

-- the variable of a node is one of the board, and the node of that variable is this one
pub var-variable : (b : Joined) (v : Read) → IsNode (equations_of b) v → IsVariable b (var_of b.chips v)
var-variable b (OfNet n) h = h
var-variable b (OfRegister k) h =
    let r = register-unit b k h in
    ap has_register (ap (slice_get (units_from 0 b.chips)) (r.at ∙ zero-add r.number) ∙ r.is) ∙ r.passes

pub var-back : (b : Joined) (v : Read) → IsNode (equations_of b) v → read_of b.chips (var_of b.chips v) ≡ v
var-back b (OfNet n) h = refl
var-back b (OfRegister k) h =
    let r = register-unit b k h in
    ap (λ (u : ℕ). OfRegister (register_place b.chips u)) (r.at ∙ zero-add r.number) ∙ ap OfRegister r.before

-- a registered unit has its register's place in the table of places
pub place-within : (net : Wiring) (chips : List ChipCells) (t : Tables) (u : ℕ) → IsTables net chips t → has_register (slice_get (units_from 0 chips) u) ≡ true → u < length t.places
place-within net chips t u is h =
    let x = registered-unit (slice_get (units_from 0 chips) u) h in
    let within : u < length (units_from 0 chips) = slice_get_within (units_from 0 chips) u x.0 x.1 in
    let long : length t.places ≡ length (units_from 0 chips) = ap length is.places ∙ length-made_from (register_place chips) 0 (length (units_from 0 chips)) in
    omega arith

pub place-is : (net : Wiring) (chips : List ChipCells) (t : Tables) (u d : ℕ) → IsTables net chips t → has_register (slice_get (units_from 0 chips) u) ≡ true → get_or t.places u d ≡ register_place chips u
place-is net chips t u d is h =
    let x = registered-unit (slice_get (units_from 0 chips) u) h in
    let within : u < length (units_from 0 chips) = slice_get_within (units_from 0 chips) u x.0 x.1 in
    ap (λ (ps : List ℕ). get_or ps u d) is.places ∙ get_or-made_from (register_place chips) 0 (length (units_from 0 chips)) u d within ∙ ap (register_place chips) (zero-add u)

-- what a board holds, said of its value
pub holds : {net : Wiring} {chips : List ChipCells} {c : Circuit} {r : Ranks} {t : Tables} {vars : List Var} {s : Structure} {a n : Enable} → IsBuilt net chips c r t vars s a n →
    (b : Joined) → (let x : Joined = record { net = net; chips = chips } in x ≡ b) → IsBuilt b.net b.chips c r t vars s a n
holds {net} {chips} {c} {r} {t} {vars} {s} {a} {n} h b e = subst (λ (x : Joined). IsBuilt x.net x.chips c r t vars s a n) e h

pub drivers-at : (ws vs : List Wire) (n : ℕ) (w : Wire) → vs ≡ ws → n < length ws → w ≡ get_or vs n w → (get_or vs n w).drivers ≡ drivers_of (slice_get ws n)
drivers-at ws vs n w same h e = ap (λ (xs : List Wire). (get_or xs n w).drivers) same ∙ sym (ap drivers_of (slice_get-get_or ws n w h))

-- a unit by name in the table, with its chip and its cell
pub unit-is : (b : Joined) (t : Tables) (us : List NamedUnit) (u : ℕ) (r : NamedUnit) → IsTables b.net b.chips t → us ≡ t.units → u < length (equations_of b).units → r ≡ get_or us u r → IsNamed b.chips u r
unit-is b t us u r is same h e =
    let within : u < length (units_from 0 b.chips) = let long = units-long b.net b.chips in let named = length-units b.net b.chips in omega arith in
    unit-named b.net b.chips u r within (e ∙ ap (λ (xs : List NamedUnit). get_or xs u r) (same ∙ is.units))

pub chip-within : (b : Joined) (u : ℕ) (r : NamedUnit) → IsNamed b.chips u r → r.chip < length b.chips
chip-within b u r n = slice_get_within b.chips r.chip n.unit.cells n.chip

pub cells-are : (b : Joined) (u : ℕ) (r : NamedUnit) (n : IsNamed b.chips u r) (chips : List ChipCells) (c : ChipCells) → chips ≡ b.chips → (get_or chips r.chip c).cells ≡ n.unit.cells.cells
cells-are b u r n chips c same = ap (λ (x : ChipCells). x.cells) (ap (λ (cs : List ChipCells). get_or cs r.chip c) same ∙ get_or_from_slice_get b.chips r.chip n.unit.cells c n.chip)

pub cell-within : (b : Joined) (u : ℕ) (r : NamedUnit) (n : IsNamed b.chips u r) (cells : List Cell) → cells ≡ n.unit.cells.cells → r.cell < length cells
cell-within b u r n cells same = let within = slice_get_within n.unit.cells.cells r.cell n.unit.cell n.cell in let long : length cells ≡ length n.unit.cells.cells = ap length same in omega arith

pub cell-is : (b : Joined) (u : ℕ) (r : NamedUnit) (n : IsNamed b.chips u r) (cells : List Cell) (d : Cell) → cells ≡ n.unit.cells.cells → get_or cells r.cell d ≡ n.unit.cell
cell-is b u r n cells d same = ap (λ (xs : List Cell). get_or xs r.cell d) same ∙ get_or_from_slice_get n.unit.cells.cells r.cell n.unit.cell d n.cell

-- the effective enable by the enable of the cell
pub effective-is : (b : Joined) (u : ℕ) (r : NamedUnit) (n : IsNamed b.chips u r) (cell : Cell) → cell ≡ n.unit.cell → effective_of b.net (slice_get (units_from 0 b.chips) u) ≡ effective_on b.net r.chip cell.enable
effective-is b u r n cell same =
    ap (effective_of b.net) n.is ∙ ap (λ (j : ℕ). effective_on b.net j n.unit.cell.enable) (sym n.number) ∙ ap (λ (x : Cell). effective_on b.net r.chip x.enable) (sym same)

pub pin-other : (n p : ℕ) → (n ≡ 0 → ⊥) → (n ≡ 1 → ⊥) → pin_enable n p ≡ enable.LowPin p
pin-other n p h k =
    cond-false (n == 0) enable.Always (if n == 1 then enable.Never else enable.LowPin p) (ne_eqb n 0 h)
    ∙ cond-false (n == 1) enable.Never (enable.LowPin p) (ne_eqb n 1 k)

pub effective-same : (net : Wiring) (chip : ℕ) (e : Enable) → ((p : ℕ) → e ≡ enable.LowPin p → ⊥) → effective_on net chip e ≡ e
effective-same net chip enable.Always h = refl
effective-same net chip enable.Never h = refl
effective-same net chip (enable.Term lits) h = refl
effective-same net chip (enable.LowPin p) h = absurd (h p refl)

-- the alias in the table
pub alias-is : (b : Joined) (s : Structure) (n : ℕ) (d : Option (ℕ × Bool)) → IsStructure (equations_of b) (register_units b.chips) s → n < length (equations_of b).nets → get_or s.aliases n d ≡ alias_of (equations_of b) n
alias-is b s n d is h = get_or_from_slice_get s.aliases n (alias_of (equations_of b) n) d (is.aliases.each n h)

-- the flag in a table
pub flag-is : {xs ys : List Bool} (n : ℕ) → xs ≡ ys → slice_index_or xs n false ≡ slice_index_or ys n false
flag-is n e = ap (λ (bs : List Bool). slice_index_or bs n false) e
