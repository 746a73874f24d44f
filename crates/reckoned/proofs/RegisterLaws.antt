-- The variables of the registers, and the order of all variables.
use Rattle.std.proofs.Common.{ℕ, zero, suc, ◌≡◌, ◌≢◌, ◌+◌, ◌*◌, ◌^◌, lit≤, ◌<◌, ◌≤◌, Bool, true, false, cond, List, [], ◌∷◌, ◌++◌, map, filter, take, length, get_or, Option, Some, None, refl, sym, ap, ◌∙◌, subst, arith, inl, inr}
use Rattle.std.specs.Prelude.{◌↔◌, slice_get, IfSome}
use Rattle.std.proofs.lemmas.List.{append_assoc, append-nil, length-append, length-map, map-append, take_more, length-take-le}
use Rattle.mig_base.specs.declared.levels.Level.{Level}
use Rattle.mig_base.specs.declared.levels.Level.TheVariants.{X, Z}
use Rattle.mig_base.specs.declared.nets.Var.{Var}
use Rattle.mig_base.specs.declared.nets.Var.TheVariants.{Net, Reg}
use Rattle.mig_base.specs.declared.nets.ChipLine.{ChipLine}
use Rattle.mig_base.specs.declared.cells.Cell.{Cell}
use Rattle.mig_base.specs.declared.cells.ChipCells.{ChipCells}
use Rattle.mig_base.specs.declared.kinds.Kind.{Kind}
use Rattle.mig_base.specs.declared.kinds.Kind.TheVariants.{Pal16L8}
use Rattle.mig_base.specs.declared.circuit.Read.TheVariants.{OfRegister}
use Rattle.mig_base.specs.declared.circuit.NetKind.{NetKind}
use Rattle.mig_base.specs.declared.circuit.NetKind.TheVariants.{Ground, Power, Handed, Shared, Inner}
use Rattle.mig_base.specs.declared.circuit.Wire.{Wire}
use Rattle.mig_base.specs.Among.{Among}
use Rattle.mig_base.specs.Boards.{ChipUnit, is_registered, is_unit, registers_of, units_from}
use Rattle.mig_base.specs.DeviceTables.{cell_pins}
use Rattle.mig_base.specs.Given.{AreMade, IsGiven}
use Rattle.mig_base.specs.First.{made_from}
use Rattle.mig_base.specs.Levels.{level_at}
use Rattle.level_laws.specs.PureLevels.{HasPureStored}
use Rattle.level_laws.specs.SameBehaviour.{IsBit}
use Rattle.settle.specs.Made.{IsStateFor}
use Rattle.structure.specs.Pure.{IsPure}
use Rattle.made_cells.proofs.MadeCells.{made-well}
use Rattle.rails.specs.Variables.{IsBefore}
use Rattle.board.specs.Joined.{Joined, equations_of}
use Rattle.board.specs.UnitLists.{register_units}
use Rattle.board.specs.Variables.{IsVariable, read_of}
use Rattle.board.proofs.BoardLaws.{register-units-long, registers-long, var-back, var-variable}
use Rattle.joiner.proofs.Listing.{Rises, variables-rise}
use Rattle.reckoned.specs.Variables.{AllFit, AreRegisters, FitsVariable, IsExtended, port_variable, port_variables}
use Rattle.reckoned.proofs.PortLaws.{ports-few}

abbrev pub name : Var × Bool → Var
name w = w.0

-- nets from a number on, and registers
abbrev IsFrom : ℕ → Var → Type 0
IsFrom n (Net m) = n ≤ m
IsFrom n (Reg u) = Unit {0}

register-from : (n : ℕ) (us : List ℕ) (v : Var) → Among v (map Reg us) → IsFrom n v
register-from n [] v a = absurd a
register-from n (u ∷ us) v (inl e) = subst (IsFrom n) (sym e) tt
register-from n (u ∷ us) v (inr a) = register-from n us v a

from-more : (n : ℕ) (v : Var) → IsFrom (n + 1) v → IsFrom n v
from-more n (Net m) h = omega arith
from-more n (Reg u) h = tt

from-before : (n : ℕ) (v : Var) → IsFrom (n + 1) v → IsBefore (Net n) v
from-before n (Net m) h = omega arith
from-before n (Reg u) h = tt

ports-from : (n : ℕ) (ws : List Wire) (us : List ℕ) (v : Var) → Among v (map name (port_variables n ws) ++ map Reg us) → IsFrom n v
ports-from n [] us v a = register-from n us v a
ports-from n (w ∷ ws) us v a = at w.kind a (ports-from (n + 1) ws us v)
  where
    at : (k : NetKind) → Among v (map name (port_variable n k ++ port_variables (n + 1) ws) ++ map Reg us) → (Among v (map name (port_variables (n + 1) ws) ++ map Reg us) → IsFrom (n + 1) v) → IsFrom n v
    at Ground b more = from-more n v (more b)
    at Power b more = from-more n v (more b)
    at Inner b more = from-more n v (more b)
    at (Handed j) (inl e) more = subst (IsFrom n) (sym e) (let low : n ≤ n = omega arith in low)
    at (Handed j) (inr b) more = from-more n v (more b)
    at (Shared j) (inl e) more = subst (IsFrom n) (sym e) (let low : n ≤ n = omega arith in low)
    at (Shared j) (inr b) more = from-more n v (more b)

ports-rise : (n : ℕ) (ws : List Wire) (us : List ℕ) → Rises (map Reg us) → Rises (map name (port_variables n ws) ++ map Reg us)
ports-rise n [] us h = h
ports-rise n (w ∷ ws) us h = at w.kind (ports-rise (n + 1) ws us h)
  where
    later : (v : Var) → Among v (map name (port_variables (n + 1) ws) ++ map Reg us) → IsBefore (Net n) v
    later v a = from-before n v (ports-from (n + 1) ws us v a)

    at : (k : NetKind) → Rises (map name (port_variables (n + 1) ws) ++ map Reg us) → Rises (map name (port_variable n k ++ port_variables (n + 1) ws) ++ map Reg us)
    at Ground rest = rest
    at Power rest = rest
    at Inner rest = rest
    at (Handed j) rest = (later, rest)
    at (Shared j) rest = (later, rest)

rises-back : (vs ws : List Var) → Rises (vs ++ ws) → Rises ws
rises-back [] ws h = h
rises-back (v ∷ vs) ws h = rises-back vs ws h.1

-- all variables rise
pub all-rise : (b : Joined) (old new : List (Var × Bool)) → old ≡ port_variables 0 (equations_of b).nets → IsExtended b (register_units b.chips) old new → Rises (map name new)
all-rise b old new e x =
    subst Rises
    (sym (ap (map name) (x.added ∙ ap (λ (vs : List (Var × Bool)). vs ++ x.registers) e) ∙ map-append name (port_variables 0 (equations_of b).nets) x.registers
    ∙ ap (λ (vs : List Var). map name (port_variables 0 (equations_of b).nets) ++ vs) x.each.variables))
    (ports-rise 0 (equations_of b).nets (register_units b.chips) (rises-back (made_from Net 0 (length (equations_of b).nets)) (map Reg (register_units b.chips)) (variables-rise b)))

-- how many registers there are
filter-few : {T : Type 0} (p : T → Bool) (xs : List T) → length (filter p xs) ≤ length xs
filter-few p [] = omega arith
filter-few {T} p (x ∷ xs) = at (p x) (filter-few p xs)
  where
    at : (q : Bool) → length (filter p xs) ≤ length xs → length (cond q (x ∷ filter p xs) (filter p xs)) ≤ suc (length xs)
    at true h = omega arith
    at false h = omega arith

cells-few : (k : Kind) → length (cell_pins k) ≤ 10
cells-few Pal16L8 = lit≤ tt
cells-few _ = lit≤ tt

units-few : (j : ℕ) (lines : List ChipLine) (chips : List ChipCells) → AreMade lines chips → length (units_from j chips) ≤ 10 * length lines
units-few j [] [] made = omega arith
units-few j [] (c ∷ cs) made = absurd made
units-few j (l ∷ ls) [] made = absurd made
units-few j (l ∷ ls) (c ∷ cs) made =
    let unit : Cell → ChipUnit = λ cell. record { chip = j; cells = c; cell = cell } in
    let rest = units-few (j + 1) ls cs made.1 in
    let long : length (units_from j (c ∷ cs)) ≡ length (map unit (filter (is_unit c) c.cells)) + length (units_from (j + 1) cs) = length-append (map unit (filter (is_unit c) c.cells)) (units_from (j + 1) cs) in
    let mapped : length (map unit (filter (is_unit c) c.cells)) ≡ length (filter (is_unit c) c.cells) = length-map (filter (is_unit c) c.cells) unit in
    let few : length (filter (is_unit c) c.cells) ≤ length c.cells = filter-few (is_unit c) c.cells in
    let pins : length c.cells ≡ length (cell_pins c.kind) = sym (length-map c.cells (λ (cell : Cell). cell.pin)) ∙ ap length (made-well l c made.0).pins in
    let most : length (cell_pins c.kind) ≤ 10 = cells-few c.kind in
    omega arith

pub variables-few : (b : Joined) (new : List (Var × Bool)) → IsGiven b.net b.chips → IsExtended b (register_units b.chips) (port_variables 0 (equations_of b).nets) new → length new < 2 ^ 31
variables-few b new given x =
    let ports : length (port_variables 0 (equations_of b).nets) ≤ length b.net.nets = ports-few b.net b.chips in
    let nets : length b.net.nets ≤ 1024 = given.wiring.few_nets in
    let lines : length b.net.chips ≤ 64 = given.wiring.few_chips in
    let units : length (units_from 0 b.chips) ≤ 10 * length b.net.chips = units-few 0 b.net.chips b.chips given.cells in
    let registered : length (registers_of (units_from 0 b.chips)) ≤ length (units_from 0 b.chips) = filter-few is_registered (units_from 0 b.chips) in
    let all : length (register_units b.chips) ≡ length (equations_of b).registers = register-units-long b.net b.chips in
    let long : length (registers_of (units_from 0 b.chips)) ≡ length (equations_of b).registers = registers-long b.net b.chips in
    let named : length x.registers ≡ length (register_units b.chips) = sym (length-map x.registers name) ∙ ap length x.each.variables ∙ length-map (register_units b.chips) Reg in
    let whole : length new ≡ length (port_variables 0 (equations_of b).nets) + length x.registers = ap length x.added ∙ length-append (port_variables 0 (equations_of b).nets) x.registers in
    let room : 2 ^ 31 ≡ 2147483648 = refl in
    omega arith

-- one more register
some-push : {T : Type 0} (P : ℕ → T → Type 0) (xs : List T) (x : T) → ((k : ℕ) → IfSome (slice_get xs k) (P k)) → P (length xs) x → (k : ℕ) → IfSome (slice_get (xs ++ x ∷ []) k) (P k)
some-push P [] x each last zero = last
some-push P [] x each last (suc k) = tt
some-push P (y ∷ ys) x each last zero = each zero
some-push P (y ∷ ys) x each last (suc k) = some-push (λ (j : ℕ). P (suc j)) ys x (λ j. each (suc j)) last k

abbrev HasPurity : Joined → ℕ → Var × Bool → Type 0
HasPurity b k w = (w.1 ≡ true) ↔ IsPure (equations_of b) (OfRegister k)

pub register-variable : (b : Joined) (k : ℕ) → k < length (register_units b.chips) → IsVariable b (Reg (get_or (register_units b.chips) k 0))
register-variable b k lt = var-variable b (OfRegister k) (let long = register-units-long b.net b.chips in omega arith)

pub registers-start : (b : Joined) (old : List (Var × Bool)) → IsExtended b [] old old
registers-start b old = record { registers = []; added = sym (append-nil old); each = record { variables = refl; pure = λ k. tt } }

pub registers-more : (b : Joined) (old before new : List (Var × Bool)) (i : ℕ) (pure : Bool) → i < length (register_units b.chips) → IsExtended b (take i (register_units b.chips)) old before →
    new ≡ before ++ (Reg (get_or (register_units b.chips) i 0), pure) ∷ [] →
    (pure ≡ true → IsPure (equations_of b) (read_of b.chips (Reg (get_or (register_units b.chips) i 0)))) → (IsPure (equations_of b) (read_of b.chips (Reg (get_or (register_units b.chips) i 0))) → pure ≡ true) →
    IsExtended b (take (i + 1) (register_units b.chips)) old new
registers-more b old before new i pure lt x is when_pure if_pure =
    let us = register_units b.chips in
    let u = get_or us i 0 in
    let v : Var × Bool = (Reg u, pure) in
    let node : i < length (equations_of b).registers = let long = register-units-long b.net b.chips in omega arith in
    let back : read_of b.chips (Reg u) ≡ OfRegister i = var-back b (OfRegister i) node in
    let many : length (take i us) ≡ i = length-take-le i us (omega arith) in
    let count : length x.registers ≡ i = sym (length-map x.registers name) ∙ ap length x.each.variables ∙ length-map (take i us) Reg ∙ many in record {
      registers = x.registers ++ v ∷ [];
      added = is ∙ ap (λ (vs : List (Var × Bool)). vs ++ v ∷ []) x.added ∙ append_assoc old x.registers (v ∷ []);
      each = record {
        variables = map-append name x.registers (v ∷ []) ∙ ap (λ (vs : List Var). vs ++ Reg u ∷ []) x.each.variables ∙ sym (map-append Reg (take i us) (u ∷ [])) ∙ ap (map Reg) (sym (take_more us i 0 lt));
        pure = some-push (HasPurity b) x.registers v x.each.pure
            (subst (λ (k : ℕ). HasPurity b k v) (sym count) (λ e. subst (IsPure (equations_of b)) back (when_pure e), λ p. if_pure (subst (IsPure (equations_of b)) (sym back) p)));
      };
    }

-- the same, where the units are those of a list
pub registers-next : (b : Joined) (old before new : List (Var × Bool)) (i : ℕ) (pure : Bool) (us : List ℕ) → us ≡ register_units b.chips → i < length us → IsExtended b (take i us) old before →
    new ≡ before ++ (Reg (get_or us i 0), pure) ∷ [] → (pure ≡ true → IsPure (equations_of b) (read_of b.chips (Reg (get_or us i 0)))) →
    (IsPure (equations_of b) (read_of b.chips (Reg (get_or us i 0))) → pure ≡ true) → IsExtended b (take (i + 1) us) old new
registers-next b old before new i pure us same =
    subst (λ (vs : List ℕ). i < length vs → IsExtended b (take i vs) old before → new ≡ before ++ (Reg (get_or vs i 0), pure) ∷ [] →
    (pure ≡ true → IsPure (equations_of b) (read_of b.chips (Reg (get_or vs i 0)))) → (IsPure (equations_of b) (read_of b.chips (Reg (get_or vs i 0))) → pure ≡ true) → IsExtended b (take (i + 1) vs) old new)
    (sym same) (registers-more b old before new i pure)

-- a state fits the variables of the registers
state-fits : (c_pure : ℕ → Type 0) (rs : List (Var × Bool)) (us : List ℕ) (stored : List Level) → map name rs ≡ map Reg us → length stored ≡ length rs →
    ((k : ℕ) → IfSome (slice_get rs k) (λ w. w.1 ≡ true → c_pure k)) → ((k : ℕ) → k < length stored → level_at stored k ≢ Z) → ((k : ℕ) → c_pure k → IsBit (level_at stored k)) → AllFit rs stored
state-fits pure [] us [] names long marked known bits = tt
state-fits pure [] us (x ∷ xs) names long marked known bits = absurd (omega arith)
state-fits pure (w ∷ rs) us [] names long marked known bits = absurd (omega arith)
state-fits pure (w ∷ rs) [] (x ∷ xs) names long marked known bits = cc
state-fits pure (w ∷ rs) (u ∷ us) (x ∷ xs) names long marked known bits = (
  subst (λ (v : Var × Bool). FitsVariable v x) (sym (one w (Reg u) (first names))) (at w.1 (marked 0)),
  state-fits (λ k. pure (suc k)) rs us xs (rest names) (omega arith) (λ k. marked (suc k)) (λ k lt. known (suc k) (omega arith)) (λ k. bits (suc k)),
)
  where
    first : (let a : List Var = name w ∷ map name rs in a) ≡ Reg u ∷ map Reg us → name w ≡ Reg u
    first e = cc

    rest : (let a : List Var = name w ∷ map name rs in a) ≡ Reg u ∷ map Reg us → map name rs ≡ map Reg us
    rest e = cc

    one : (v : Var × Bool) (r : Var) → name v ≡ r → v ≡ (r, v.1)
    one v r e = ap (λ (q : Var). let p : Var × Bool = (q, v.1) in p) e

    at : (q : Bool) → (q ≡ true → pure 0) → FitsVariable (Reg u, q) x
    at true h = bits 0 (h refl)
    at false h = known 0 (omega arith)

pub stored-fit : (b : Joined) (rs : List (Var × Bool)) (stored : List Level) → AreRegisters b (register_units b.chips) rs → IsStateFor (equations_of b) stored → HasPureStored (equations_of b) stored → AllFit rs stored
stored-fit b rs stored are state pure =
    let long : length rs ≡ length (register_units b.chips) = sym (length-map rs name) ∙ ap length are.variables ∙ length-map (register_units b.chips) Reg in
    state-fits (λ k. IsPure (equations_of b) (OfRegister k)) rs (register_units b.chips) stored are.variables
    (state.lengths ∙ sym (register-units-long b.net b.chips) ∙ sym long) (λ k. forth (slice_get rs k) k (are.pure k)) (λ k lt. state.known k X lt) pure
  where
    forth : (o : Option (Var × Bool)) (k : ℕ) → IfSome o (HasPurity b k) → IfSome o (λ w. w.1 ≡ true → IsPure (equations_of b) (OfRegister k))
    forth None k h = tt
    forth (Some w) k h = h.0
