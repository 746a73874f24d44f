-- A needed variable that stood on a free pin of the old chip, or is read already, has a reading pin.
use Rattle.std.proofs.Common.{ℕ, ◌≡◌, Bool, true, false, not, ◌&&◌, [], Option, Some, None, is_some, is_none, refl, sym, ap, ◌∙◌, subst, inl, inr, ◌⊎◌, eqb, eqb-true, eq-eqb}
use Rattle.std.specs.Prelude.{option_and_then}
use Rattle.std.specs.List.{list_any}
use Rattle.std.proofs.lemmas.Bool.{and_parts, not-true}
use Rattle.mig_base.specs.First.{or_else}
use Rattle.mig_base.specs.declared.kinds.Kind.{Kind}
use Rattle.mig_base.specs.declared.circuit.Read.{Read}
use Rattle.mig_base.specs.Among.{Among}
use Rattle.mig_base.specs.DeviceTables.{pair_pins, ordinary_pins, is_ordinary, clock_pin, enable_pin, is_v8}
use Rattle.mig_base.specs.Boards.{net_of}
use Rattle.mig_base.specs.Structure.{same_read, variable_of}
use Rattle.mig_base.proofs.ReadLaws.{read-same, same-read}
use Rattle.mig_base.proofs.Amongs.{any-among, among-any}
use Rattle.new_board.specs.declared.types.PlacedUnit.{PlacedUnit}
use Rattle.new_board.specs.NewChip.{OldBoard, NewChip, unit_on, register_on, placed_register, unit_net, clock_net, enable_net, first_registered, fixed_net, when, net_literal, read_by, is_literal_of, is_read, is_read_at, needed_variables}
use Rattle.new_board.specs.InputPins.{wire_for, is_free, free_pins, input_variables, input_pins, input_at, stood, stood_on, chip_from, anywhere, take_pins, pin_net, pin_reads, reading_pin}
use Rattle.new_board.proofs.Items.{among-filter, among-unfilter}
use Rattle.new_board.proofs.Columns.{among-first}
use Rattle.new_board.proofs.Taking.{IsTaking, none-taking, take-taking, take-grows, none-suited, IsOwn, take-places}

pub reading-some : (b : OldBoard) (chip : NewChip) (v : Read) (pin : ℕ) → Among pin (pair_pins chip.kind chip.mode) → is_literal_of v (pin_reads b chip pin) ≡ true →
    (p : ℕ) × (reading_pin b chip v ≡ Some p)
reading-some b chip v pin a e = among-first pin _ (among-filter (λ p. is_literal_of v (pin_reads b chip p)) pin (pair_pins chip.kind chip.mode) a e)

-- a variable that is read already
pub read-readable : (b : OldBoard) (chip : NewChip) (v : Read) → is_read b chip v ≡ true → (p : ℕ) × (reading_pin b chip v ≡ Some p)
read-readable b chip v e =
    let found = any-among (is_read_at b chip v) (pair_pins chip.kind chip.mode) e in
    reading-some b chip v found.0 found.1 (at (register_on b.circuit chip found.0) (fixed_net b chip found.0) _ found.2)
  where
    at : (k fixed other : Option ℕ) → is_literal_of v (read_by b.circuit k fixed) ≡ true → is_literal_of v (read_by b.circuit k (or_else fixed other)) ≡ true
    at (Some k) fixed other e = e
    at None None other e = cc
    at None (Some n) other e = e

-- the columns of the enable pin of registered units are on no pin of theirs
pub record EnableApart (b : OldBoard) (chip : NewChip) : Type 0 where
  pub none : (pin : ℕ) → Among pin (pair_pins chip.kind chip.mode) → (is_v8 chip.kind && eqb pin (enable_pin chip.kind)) ≡ true → first_registered b.circuit chip ≡ None

-- a pin that is free for an input
pub record IsFree (b : OldBoard) (chip : NewChip) (pin : ℕ) : Type 0 where
  pub column : Among pin (pair_pins chip.kind chip.mode)
  pub ordinary : Among pin (ordinary_pins chip.kind)
  pub no_unit : unit_on chip.units pin ≡ None
  pub no_clock : (eqb pin (clock_pin chip.kind) && is_some (clock_net b.circuit chip)) ≡ false

none-of : {T : Type 0} (o : Option T) → is_none o ≡ true → o ≡ None
none-of None e = refl
none-of (Some x) e = cc

pub free-pin : (b : OldBoard) (chip : NewChip) (pin : ℕ) → Among pin (free_pins b chip) → IsFree b chip pin
free-pin b chip pin a =
    let kept = among-unfilter (is_free b chip) pin (ordinary_pins chip.kind) a in
    let columns = list_any (λ p. eqb p pin) (pair_pins chip.kind chip.mode) in
    let no_clock = not (eqb pin (clock_pin chip.kind) && is_some (clock_net b.circuit chip)) in
    let outer = and_parts (columns && is_none (unit_on chip.units pin)) no_clock kept.1 in
    let inner = and_parts columns (is_none (unit_on chip.units pin)) outer.0 in
    let column = any-among (λ p. eqb p pin) (pair_pins chip.kind chip.mode) inner.0 in
    let same : column.0 ≡ pin = eqb-true column.0 pin column.2 in
    record {
      column = subst (λ (q : ℕ). Among q (pair_pins chip.kind chip.mode)) same column.1;
      ordinary = kept.0;
      no_unit = none-of (unit_on chip.units pin) inner.1;
      no_clock = not-true (eqb pin (clock_pin chip.kind) && is_some (clock_net b.circuit chip)) outer.1;
    }

pub pin-free : (b : OldBoard) (chip : NewChip) (pin : ℕ) → IsFree b chip pin → Among pin (free_pins b chip)
pin-free b chip pin f =
    among-filter (is_free b chip) pin (ordinary_pins chip.kind) f.ordinary
    (ap (λ (q : Bool). q && is_none (unit_on chip.units pin) && not (eqb pin (clock_pin chip.kind) && is_some (clock_net b.circuit chip)))
    (among-any (λ p. eqb p pin) pin (pair_pins chip.kind chip.mode) f.column (eq-eqb pin pin refl))
    ∙ ap (λ (o : Option PlacedUnit). is_none o && not (eqb pin (clock_pin chip.kind) && is_some (clock_net b.circuit chip))) f.no_unit
    ∙ ap (λ (q : Bool). not q) f.no_clock)

when-not : {T : Type 0} (q : Bool) (o : Option T) → (q && is_some o) ≡ false → when q o ≡ None
when-not true None e = refl
when-not true (Some x) e = cc
when-not false o e = refl

when-none : {T : Type 0} (q : Bool) (o : Option T) → (q ≡ true → o ≡ None) → when q o ≡ None
when-none true o f = f refl
when-none false o f = refl

pub free-fixed : (b : OldBoard) (chip : NewChip) (pin : ℕ) → EnableApart b chip → IsFree b chip pin → fixed_net b chip pin ≡ None
free-fixed b chip pin apart f =
    let clock = when (eqb pin (clock_pin chip.kind)) (clock_net b.circuit chip) in
    let enabled = λ (o : Option PlacedUnit). when (is_v8 chip.kind && eqb pin (enable_pin chip.kind)) (option_and_then (λ x. enable_net b x.enable) o) in
    let enable = enabled (first_registered b.circuit chip) in
    ap (λ (o : Option PlacedUnit). or_else (option_and_then (λ x. unit_net b x.unit) o) (or_else clock enable)) f.no_unit
    ∙ ap (λ (o : Option ℕ). or_else o enable) (when-not (eqb pin (clock_pin chip.kind)) (clock_net b.circuit chip) f.no_clock)
    ∙ when-none (is_v8 chip.kind && eqb pin (enable_pin chip.kind)) (option_and_then (λ x. enable_net b x.enable) (first_registered b.circuit chip))
    (λ e. ap (option_and_then (λ x. enable_net b x.enable)) (apart.none pin f.column e))

-- a variable that is wired by this net
pub record IsWired (b : OldBoard) (v : Read) (n : ℕ) : Type 0 where
  pub wire : wire_for b v ≡ Some n
  pub variable : (net_literal b.circuit n).source ≡ v

-- where the variable stood, on a free pin of its own
pub record Stood (b : OldBoard) (chip : NewChip) (v : Read) : Type 0 where
  pub pin : ℕ
  pub free : IsFree b chip pin
  pub stood : stood b chip v pin ≡ true

stood-alone : (b : OldBoard) (chip : NewChip) (pin : ℕ) (o : Option (ℕ × Kind)) (v w : Read) → stood_on b v pin o ≡ true → stood_on b w pin o ≡ true → w ≡ v
stood-alone b chip pin None v w e f = cc
stood-alone b chip pin (Some old) v w e f =
    let here = λ (q : Read). same_read (variable_of b.circuit (net_of b.net (old.0, pin))) q in
    sym (read-same _ w (and_parts (is_ordinary old.1 pin) (here w) f).1) ∙ read-same _ v (and_parts (is_ordinary old.1 pin) (here v) e).1

-- no other variable stood there
pub stood-own : (b : OldBoard) (chip : NewChip) (v : Read) (s : Stood b chip v) → IsOwn (stood b chip) (free_pins b chip) v s.pin
stood-own b chip v s = record {
  within = pin-free b chip s.pin s.free;
  suited = s.stood;
  alone = λ u e. stood-alone b chip s.pin (chip_from 0 b.net.chips chip.name) v u s.stood e;
}

-- the input pins are free pins, each of one variable
pub input-taking : (b : OldBoard) (chip : NewChip) → IsTaking (free_pins b chip) (input_pins b chip)
input-taking b chip =
    take-taking anywhere (free_pins b chip) (take_pins (stood b chip) (free_pins b chip) [] (input_variables b chip)) (input_variables b chip)
    (take-taking (stood b chip) (free_pins b chip) [] (input_variables b chip) (none-taking (free_pins b chip)))

-- a variable that takes an input pin is read there
pub stood-readable : (b : OldBoard) (chip : NewChip) (v : Read) (n : ℕ) → EnableApart b chip → Stood b chip v → IsWired b v n → Among v (input_variables b chip) →
    (p : ℕ) × (reading_pin b chip v ≡ Some p)
stood-readable b chip v n apart s w a =
    let first = take-places (stood b chip) (free_pins b chip) [] (input_variables b chip) v s.pin (none-suited (stood b chip)) (stood-own b chip v s) a in
    let placed = take-grows anywhere (free_pins b chip) (take_pins (stood b chip) (free_pins b chip) [] (input_variables b chip)) (input_variables b chip) (v, first.0) first.1 in
    let taking = input-taking b chip in
    let free = free-pin b chip first.0 (taking.within (v, first.0) placed) in
    let there : pin_net b chip first.0 ≡ Some n =
    ap (λ (o : Option ℕ). or_else o (option_and_then (wire_for b) (input_at (input_pins b chip) first.0))) (free-fixed b chip first.0 apart free)
    ∙ ap (option_and_then (wire_for b)) (taking.found (v, first.0) placed) ∙ w.wire in
    let reads : is_literal_of v (pin_reads b chip first.0) ≡ true =
    ap (λ (o : Option PlacedUnit). is_literal_of v (read_by b.circuit (option_and_then (placed_register b.circuit) o) (pin_net b chip first.0))) free.no_unit
    ∙ ap (λ (o : Option ℕ). is_literal_of v (read_by b.circuit None o)) there
    ∙ ap (λ (q : Read). same_read q v) w.variable ∙ same-read v in
    reading-some b chip v first.0 free.column reads

-- a needed variable that is read already, or that is wired and stood on a free pin
pub needed-readable : (b : OldBoard) (chip : NewChip) (v : Read) → EnableApart b chip → Among v (needed_variables b.circuit chip) →
    (is_read b chip v ≡ true) ⊎ ((n : ℕ) × Stood b chip v × IsWired b v n) → (p : ℕ) × (reading_pin b chip v ≡ Some p)
needed-readable b chip v apart a (inl e) = read-readable b chip v e
needed-readable b chip v apart a (inr (n, s, w)) = at (is_read b chip v) refl
  where
    at : (q : Bool) → is_read b chip v ≡ q → (p : ℕ) × (reading_pin b chip v ≡ Some p)
    at true e = read-readable b chip v e
    at false e = stood-readable b chip v n apart s w
        (among-filter (λ u. not (is_read b chip u) && is_some (wire_for b u)) v (needed_variables b.circuit chip) a
        (ap (λ (q : Bool). not q && is_some (wire_for b v)) e ∙ ap (λ (o : Option ℕ). is_some o) w.wire))
