-- A needed variable that takes an input pin is read there, and one that stood on a free pin of its own takes one.
use Rattle.std.proofs.Common.{ℕ, ◌≡◌, Bool, true, false, not, ◌&&◌, ◌||◌, List, [], ◌∷◌, Option, Some, None, is_some, refl, sym, ap, ◌∙◌, subst, inl, inr, ◌⊎◌, eqb-true}
use Rattle.std.specs.Prelude.{option_and_then}
use Rattle.std.proofs.lemmas.Bool.{and_parts}
use Rattle.mig_base.specs.First.{or_else}
use Rattle.mig_base.specs.declared.circuit.Read.{Read}
use Rattle.mig_base.specs.declared.circuit.Read.TheVariants.{OfNet, OfRegister}
use Rattle.mig_base.specs.declared.circuit.Circuit.{Circuit}
use Rattle.mig_base.specs.Among.{Among}
use Rattle.mig_base.specs.Structure.{same_read, variable_of, alias_of, or_alias}
use Rattle.mig_base.proofs.Amongs.{among-any, among-split}
use Rattle.mig_base.proofs.ReadLaws.{same-read}
use Rattle.new_board.specs.declared.types.PlacedUnit.{PlacedUnit}
use Rattle.new_board.specs.NewChip.{OldBoard, NewChip, placed_register, is_read, net_literal, read_by, is_literal_of, is_register_of, can_stand, when, first_of, needed_variables}
use Rattle.new_board.specs.InputPins.{Taken, wire_for, free_pins, input_variables, input_pins, input_at, has_pin, take_pins, stood, anywhere, pin_net, pin_reads, reading_pin, is_served, first_unserved}
use Rattle.new_board.proofs.Items.{among-filter, among-unfilter, filter-none}
use Rattle.new_board.proofs.Columns.{first-among}
use Rattle.new_board.proofs.Taking.{step, step-cases, has-placed, none-suited, take-places, take-grows}
use Rattle.new_board.proofs.Reading.{EnableApart, Stood, reading-some, read-readable, free-pin, free-fixed, input-taking, stood-own}

-- only variables that ask take pins

abbrev AreFrom : List Read → List Taken → Type 0
AreFrom vs taken = (t : Taken) → Among t taken → Among t.0 vs

step-from : (suits : Read → ℕ → Bool) (pins : List ℕ) (taken : List Taken) (v : Read) (vs : List Read) → Among v vs → AreFrom vs taken → AreFrom vs (step suits pins taken v)
step-from suits pins taken v vs a from = step-cases (AreFrom vs) suits pins taken v from (λ pin o t h. at pin t (among-split t taken ((v, pin) ∷ []) h))
  where
    at : (pin : ℕ) (t : Taken) → Among t taken ⊎ Among t ((v, pin) ∷ []) → Among t.0 vs
    at pin t (inl h) = from t h
    at pin t (inr (inl e)) = subst (λ (q : Taken). Among q.0 vs) (sym e) a
    at pin t (inr (inr h)) = absurd h

take-from : (suits : Read → ℕ → Bool) (pins : List ℕ) (taken : List Taken) (ws vs : List Read) → ((w : Read) → Among w ws → Among w vs) → AreFrom vs taken → AreFrom vs (take_pins suits pins taken ws)
take-from suits pins taken [] vs sub from = from
take-from suits pins taken (w ∷ ws) vs sub from =
    take-from suits pins (step suits pins taken w) ws vs (λ u a. sub u (inr a)) (step-from suits pins taken w vs (sub w (inl refl)) from)

inputs-from : (b : OldBoard) (chip : NewChip) → AreFrom (input_variables b chip) (input_pins b chip)
inputs-from b chip =
    take-from anywhere (free_pins b chip) (take_pins (stood b chip) (free_pins b chip) [] (input_variables b chip)) (input_variables b chip) (input_variables b chip) (λ w a. a)
    (take-from (stood b chip) (free_pins b chip) [] (input_variables b chip) (input_variables b chip) (λ w a. a) (λ t a. absurd a))

-- the net that a variable is wired by has its level

-- a variable is its own: a net that is one is no alias net
abbrev pub IsOwnVariable : Circuit → Read → Type 0
IsOwnVariable c (OfNet n) = variable_of c n ≡ OfNet n
IsOwnVariable c (OfRegister k) = Unit {0}

when-some : (q : Bool) (n m : ℕ) → when q (Some n) ≡ Some m → n ≡ m
when-some true n m e = cc
when-some false n m e = cc

alias-register : (c : Circuit) (k n : ℕ) → is_register_of k (alias_of c n) ≡ true → (net_literal c n).source ≡ OfRegister k
alias-register c k n e = at (alias_of c n) e
  where
    at : (o : Option (ℕ × Bool)) → is_register_of k o ≡ true → (or_alias o (record { source = OfNet n; high = true })).source ≡ OfRegister k
    at None h = cc
    at (Some a) h = ap OfRegister (eqb-true a.0 k h)

pub wired-variable : (b : OldBoard) (v : Read) (n : ℕ) → IsOwnVariable b.circuit v → wire_for b v ≡ Some n → (net_literal b.circuit n).source ≡ v
wired-variable b (OfNet m) n own e = subst (λ q. (net_literal b.circuit q).source ≡ OfNet m) (when-some (can_stand b m) m n e) own
wired-variable b (OfRegister k) n own e =
    let test = λ (m : ℕ). is_register_of k (alias_of b.circuit m) in
    alias-register b.circuit k n (among-unfilter test n _ (first-among _ n e)).1

some-of : (o : Option ℕ) → is_some o ≡ true → (n : ℕ) × (o ≡ Some n)
some-of None e = cc
some-of (Some n) e = (n, refl)

-- a variable on an input pin is read there
pub input-readable : (b : OldBoard) (chip : NewChip) (v : Read) → EnableApart b chip → IsOwnVariable b.circuit v → has_pin (input_pins b chip) v ≡ true →
    (p : ℕ) × (reading_pin b chip v ≡ Some p)
input-readable b chip v apart own e =
    let placed = has-placed (input_pins b chip) v e in
    let asks = among-unfilter (λ u. not (is_read b chip u) && is_some (wire_for b u)) v (needed_variables b.circuit chip) (inputs-from b chip (v, placed.0) placed.1) in
    let wire = some-of (wire_for b v) (and_parts (not (is_read b chip v)) (is_some (wire_for b v)) asks.1).1 in
    let taking = input-taking b chip in
    let free = free-pin b chip placed.0 (taking.within (v, placed.0) placed.1) in
    let there : pin_net b chip placed.0 ≡ Some wire.0 =
    ap (λ (o : Option ℕ). or_else o (option_and_then (wire_for b) (input_at (input_pins b chip) placed.0))) (free-fixed b chip placed.0 apart free)
    ∙ ap (option_and_then (wire_for b)) (taking.found (v, placed.0) placed.1) ∙ wire.1 in
    let reads : is_literal_of v (pin_reads b chip placed.0) ≡ true =
    ap (λ (o : Option PlacedUnit). is_literal_of v (read_by b.circuit (option_and_then (placed_register b.circuit) o) (pin_net b chip placed.0))) free.no_unit
    ∙ ap (λ (o : Option ℕ). is_literal_of v (read_by b.circuit None o)) there
    ∙ ap (λ (q : Read). same_read q v) (wired-variable b v wire.0 own wire.1) ∙ same-read v in
    reading-some b chip v placed.0 free.column reads

-- a variable that is served is read
pub served-readable : (b : OldBoard) (chip : NewChip) (v : Read) → EnableApart b chip → IsOwnVariable b.circuit v → is_served b chip v ≡ true → (p : ℕ) × (reading_pin b chip v ≡ Some p)
served-readable b chip v apart own e = at (is_read b chip v) (has_pin (input_pins b chip) v) refl refl e
  where
    at : (q r : Bool) → is_read b chip v ≡ q → has_pin (input_pins b chip) v ≡ r → (q || r) ≡ true → (p : ℕ) × (reading_pin b chip v ≡ Some p)
    at true r h k e = read-readable b chip v h
    at false true h k e = input-readable b chip v apart own k
    at false false h k e = cc

-- a needed variable that can be wired and stood on a free pin of its own is served
pub stood-served : (b : OldBoard) (chip : NewChip) (v : Read) → Among v (needed_variables b.circuit chip) → Stood b chip v → is_some (wire_for b v) ≡ true → is_served b chip v ≡ true
stood-served b chip v a s w = at (is_read b chip v) refl
  where
    at : (q : Bool) → is_read b chip v ≡ q → (q || has_pin (input_pins b chip) v) ≡ true
    at true e = refl
    at false e =
        let asks = among-filter (λ u. not (is_read b chip u) && is_some (wire_for b u)) v (needed_variables b.circuit chip) a
        (ap (λ (q : Bool). not q && is_some (wire_for b v)) e ∙ w) in
        let first = take-places (stood b chip) (free_pins b chip) [] (input_variables b chip) v s.pin (none-suited (stood b chip)) (stood-own b chip v s) asks in
        let placed = take-grows anywhere (free_pins b chip) (take_pins (stood b chip) (free_pins b chip) [] (input_variables b chip)) (input_variables b chip) (v, first.0) first.1 in
        among-any (λ t. same_read t.0 v) (v, first.0) (input_pins b chip) placed (same-read v)

-- where all needed variables are served there is no first one that isn't
pub all-served : (b : OldBoard) (chip : NewChip) → ((v : Read) → Among v (needed_variables b.circuit chip) → is_served b chip v ≡ true) → first_unserved b chip ≡ None
all-served b chip each =
    ap first_of (filter-none (λ v. not (is_served b chip v)) (needed_variables b.circuit chip) (λ v a. ap not (each v a)))

none-first : {T : Type 0} (xs : List T) → first_of xs ≡ None → (x : T) → Among x xs → ⊥
none-first [] e x a = a
none-first (y ∷ ys) e x a = cc

pub served-all : (b : OldBoard) (chip : NewChip) → first_unserved b chip ≡ None → (v : Read) → Among v (needed_variables b.circuit chip) → is_served b chip v ≡ true
served-all b chip e v a = at (is_served b chip v) refl
  where
    at : (q : Bool) → is_served b chip v ≡ q → q ≡ true
    at true h = refl
    at false h = absurd (none-first _ e v (among-filter (λ u. not (is_served b chip u)) v (needed_variables b.circuit chip) a (ap not h)))
