-- An accepted board is refused for want of memory alone.
use Rattle.std.proofs.Common.{ℕ, ◌≡◌, ◌<◌, Bool, true, false, not, ◌&&◌, List, [], ◌∷◌, length, get_or, Option, Some, None, refl, sym, ap, ◌∙◌}
use Rattle.std.specs.Prelude.{slice_get, ◌==◌}
use Rattle.std.specs.List.{position}
use Rattle.std.proofs.lemmas.List.Quantifiers.{position-Some}
use Rattle.std.proofs.lemmas.Option.{slice_get-get_or}
use Rattle.mig_base.specs.declared.cells.ChipCells.{ChipCells}
use Rattle.mig_base.specs.declared.circuit.Circuit.{Circuit}
use Rattle.mig_base.specs.declared.circuit.Read.{Read}
use Rattle.mig_base.specs.declared.circuit.Register.{Register}
use Rattle.mig_base.specs.declared.circuit.Wire.{Wire}
use Rattle.mig_base.specs.declared.nets.BoardError.{BoardError}
use Rattle.mig_base.specs.declared.nets.BoardError.TheVariants.{InDriven, DerivedClock, Loop, Memory}
use Rattle.mig_base.specs.declared.nets.Net.{Net}
use Rattle.mig_base.specs.declared.nets.Node.{Node}
use Rattle.mig_base.specs.declared.nets.PinName.{PinName}
use Rattle.mig_base.specs.Accepted.{IsAccepted, is_fixed}
use Rattle.mig_base.specs.Boards.{circuit}
use Rattle.ranks.specs.FirstLoop.{IsFirstLoop}
use Rattle.board.specs.NodeNames.{net_names, register_pins}
use Rattle.board.specs.Refusals.{first_derived, first_driven, is_derived, is_driven_input, is_input, Refuses, RefusesBoard}

-- the first item that passes is one that passes
some-passes : {X : Type 0} (p : X → Bool) (xs : List X) (n : ℕ) → position p xs ≡ Some n → (x : X) × (slice_get xs n ≡ Some x) × (p x ≡ true)
some-passes p [] n e = cc
some-passes {X} p (x ∷ xs) n e =
    let first = position-Some p (x ∷ xs) n x e in
    (get_or (x ∷ xs) n x, slice_get-get_or (x ∷ xs) n x first.0, first.1)

-- an input with a driver
input-driven : (w : Wire) → is_driven_input w ≡ true → (is_fixed w.kind ≡ true) × (w.drivers ≡ [] → ⊥)
input-driven w e = at (is_fixed w.kind) w.drivers e
  where
    at : (f : Bool) (drivers : List ℕ) → (f && not (length drivers == 0)) ≡ true → (f ≡ true) × (drivers ≡ [] → ⊥)
    at true [] e = cc
    at true (u ∷ us) e = (refl, λ none. cc)
    at false drivers e = cc

no-driven : (c : Circuit) (n : ℕ) → IsAccepted c → first_driven c ≡ Some n → ⊥
no-driven c n is e =
    let first = some-passes is_driven_input c.nets n e in
    let input = input-driven first.0 first.2 in
    input.1 (is.driven n first.0 first.1 input.0)

no-derived : (c : Circuit) (k : ℕ) → IsAccepted c → first_derived c ≡ Some k → ⊥
no-derived c k is e =
    let first = some-passes (is_derived c) c.registers k e in
    let clock = is.clocks k first.0 first.1 in
    let fixed : is_input (slice_get c.nets first.0.clock) ≡ true = ap is_input clock.1 ∙ clock.2 in
    let none : not (is_input (slice_get c.nets first.0.clock)) ≡ true = first.2 in
    cc

no-cycle : (c : Circuit) (cycle : List Read) → IsAccepted c → IsFirstLoop c cycle → ⊥
no-cycle c [] is first = absurd first
no-cycle c (v ∷ vs) is first = let loop = first.first.has in is.no_loop v loop.0 loop.1

-- accepted equations are refused for want of memory alone
accepted-refuses : (c : Circuit) (nets : List Node) (pins : List PinName) (e : BoardError) → IsAccepted c → Refuses c nets pins e → e ≡ Memory
accepted-refuses c nets pins (InDriven node) is refused = absurd (no-driven c refused.0 is refused.1)
accepted-refuses c nets pins (DerivedClock chip) is refused = absurd (no-derived c refused.1.0 is refused.1.2)
accepted-refuses c nets pins (Loop cycle) is refused = absurd (no-cycle c refused.2.0 is refused.2.1)
accepted-refuses c nets pins Memory is refused = refl

pub accepted-not_refused : (net : Net) (chips : List ChipCells) (e : BoardError) → IsAccepted (circuit net chips) → RefusesBoard net chips e → e ≡ Memory
accepted-not_refused net chips e is refused = accepted-refuses (circuit net chips) (net_names net) (register_pins net chips) e is refused
