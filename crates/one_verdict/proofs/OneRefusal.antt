-- A board is refused for one thing.
use Rattle.std.proofs.Common.{ℕ, ◌≡◌, ◌≢◌, List, Option, Some, None, Result, Ok, Err, refl, sym, ap, ◌∙◌, subst, inl, inr, map}
use Rattle.mig_base.specs.declared.circuit.Circuit.{Circuit}
use Rattle.mig_base.specs.declared.circuit.Read.{Read}
use Rattle.mig_base.specs.declared.circuit.Read.TheVariants.{OfNet}
use Rattle.mig_base.specs.Accepted.{IsAccepted}
use Rattle.mig_base.specs.declared.nets.Node.{Node}
use Rattle.mig_base.specs.declared.nets.PinName.{PinName}
use Rattle.mig_base.specs.declared.nets.BoardError.{BoardError}
use Rattle.mig_base.specs.declared.nets.BoardError.TheVariants.{InDriven, DerivedClock, Loop, Memory}
use Rattle.std.specs.Prelude.{slice_get}
use Rattle.answers.specs.declared.exit.Exit.{Exit}
use Rattle.answers.specs.declared.exit.Exit.TheVariants.{Refused}
use Rattle.answers.specs.declared.exit.Refusal.TheVariants as refusal
use Rattle.ranks.proofs.OneLoop.{first_loop-unique}
use Rattle.board.specs.Joined.{Joined, equations_of}
use Rattle.board.specs.NodeNames.{name_by, net_names, register_pins}
use Rattle.mig_base.specs.Boards.{circuit}
use Rattle.board.specs.Refusals.{Refuses, first_driven, first_derived}
use Rattle.board.proofs.NotRefused.{accepted-not_refused}
use Rattle.mig_io.specs.Holding.{Held}
use Rattle.verdicts.specs.HeldBoard.{net_file}
use Rattle.verdicts.specs.Outcomes.{Then}
use Rattle.verdicts.specs.JudgedBoard.{Joins, JudgesBoard, parts_held}

some-same : {T : Type 0} (o : Option T) (x y : T) → o ≡ Some x → o ≡ Some y → x ≡ y
some-same o x y p q = cc

none-some : {T : Type 0} (o : Option T) (x : T) → o ≡ None → o ≡ Some x → ⊥
none-some o x p q = let no : ⊥ = cc in no

-- equations are refused for one thing, want of memory aside
refused-once : (c : Circuit) (nets : List Node) (pins : List PinName) (x y : BoardError) → Refuses c nets pins x → Refuses c nets pins y → x ≢ Memory → y ≢ Memory → x ≡ y
refused-once c nets pins Memory y p q m n = absurd (m refl)
refused-once c nets pins (InDriven v) Memory p q m n = absurd (n refl)
refused-once c nets pins (InDriven v) (InDriven w) p q m n =
    ap InDriven (p.2 ∙ ap (λ (k : ℕ). name_by nets pins (OfNet k)) (some-same (first_driven c) p.0 q.0 p.1 q.1) ∙ sym q.2)
refused-once c nets pins (InDriven v) (DerivedClock d) p q m n = absurd (none-some (first_driven c) p.0 q.0 p.1)
refused-once c nets pins (InDriven v) (Loop d) p q m n = absurd (none-some (first_driven c) p.0 q.0 p.1)
refused-once c nets pins (DerivedClock d) Memory p q m n = absurd (n refl)
refused-once c nets pins (DerivedClock d) (InDriven w) p q m n = absurd (none-some (first_driven c) q.0 p.0 q.1)
refused-once c nets pins (DerivedClock d) (DerivedClock e) p q m n =
    let place : p.1.0 ≡ q.1.0 = some-same (first_derived c) p.1.0 q.1.0 p.1.2 q.1.2 in
    let pin : p.1.1 ≡ q.1.1 = some-same (slice_get pins q.1.0) p.1.1 q.1.1 (subst (λ (k : ℕ). slice_get pins k ≡ Some p.1.1) place p.1.3) q.1.3 in
    ap DerivedClock (p.1.4 ∙ ap (λ (x : PinName). x.chip) pin ∙ sym q.1.4)
refused-once c nets pins (DerivedClock d) (Loop e) p q m n = absurd (none-some (first_derived c) p.1.0 q.1 p.1.2)
refused-once c nets pins (Loop d) Memory p q m n = absurd (n refl)
refused-once c nets pins (Loop d) (InDriven w) p q m n = absurd (none-some (first_driven c) q.0 p.0 q.1)
refused-once c nets pins (Loop d) (DerivedClock e) p q m n = absurd (none-some (first_derived c) q.1.0 p.1 q.1.2)
refused-once c nets pins (Loop d) (Loop e) p q m n =
    ap Loop (p.2.2 ∙ ap (λ (l : List Read). map (name_by nets pins) l) (first_loop-unique c p.2.0 q.2.0 p.2.1 q.2.1) ∙ sym q.2.2)

-- a board, or why there is none, is one thing
joins-once : (name : List ℕ) (parts : Joined) (r s : Result Joined Exit) → Joins name parts r → Joins name parts s → r ≡ s
joins-once name parts (Ok b) (Ok d) p q = ap (λ (x : Joined). Ok x) (p.0 ∙ sym q.0)
joins-once name parts (Ok b) (Err e) p q = absurd (q.2 (accepted-not_refused parts.net parts.chips q.0 (subst (λ (x : Joined). IsAccepted (equations_of x)) p.0 p.1) q.1))
joins-once name parts (Err e) (Ok d) p q = absurd (p.2 (accepted-not_refused parts.net parts.chips p.0 (subst (λ (x : Joined). IsAccepted (equations_of x)) q.0 q.1) p.1))
joins-once name parts (Err e) (Err f) p q = ap (λ (x : Exit). Err x) (p.3 ∙ ap (λ (x : BoardError). Refused (refusal.Board name x)) (refused-once (circuit parts.net parts.chips) (net_names parts.net) (register_pins parts.net parts.chips) p.0 q.0 p.1 q.1 p.2 q.2) ∙ sym q.3)

-- two steps give one thing, where each of them does
pub then-once : {A B : Type 0} (first : Result A Exit → Type 0) (next : A → Result B Exit → Type 0) (r s : Result B Exit) → ((p q : Result A Exit) → first p → first q → p ≡ q) →
    ((x : A) (p q : Result B Exit) → first (Ok x) → next x p → next x q → p ≡ q) → Then first next r → Then first next s → r ≡ s
then-once first next r s one more (inl p) (inl q) =
    let same : p.0 ≡ q.0 = let e : (let v : Result _ Exit = Ok p.0 in v) ≡ Ok q.0 = one (Ok p.0) (Ok q.0) p.1 q.1 in cc in
    more q.0 r s q.1 (subst (λ x. next x r) same p.2) q.2
then-once first next r s one more (inl p) (inr q) = absurd (let e = one (Ok p.0) (Err q.0) p.1 q.1 in let no : ⊥ = cc in no)
then-once first next r s one more (inr p) (inl q) = absurd (let e = one (Err p.0) (Ok q.0) p.1 q.1 in let no : ⊥ = cc in no)
then-once {A = A} first next r s one more (inr p) (inr q) =
    let same : p.0 ≡ q.0 = let e : (let v : Result A Exit = Err p.0 in v) ≡ Err q.0 = one (Err p.0) (Err q.0) p.1 q.1 in cc in
    p.2 ∙ ap (λ (x : Exit). Err x) same ∙ sym q.2

pub board-once : (stem : List ℕ) (held : Held) (r s : Result Joined Exit) → JudgesBoard stem held r → JudgesBoard stem held s → r ≡ s
board-once stem held r s p q =
    then-once (λ x. parts_held held stem ≡ x) (Joins (net_file stem)) r s (λ x y a b. sym a ∙ b) (λ parts x y a b c. joins-once (net_file stem) parts x y b c) p q

-- a board that is judged is accepted
pub board-accepted : (stem : List ℕ) (held : Held) (b : Joined) → JudgesBoard stem held (Ok b) → IsAccepted (equations_of b)
board-accepted stem held b (inl p) = p.2.1
board-accepted stem held b (inr p) = absurd (let no : ⊥ = cc in no)
