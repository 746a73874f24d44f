-- The first registered unit of a new chip is that of its plan, and each registered unit has a register.
use Rattle.std.proofs.Common.{ℕ, ◌≡◌, Bool, true, false, cond, List, [], ◌∷◌, Option, Some, None, is_some, refl, sym, ap, subst}
use Rattle.std.specs.List.{filter, slice_get}
use Rattle.std.proofs.lemmas.Option.{same_Some}
use Rattle.mig_base.specs.declared.circuit.Driver.{Driver}
use Rattle.mig_base.specs.declared.circuit.Gives.{Gives}
use Rattle.mig_base.specs.declared.circuit.Gives.TheVariants.{Sum, Visible}
use Rattle.mig_base.specs.declared.circuit.Register.{Register}
use Rattle.mig_base.specs.Given.{IsGiven}
use Rattle.mig_base.proofs.ListLaws.{item-at}
use Rattle.structure.specs.Live.{GivesQ, HasRegister}
use Rattle.board.specs.Joined.{Joined, equations_of}
use Rattle.new_board.specs.declared.types.PlacedUnit.{PlacedUnit}
use Rattle.new_board.specs.NewChip.{first_of, is_registered_unit, register_driven, register_given, unit_register}
use Rattle.plans.specs.FirstOf.{AreEach}
use Rattle.plans.specs.declared.placing.Placing.{Placing}
use Rattle.plans.specs.Forms.{AreRows, has_register}
use Rattle.wired_boards.proofs.ApartUnits.{given-wired}

-- a placed unit is registered where its unit is
pub same-register : (b : Joined) (absorbed : List ℕ) (y : Placing) (x : PlacedUnit) → AreRows b absorbed y x → has_register b y.unit ≡ is_registered_unit (equations_of b) x
same-register b absorbed y x rows = ap (λ (u : ℕ). is_some (unit_register (equations_of b) u)) (sym rows.unit)

-- the first registered one of both lists
pub first-both : (b : Joined) (absorbed : List ℕ) (ys : List Placing) (xs : List PlacedUnit) → AreEach (AreRows b absorbed) ys xs → (x : PlacedUnit) →
    first_of (filter (is_registered_unit (equations_of b)) xs) ≡ Some x → (y : Placing) × (first_of (filter (λ z. has_register b z.unit) ys) ≡ Some y) × AreRows b absorbed y x
first-both b absorbed [] [] each x e = cc
first-both b absorbed [] (z ∷ zs) each x e = absurd each
first-both b absorbed (y ∷ ys) [] each x e = absurd each
first-both b absorbed (y ∷ ys) (z ∷ zs) each x e = at (is_registered_unit (equations_of b) z) (same-register b absorbed y z each.0) e (first-both b absorbed ys zs each.1 x)
  where
    Found : List Placing → Type 0
    Found us = (w : Placing) × (first_of us ≡ Some w) × AreRows b absorbed w x

    at : (q : Bool) → has_register b y.unit ≡ q → first_of (cond q (z ∷ filter (is_registered_unit (equations_of b)) zs) (filter (is_registered_unit (equations_of b)) zs)) ≡ Some x →
        (first_of (filter (is_registered_unit (equations_of b)) zs) ≡ Some x → Found (filter (λ w. has_register b w.unit) ys)) →
        Found (cond (has_register b y.unit) (y ∷ filter (λ w. has_register b w.unit) ys) (filter (λ w. has_register b w.unit) ys))
    at true is h rest = subst (λ (q : Bool). Found (cond q (y ∷ filter (λ w. has_register b w.unit) ys) (filter (λ w. has_register b w.unit) ys))) (sym is)
        (y, refl, subst (AreRows b absorbed y) (same_Some z x h) each.0)
    at false is h rest = subst (λ (q : Bool). Found (cond q (y ∷ filter (λ w. has_register b w.unit) ys) (filter (λ w. has_register b w.unit) ys))) (sym is) (rest h)

-- a unit's register is one of the board
pub register-there : (b : Joined) → IsGiven b.net b.chips → (u k : ℕ) → unit_register (equations_of b) u ≡ Some k → (r : Register) × (slice_get (equations_of b).registers k ≡ Some r)
register-there b given u k e = item-at (equations_of b).registers k ((given-wired b.net b.chips given).registers k u (at (slice_get (equations_of b).units u) e))
  where
    gives : (g : Gives) → register_given g ≡ Some k → GivesQ k g
    gives (Sum ts) h = cc
    gives (Visible j) h = same_Some j k h

    at : (o : Option Driver) → register_driven o ≡ Some k → HasRegister k o
    at None h = cc
    at (Some d) h = gives d.gives h
