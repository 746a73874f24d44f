-- The new chips that are made of the rows of placed units are those of the plan, and what their input pins give.
use Rattle.std.proofs.Common.{ℕ, ◌≡◌, Bool, true, false, cond, List, [], ◌∷◌, map, Option, Some, None, refl, sym, ap, ◌∙◌, inl}
use Rattle.std.specs.Prelude.{filter}
use Rattle.std.specs.Option.{option_map}
use Rattle.mig_base.specs.declared.circuit.Read.{Read}
use Rattle.mig_base.specs.declared.nets.Var.{Var}
use Rattle.mig_base.specs.declared.plans.Plan.{Plan}
use Rattle.mig_base.specs.declared.plans.PlanChip.{PlanChip}
use Rattle.mig_base.specs.declared.plans.Breach.{Breach}
use Rattle.mig_base.specs.declared.plans.Breach.TheVariants as breach
use Rattle.mig_base.specs.Among.{Among}
use Rattle.mig_base.specs.Reads.{IsNode}
use Rattle.mig_base.proofs.Amongs.{among-filter, among-node}
use Rattle.board.specs.Joined.{Joined}
use Rattle.board.specs.Variables.{var_of}
use Rattle.new_board.specs.declared.types.PlacedUnit.{PlacedUnit}
use Rattle.new_board.specs.NewChip.{OldBoard, NewChip, first_of, needed_variables}
use Rattle.new_board.specs.InputPins.{first_unserved}
use Rattle.plans.specs.FirstOf.{Says, AreEach}
use Rattle.plans.specs.declared.placing.Placing.{Placing}
use Rattle.plans.specs.Placings.{old, is_on, placings, absorbed_units}
use Rattle.plans.specs.Forms.{AreRows, IsNewChip}
use Rattle.plans.specs.Fitting.{AreNewChips}
use Rattle.plans.specs.ChipBreaches.{GivesNoInput}
use Rattle.std.proofs.lemmas.Option.{same_Some}
use Rattle.plans.proofs.FormLaws.{chip-one}
use Rattle.fit.specs.NewChips.{rows_on, chip_with, no_input}
use Rattle.fit.proofs.EachLaws.{each-map}
use Rattle.fit.proofs.Listed.{mapped-from}

rows-each : (R : Placing → PlacedUnit → Type 0) (name : List ℕ) (xs : List Placing) (rs : List PlacedUnit) → AreEach R xs rs → AreEach R (filter (is_on name) xs) (rows_on name xs rs)
rows-each R name [] [] h = tt
rows-each R name [] (r ∷ rs) h = absurd h
rows-each R name (x ∷ xs) [] h = absurd h
rows-each R name (x ∷ xs) (r ∷ rs) h = at (is_on name x) (rows-each R name xs rs h.1)
  where
    at : (q : Bool) → AreEach R (filter (is_on name) xs) (rows_on name xs rs) →
        AreEach R (cond q (x ∷ filter (is_on name) xs) (filter (is_on name) xs)) (cond q (r ∷ rows_on name xs rs) (rows_on name xs rs))
    at true k = (h.0, k)
    at false k = k

-- the rows of all placed units of a plan
abbrev pub HasRows : Joined → Plan → List PlacedUnit → Type 0
HasRows b p rows = AreEach (AreRows b (absorbed_units b p)) (placings b p) rows

-- the new chip of a chip of the plan
abbrev pub chip_by : Joined → Plan → List PlacedUnit → PlanChip → NewChip
chip_by b p rows = chip_with (placings b p) rows

pub new-chip : (b : Joined) (p : Plan) (rows : List PlacedUnit) → HasRows b p rows → (c : PlanChip) → IsNewChip b p c (chip_by b p rows c)
new-chip b p rows h c = record { name = refl; kind = refl; mode = refl; units = rows-each (AreRows b (absorbed_units b p)) c.name (placings b p) rows h }

pub new-chips : (b : Joined) (p : Plan) (rows : List PlacedUnit) → HasRows b p rows → AreNewChips b p (map (chip_by b p rows) p.chips)
new-chips b p rows h = each-map (IsNewChip b p) (chip_by b p rows) (new-chip b p rows h) p.chips

-- what the input pins of such a chip give is what the rule names
pub input-to : (b : Joined) (p : Plan) (rows : List PlacedUnit) → HasRows b p rows → (c : PlanChip) (y : Breach) → Says (no_input b) (chip_by b p rows c) y → GivesNoInput b p c y
input-to b p rows h c y e =
    let m = mapped-from (λ (v : Read). breach.NoInput c.name (var_of b.chips v)) (first_unserved (old b) (chip_by b p rows c)) y e in
    record { chip = chip_by b p rows c; is_new = new-chip b p rows h c; variable = m.0; first = m.1; names = m.2 }

pub input-from : (b : Joined) (p : Plan) (rows : List PlacedUnit) → HasRows b p rows → (c : PlanChip) (y : Breach) → GivesNoInput b p c y → Says (no_input b) (chip_by b p rows c) y
input-from b p rows h c y k =
    let same : chip_by b p rows c ≡ k.chip = chip-one b p c (chip_by b p rows c) k.chip (new-chip b p rows h c) k.is_new in
    ap (λ (n : NewChip). option_map (λ (v : Read). breach.NoInput c.name (var_of b.chips v)) (first_unserved (old b) n)) same
    ∙ ap (option_map (λ (v : Read). breach.NoInput c.name (var_of b.chips v))) k.first ∙ ap Some (sym k.names)

first-among : {T : Type 0} (xs : List T) (v : T) → first_of xs ≡ Some v → Among v xs
first-among [] v e = cc
first-among (x ∷ xs) v e = inl (sym (same_Some x v e))

-- a variable that is not served is a node of the board
pub unserved-node : (b : OldBoard) (chip : NewChip) (v : Read) → first_unserved b chip ≡ Some v → IsNode b.circuit v
unserved-node b chip v e =
    let needed = among-filter _ v (needed_variables b.circuit chip) (first-among _ v e) in
    among-node b.circuit v (among-filter _ v _ needed.1).1

-- what is found of a board and a chip, said of equal ones
pub unserved-again : (a b : OldBoard) (k chip : NewChip) (o : Option Read) → a ≡ b → k ≡ chip → o ≡ first_unserved a k → o ≡ first_unserved b chip
unserved-again a b k chip o e f h = h ∙ ap (λ (x : OldBoard). first_unserved x k) e ∙ ap (first_unserved b) f

pub input-breach : (b : Joined) (chip : NewChip) (name : List ℕ) (v : Read) (w : Var) → name ≡ chip.name → w ≡ var_of b.chips v → Some v ≡ first_unserved (old b) chip → Some (breach.NoInput name w) ≡ no_input b chip
input-breach b chip name v w n m e =
    ap (λ (x : List ℕ). Some (breach.NoInput x w)) n ∙ ap (λ (x : Var). Some (breach.NoInput chip.name x)) m ∙ ap (option_map (λ (x : Read). breach.NoInput chip.name (var_of b.chips x))) e

pub no-input-breach : (b : Joined) (chip : NewChip) → None ≡ first_unserved (old b) chip → None ≡ no_input b chip
no-input-breach b chip e = ap (option_map (λ (x : Read). breach.NoInput chip.name (var_of b.chips x))) e
