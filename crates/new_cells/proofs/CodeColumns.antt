-- The literals of a new chip, by the columns of its pins.
use Rattle.std.proofs.Common.{ℕ, ◌≡◌, ◌==◌, cond, length, List, [], ◌∷◌, Bool, true, false, map, Option, Some, None, refl, sym, ap, ◌∙◌}
use Rattle.std.specs.Prelude.{filter, is_some, option_and_then}
use Rattle.mig_base.specs.declared.cells.Source.TheVariants.{Pin, Reg}
use Rattle.mig_base.specs.declared.cells.Lit.{Lit}
use Rattle.mig_base.specs.declared.cells.Enable.TheVariants as enable
use Rattle.mig_base.specs.declared.circuit.Gate.TheVariants as gate
use Rattle.mig_base.specs.declared.circuit.Literal.{Literal}
use Rattle.mig_base.specs.declared.circuit.Read.{Read}
use Rattle.new_board.specs.NewChip.{OldBoard, NewChip, register_on, is_literal_of, first_of, needed_variables}
use Rattle.new_board.specs.InputPins.{Taken, pin_reads, input_pins}
use Rattle.new_board.specs.NewFiles.{column_lit, lit_on, new_columns, new_product, new_enable}
use Rattle.avail.specs.ServedVariables.{pins_for}
use Rattle.new_cells.specs.PinColumns.{pin_columns, lit_by, lit_among}

by-column : (b : OldBoard) (chip : NewChip) (x : Literal) (pin : ℕ) (o : Option Literal) →
    lit_by (cond (is_some (register_on b.circuit chip pin)) (Reg pin) (Pin pin), o) x ≡ column_lit b chip x pin o
by-column b chip x pin None = refl
by-column b chip x pin (Some y) = refl

pub among-pins : (b : OldBoard) (chip : NewChip) (x : Literal) (pins : List ℕ) →
    lit_among (map (pin_columns b chip) pins) x ≡ option_and_then (lit_on b chip x) (first_of (filter (λ pin. is_literal_of x.source (pin_reads b chip pin)) pins))
among-pins b chip x [] = refl
among-pins b chip x (p ∷ ps) = at (is_literal_of x.source (pin_reads b chip p)) (among-pins b chip x ps)
  where
    at : (q : Bool) → lit_among (map (pin_columns b chip) ps) x ≡ option_and_then (lit_on b chip x) (first_of (filter (λ pin. is_literal_of x.source (pin_reads b chip pin)) ps)) →
        cond q (lit_by (pin_columns b chip p) x) (lit_among (map (pin_columns b chip) ps) x)
        ≡ option_and_then (lit_on b chip x) (first_of (cond q (p ∷ filter (λ pin. is_literal_of x.source (pin_reads b chip pin)) ps) (filter (λ pin. is_literal_of x.source (pin_reads b chip pin)) ps)))
    at true e = by-column b chip x p (pin_reads b chip p)
    at false e = e

-- what is found of a board and a chip, said of equal ones
pub needed-again : (a b : OldBoard) (k chip : NewChip) (needed : List Read) → a ≡ b → k ≡ chip → needed ≡ needed_variables b.circuit chip → needed ≡ needed_variables a.circuit k
needed-again a b k chip needed e f n = n ∙ ap (λ (o : OldBoard). needed_variables o.circuit chip) (sym e) ∙ ap (needed_variables a.circuit) (sym f)

pub columns-again : (a b : OldBoard) (k chip : NewChip) (lits : List Lit) → a ≡ b → k ≡ chip → lits ≡ new_columns b chip → lits ≡ new_columns a k
columns-again a b k chip lits e f n = n ∙ ap (λ (o : OldBoard). new_columns o chip) (sym e) ∙ ap (new_columns a) (sym f)

pub pins-needed : (a b : OldBoard) (k chip : NewChip) (needed found : List Read) (taken : List Taken) → a ≡ b → k ≡ chip → found ≡ needed → needed ≡ needed_variables b.circuit chip →
    taken ≡ pins_for a k found → taken ≡ input_pins a k
pins-needed a b k chip needed found taken e f n m t = t ∙ ap (pins_for a k) (n ∙ needed-again a b k chip needed e f m)

-- the enable of a product with literals
pub enable-term : (b : OldBoard) (chip : NewChip) (lits : List Literal) (product : List Lit) → (length lits == 0) ≡ false → product ≡ new_product b chip lits →
    enable.Term product ≡ new_enable b chip (gate.Product lits)
enable-term b chip [] product some e = cc
enable-term b chip (x ∷ xs) product some e = ap enable.Term e
