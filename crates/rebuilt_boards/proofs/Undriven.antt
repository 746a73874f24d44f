-- Nets without driver, and the pins of PAL16 chips.
use Rattle.std.proofs.Common.{arith, ℕ, ◌≡◌, Bool, true, false, cond, ◌||◌, List, [], ◌∷◌, length, Option, Some, None, refl, ap, ◌∙◌, eqb, eqb-true, ltb}
use Rattle.std.specs.List.{slice_get}
use Rattle.mig_base.specs.declared.kinds.Kind.{Kind}
use Rattle.mig_base.specs.declared.kinds.Kind.TheVariants.{Gal16V8}
use Rattle.mig_base.specs.declared.kinds.Mode.TheVariants.{Fixed}
use Rattle.mig_base.specs.declared.cells.ChipCells.{ChipCells}
use Rattle.mig_base.specs.declared.nets.Net.{Net}
use Rattle.mig_base.specs.declared.nets.ChipLine.{ChipLine}
use Rattle.mig_base.specs.declared.circuit.Read.{Read}
use Rattle.mig_base.specs.declared.circuit.Read.TheVariants.{OfNet}
use Rattle.mig_base.specs.declared.circuit.Literal.{Literal}
use Rattle.mig_base.specs.declared.circuit.Wire.{Wire}
use Rattle.mig_base.specs.declared.circuit.Circuit.{Circuit}
use Rattle.mig_base.specs.Among.{Among}
use Rattle.mig_base.specs.DeviceTables.{is_pal16, pair_pins, ordinary_pins}
use Rattle.mig_base.specs.Structure.{is_shared, alias_of, alias_only, alias_wire, or_alias, variable_by, variable_literal, has_no_driver}
use Rattle.new_board.specs.NewChip.{OldBoard, private_from}
use Rattle.taken_boards.specs.TakenBoards.{is_undriven}
use Rattle.new_board.specs.InputPins.{chip_from}
use Rattle.new_board.specs.OneForOne.{gal_mode, same_chip}
use Rattle.new_board.proofs.Reading.{IsWired}
use Rattle.rebuilt_boards.proofs.PalCells.{pal16-table}
use Rattle.rebuilt_boards.proofs.PalUnits.{among-of}

-- a net that is there and has no driver
pub record IsUndriven (c : Circuit) (n : ℕ) : Type 0 where
  pub wire : Wire
  pub found : slice_get c.nets n ≡ Some wire
  pub none : wire.drivers ≡ []

pub undriven-no_driver : (c : Circuit) (n : ℕ) → IsUndriven c n → has_no_driver (slice_get c.nets n) ≡ true
undriven-no_driver c n u = ap has_no_driver u.found ∙ ap (λ (ds : List ℕ). eqb (length ds) 0) u.none

pub undriven-alias : (c : Circuit) (n : ℕ) → IsUndriven c n → alias_of c n ≡ None
undriven-alias c n u = ap (alias_wire c) u.found ∙ ap (λ (ds : List ℕ). cond (is_shared u.wire.kind) None (alias_only c ds)) u.none ∙ at (is_shared u.wire.kind)
  where
    at : (q : Bool) → cond {A = Option (ℕ × Bool)} q None None ≡ None
    at true = refl
    at false = refl

-- a literal of such a net is one of a variable
pub undriven-variable : (c : Circuit) (n : ℕ) (x : Literal) → IsUndriven c n → x.source ≡ OfNet n → (variable_literal c x).source ≡ OfNet n
undriven-variable c n x u e =
    ap (λ (v : Read). (variable_by c v x).source) e ∙ ap (λ (o : Option (ℕ × Bool)). (or_alias o x).source) (undriven-alias c n u) ∙ e

-- each chip is found by its name
pub record NamesFit (net : Net) : Type 0 where
  pub each : (j : ℕ) (line : ChipLine) → slice_get net.chips j ≡ Some line → chip_from 0 net.chips line.name ≡ Some (j, line.kind)

-- the pins of the columns of the new chip are those of the old one, and ordinary
pub same-pairs : (b : OldBoard) (j : ℕ) (line : ChipLine) (cells : ChipCells) → is_pal16 line.kind ≡ true →
    pair_pins (same_chip b j line cells).kind (same_chip b j line cells).mode ≡ pair_pins line.kind Fixed
same-pairs b j line cells pal =
    let table = pal16-table line.kind pal in
    ap (λ (k : Kind). pair_pins k (gal_mode line.kind cells.mode)) table.gal ∙ table.pairs cells.mode

pub column-ordinary : (k : Kind) (pin : ℕ) → is_pal16 k ≡ true → Among pin (pair_pins k Fixed) → Among pin (ordinary_pins Gal16V8)
column-ordinary k pin pal a = among-of (ordinary_pins Gal16V8) pin (pair_pins k Fixed) (pal16-table k pal).columns_ordinary a

pub undriven-wired : (b : OldBoard) (n : ℕ) → IsUndriven b.circuit n → IsWired b (OfNet n) n
undriven-wired b n u = record {
  wire = ap (λ (q : Bool). cond (ltb n (private_from b.net) || q) (Some n) None) (undriven-no_driver b.circuit n u) ∙ at (ltb n (private_from b.net));
  variable = undriven-variable b.circuit n (record { source = OfNet n; high = true }) u refl;
}
  where
    at : (q : Bool) → cond (q || true) (Some n) None ≡ Some n
    at true = refl
    at false = refl

pub wire-undriven : (c : Circuit) (n : ℕ) → is_undriven c (OfNet n) ≡ true → IsUndriven c n
wire-undriven c n e = at (slice_get c.nets n) refl e
  where
    empty : (ds : List ℕ) → length ds ≡ 0 → ds ≡ []
    empty [] e = refl
    empty (d ∷ ds) e = absurd (omega arith)

    at : (o : Option Wire) → slice_get c.nets n ≡ o → has_no_driver o ≡ true → IsUndriven c n
    at None is e = cc
    at (Some w) is e = record { wire = w; found = is; none = empty w.drivers (eqb-true (length w.drivers) 0 e) }
