-- The pin of each unit of a given board is one of the board's, and stands on a net of it.
use Rattle.std.proofs.Common.{ℕ, zero, suc, ◌≡◌, Bool, true, false, if◌then◌else◌, List, [], ◌∷◌, length, Option, Some, None, Ok, refl, sym, ap, ◌∙◌, subst}
use Rattle.std.specs.List.{list_all, slice_get}
use Rattle.mig_base.specs.declared.cells.Cell.{Cell}
use Rattle.mig_base.specs.declared.cells.ChipCells.{ChipCells}
use Rattle.mig_base.specs.declared.cells.ChipError.{ChipError}
use Rattle.mig_base.specs.declared.cells.ChipError.TheVariants.{Count}
use Rattle.mig_base.specs.declared.kinds.Kind.{Kind}
use Rattle.mig_base.specs.declared.kinds.Mode.TheVariants.{Simple, Complex, Registered}
use Rattle.mig_base.specs.declared.nets.ChipLine.{ChipLine}
use Rattle.mig_base.specs.declared.nets.Net.{Net}
use Rattle.mig_base.specs.declared.circuit.Wire.{Wire}
use Rattle.mig_base.specs.Among.{Among}
use Rattle.mig_base.specs.Boards.{ChipUnit, at_of, circuit, net_of, pins_from, units_from}
use Rattle.mig_base.specs.Cells.{is_among, cells_22, cells_by_kind, pal_cells, v8_cells_in, v8_mode, v8_refusal, syn, ac0}
use Rattle.mig_base.specs.DeviceTables.{cell_pins, has_count, is_22, is_v8, ordinary_pins}
use Rattle.mig_base.specs.First.{unless}
use Rattle.mig_base.specs.Given.{AreMade, IsGiven, IsMade}
use Rattle.mig_base.proofs.KindFacts.{every-kind}
use Rattle.mig_base.proofs.Amongs.{map-among}
use Rattle.made_cells.proofs.MadeCells.{Told, v8_chip, made-well, counted}
use Rattle.new_board.proofs.Items.{all-pass}
use Rattle.new_board.proofs.Wiring.{LinesFit}
use Rattle.rebuilt_boards.proofs.BoardForms.{wiring-lines, writable-lines}
use Rattle.rebuilt_boards.proofs.Ranges.{net-within}
use Rattle.read_nodes.proofs.Columns.{pin-among}
use Rattle.read_nodes.proofs.Sources.{pin_of, pin-of-line, unit-on}

-- made cells are of their line's kind

told-kind : (k : Kind) (x c : ChipCells) → (let told : Told = Ok x in told) ≡ Ok c → x.kind ≡ k → c.kind ≡ k
told-kind k x c e is = let same : x ≡ c = cc in ap (λ (q : ChipCells). q.kind) (sym same) ∙ is

unrefused-kind : (k : Kind) (refusal : Option ChipError) (x c : ChipCells) → unless refusal (Ok x) ≡ Ok c → x.kind ≡ k → c.kind ≡ k
unrefused-kind k None x c e is = told-kind k x c e is
unrefused-kind k (Some r) x c e is = cc

v8-kind : (k : Kind) (bits : List Bool) (c : ChipCells) (s a : Bool) → v8_cells_in k bits (v8_mode s a) ≡ Ok c → c.kind ≡ k
v8-kind k bits c true false e = unrefused-kind k (v8_refusal k bits Simple) (v8_chip k Simple bits) c e refl
v8-kind k bits c true true e = unrefused-kind k (v8_refusal k bits Complex) (v8_chip k Complex bits) c e refl
v8-kind k bits c false true e = unrefused-kind k (v8_refusal k bits Registered) (v8_chip k Registered bits) c e refl
v8-kind k bits c false false e = cc

by-kind : (k : Kind) (bits : List Bool) (c : ChipCells) (of_22 of_v8 : Bool) →
    (if of_22 then Ok (cells_22 k bits) else (if of_v8 then v8_cells_in k bits (v8_mode (syn k bits) (ac0 k bits)) else Ok (pal_cells k bits))) ≡ Ok c → c.kind ≡ k
by-kind k bits c true of_v8 e = told-kind k (cells_22 k bits) c e refl
by-kind k bits c false true e = v8-kind k bits c (syn k bits) (ac0 k bits) e
by-kind k bits c false false e = told-kind k (pal_cells k bits) c e refl

made-kind : (line : ChipLine) (c : ChipCells) → IsMade line c → c.kind ≡ line.kind
made-kind line c made = by-kind line.kind made.0 c (is_22 line.kind) (is_v8 line.kind) (counted (has_count line.kind (length made.0)) (cells_by_kind line.kind made.0) (Count (length made.0)) c made.1)

-- the line of a chip
record HasLine (lines : List ChipLine) (k : ℕ) (c : ChipCells) : Type 0 where
  line : ChipLine
  found : slice_get lines k ≡ Some line
  made : IsMade line c

has-line : (lines : List ChipLine) (chips : List ChipCells) (k : ℕ) (c : ChipCells) → AreMade lines chips → slice_get chips k ≡ Some c → HasLine lines k c
has-line [] [] k c made e = cc
has-line [] (d ∷ ds) k c made e = absurd made
has-line (l ∷ ls) [] k c made e = absurd made
has-line (l ∷ ls) (d ∷ ds) zero c made e = let same : d ≡ c = cc in record { line = l; found = refl; made = subst (IsMade l) same made.0 }
has-line (l ∷ ls) (d ∷ ds) (suc k) c made e = let h = has-line ls ds k c made.1 e in record { line = h.line; found = h.found; made = h.made }

-- a macrocell pin is an ordinary one
pub cells-ordinary : (k : Kind) (pin : ℕ) → Among pin (cell_pins k) → Among pin (ordinary_pins k)
cells-ordinary k pin a = pin-among (ordinary_pins k) pin (all-pass (is_among (ordinary_pins k)) pin (cell_pins k) (every-kind (λ j. list_all (is_among (ordinary_pins j)) (cell_pins j)) refl k) a)

module _ (net : Net) (chips : List ChipCells) (given : IsGiven net chips) where
  pub lines-fit : LinesFit net
  lines-fit = wiring-lines net (writable-lines net given.wiring)

  pub unit-pin : (u : ChipUnit) → Among u (units_from 0 chips) → Among (at_of u) (pins_from 0 net.chips)
  unit-pin u a =
      let on = unit-on 0 chips u a in
      let h = has-line net.chips chips on.place u.cells given.cells on.cells in
      let own : Among u.cell.pin (cell_pins u.cells.kind) = subst (Among u.cell.pin) (made-well h.line u.cells h.made).pins (map-among (λ (x : Cell). x.pin) u.cell u.cells.cells on.cell) in
      let ordinary : Among u.cell.pin (ordinary_pins h.line.kind) = subst (λ (k : Kind). Among u.cell.pin (ordinary_pins k)) (made-kind h.line u.cells h.made) (cells-ordinary u.cells.kind u.cell.pin own) in
      subst (λ (j : ℕ). Among (pin_of j u.cell.pin) (pins_from 0 net.chips)) (sym on.chip) (pin-of-line 0 net.chips on.place h.line u.cell.pin h.found ordinary)

  pub unit-net : (u : ChipUnit) → Among u (units_from 0 chips) → (w : Wire) × (slice_get (circuit net chips).nets (net_of net (at_of u)) ≡ Some w)
  unit-net u a = net-within net (units_from 0 chips) (at_of u) lines-fit (unit-pin u a)
