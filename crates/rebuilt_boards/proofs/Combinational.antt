-- A combinational unit of a new chip drives the level of its old unit.
use Rattle.std.proofs.Common.{ℕ, ◌≡◌, Bool, true, false, cond, List, [], ◌∷◌, ◌++◌, map, Option, Some, None, refl, sym, ap, ◌∙◌, subst, inl, inr}
use Rattle.std.specs.List.{AllByRecursion, slice_get}
use Rattle.std.specs.Option.{option_map}
use Rattle.std.proofs.lemmas.Option.{same_Some, slice_get-map}
use Rattle.mig_base.specs.declared.levels.Level.{Level}
use Rattle.mig_base.specs.declared.cells.Source.{Source}
use Rattle.mig_base.specs.declared.cells.Lit.{Lit}
use Rattle.mig_base.specs.declared.cells.Form.TheVariants as form
use Rattle.mig_base.specs.declared.cells.Cell.{Cell}
use Rattle.mig_base.specs.declared.nets.Net.{Net}
use Rattle.mig_base.specs.declared.circuit.Read.{Read}
use Rattle.mig_base.specs.declared.circuit.Read.TheVariants.{OfNet}
use Rattle.mig_base.specs.declared.circuit.Literal.{Literal}
use Rattle.mig_base.specs.declared.circuit.Gate.{Gate}
use Rattle.mig_base.specs.declared.circuit.Gate.TheVariants.{Product}
use Rattle.mig_base.specs.declared.circuit.Gives.TheVariants.{Sum, Visible}
use Rattle.mig_base.specs.declared.circuit.Driver.{Driver}
use Rattle.mig_base.specs.declared.circuit.Levels.{Levels}
use Rattle.mig_base.specs.DeviceTables.{pair_pins}
use Rattle.mig_base.specs.Levels.{or3, read_level, level_at}
use Rattle.mig_base.specs.Values.{source_level, literal_value, product_value, sum_value, row_value, inverted, product_reads, sum_reads, row_reads}
use Rattle.mig_base.specs.Among.{Among}
use Rattle.mig_base.specs.Boards.{ChipUnit, is_registered, registers_of, at_of, place_of, net_of, read_of, literals_of, enable_on, can_drive, driver_of, circuit_on}
use Rattle.mig_base.specs.Structure.{variable_product}
use Rattle.mig_base.proofs.ListLaws.{all-append}
use Rattle.mig_base.proofs.Amongs.{among-map, all-among}
use Rattle.level_laws.specs.Settled.{gated}
use Rattle.level_laws.specs.Follows.{SameAt}
use Rattle.level_laws.proofs.Unique.{all_left, all_right}
use Rattle.new_board.specs.NewChip.{OldBoard, NewChip, unit_on, register_driven, placed_register, register_on, net_literal, read_by}
use Rattle.new_board.specs.declared.types.PlacedUnit.{PlacedUnit}
use Rattle.new_board.specs.OneForOne.{terms_over, old_comb, old_rows}
use Rattle.new_board.specs.InputPins.{pin_net, pin_reads}
use Rattle.new_board.specs.NewFiles.{new_product, new_terms, new_enable, cell_by, cell_of, new_cell, new_cells}
use Rattle.new_board.proofs.Variables.{AliasesFit, AreVariables, variable-value, variable_product-value}
use Rattle.new_board.proofs.Columns.{source_at, placed_lit, IsReading, IsReadable, RegistersFit, product-lit, new_product-value}
use Rattle.rebuilt_boards.proofs.RebuiltCircuit.{board_of, chip_at, rebuilt_unit, rebuilt_units, UnitsFit, IsPin, pin-old, pin-wire}
use Rattle.new_board.proofs.NewWiring.{rebuilt_net, NumbersFit}
use Rattle.rebuilt_boards.proofs.OldRows.{old-rows}
use Rattle.rebuilt_boards.proofs.RebuiltFollows.{old_read, IsKept, DriverFits}

-- where a source of a new chip stands on the new board
abbrev pub new_place : OldBoard → List NewChip → ℕ → Source → Read
new_place b news j = read_of (rebuilt_net b news) (rebuilt_units b news) j

-- what the columns of a new chip read stands for what they read on the old board
pub record PinsFit (b : OldBoard) (news : List NewChip) (old : ℕ → ℕ) (j : ℕ) (chip : NewChip) : Type 0 where
  pub registers : RegistersFit b chip
  pub kept : (pin : ℕ) (y : Literal) → Among pin (pair_pins chip.kind chip.mode) → pin_reads b chip pin ≡ Some y → IsKept b news old (new_place b news j (source_at b chip pin))
  pub value : (l m : Levels) (pin : ℕ) (y : Literal) → Among pin (pair_pins chip.kind chip.mode) → pin_reads b chip pin ≡ Some y → AliasesFit b.circuit l →
      SameAt (old_read b news old) l m (new_place b news j (source_at b chip pin)) → source_level m (new_place b news j (source_at b chip pin)) ≡ literal_value l y

-- a product of the old board that the new chip can read
pub record ProductFits (b : OldBoard) (chip : NewChip) (lits : List Literal) : Type 0 where
  pub variables : AreVariables b.circuit lits
  pub readable : IsReadable b chip (variable_product b.circuit lits)

-- the product that becomes of a product
abbrev pub rebuilt_product : OldBoard → List NewChip → ℕ → NewChip → List Literal → List Literal
rebuilt_product b news j chip lits = map (placed_lit (new_place b news j)) (new_product b chip lits)

pub product-fits-value : (b : OldBoard) (news : List NewChip) (old : ℕ → ℕ) (j : ℕ) (chip : NewChip) (l m : Levels) → PinsFit b news old j chip → AliasesFit b.circuit l →
    (lits : List Literal) → IsReadable b chip lits → AllByRecursion (SameAt (old_read b news old) l m) (product_reads (rebuilt_product b news j chip lits)) →
    product_value l lits ≡ product_value m (rebuilt_product b news j chip lits)
product-fits-value b news old j chip l m fit aliases lits readable reads =
    new_product-value b chip (new_place b news j) (SameAt (old_read b news old) l m) l m
    (record { each = λ pin y a e same. fit.value l m pin y a e aliases same; driven = aliases.driven })
    fit.registers lits readable reads

-- whatever reads a literal of these has a property
pub record ReadsAll (b : OldBoard) (news : List NewChip) (j : ℕ) (chip : NewChip) (P : Read → Type 0) (lits : List Literal) : Type 0 where
  pub each : (x : Literal) → Among x lits → (y : Lit) → IsReading b chip x y → P (new_place b news j y.source)

-- then all that the new product reads has it
pub product-all : (b : OldBoard) (news : List NewChip) (j : ℕ) (chip : NewChip) (P : Read → Type 0) (lits : List Literal) → IsReadable b chip lits → ReadsAll b news j chip P lits →
    AllByRecursion P (product_reads (rebuilt_product b news j chip lits))
product-all b news j chip P lits readable all = all-among P (product_reads (rebuilt_product b news j chip lits)) at
  where
    at : (v : Read) → Among v (product_reads (rebuilt_product b news j chip lits)) → P v
    at v a =
        let z = among-map (λ (z : Literal). z.source) v (rebuilt_product b news j chip lits) a in
        let y = among-map (placed_lit (new_place b news j)) z.0 (new_product b chip lits) z.1 in
        let x = product-lit b chip lits readable y.0 y.1 in
        let is : v ≡ new_place b news j y.0.source = z.2 ∙ ap (λ (q : Literal). q.source) y.2 in
        subst P (sym is) (all.each x.0 x.1 y.0 x.2)

pub pins-kept : (b : OldBoard) (news : List NewChip) (old : ℕ → ℕ) (j : ℕ) (chip : NewChip) (lits : List Literal) → PinsFit b news old j chip → ReadsAll b news j chip (IsKept b news old) lits
pins-kept b news old j chip lits fit = record {
  each = λ x a y r.
      subst (λ (q : Lit). IsKept b news old (new_place b news j q.source)) (sym r.lit_is) (fit.kept r.pin r.reads r.column r.reading);
}

-- the sum that becomes of these products
abbrev pub rebuilt_terms : OldBoard → List NewChip → ℕ → NewChip → List (List Literal) → List (List Literal)
rebuilt_terms b news j chip terms = map (literals_of (rebuilt_net b news) (rebuilt_units b news) j) (new_terms b chip (terms_over b.circuit terms))

pub terms-value : (b : OldBoard) (news : List NewChip) (old : ℕ → ℕ) (j : ℕ) (chip : NewChip) (l m : Levels) → PinsFit b news old j chip → AliasesFit b.circuit l →
    (terms : List (List Literal)) → ((t : List Literal) → Among t terms → ProductFits b chip t) →
    AllByRecursion (SameAt (old_read b news old) l m) (sum_reads (rebuilt_terms b news j chip terms)) → sum_value l terms ≡ sum_value m (rebuilt_terms b news j chip terms)
terms-value b news old j chip l m fit aliases [] fits reads = refl
terms-value b news old j chip l m fit aliases (t ∷ ts) fits reads =
    let f = fits t (inl refl) in
    let first = product_reads (rebuilt_product b news j chip (variable_product b.circuit t)) in
    ap (λ (q : Level). or3 q (sum_value l ts)) (variable_product-value b.circuit l t aliases f.variables
    ∙ product-fits-value b news old j chip l m fit aliases (variable_product b.circuit t) f.readable (all_left _ first _ reads))
    ∙ ap (or3 (product_value m (rebuilt_product b news j chip (variable_product b.circuit t))))
    (terms-value b news old j chip l m fit aliases ts (λ s a. fits s (inr a)) (all_right _ first _ reads))

pub terms-all : (b : OldBoard) (news : List NewChip) (j : ℕ) (chip : NewChip) (P : Read → Type 0) (terms : List (List Literal)) →
    ((t : List Literal) → Among t terms → ProductFits b chip t) → ((t : List Literal) → Among t terms → ReadsAll b news j chip P (variable_product b.circuit t)) →
    AllByRecursion P (sum_reads (rebuilt_terms b news j chip terms))
terms-all b news j chip P [] fits all = tt
terms-all b news j chip P (t ∷ ts) fits all =
    all-append P (product_reads (rebuilt_product b news j chip (variable_product b.circuit t))) _
    (product-all b news j chip P (variable_product b.circuit t) (fits t (inl refl)).readable (all t (inl refl)))
    (terms-all b news j chip P ts (λ s a. fits s (inr a)) (λ s a. all s (inr a)))

-- the enable that becomes of a product over variables
abbrev pub rebuilt_enable : OldBoard → List NewChip → ℕ → NewChip → List Literal → Gate
rebuilt_enable b news j chip lits = enable_on (rebuilt_net b news) (rebuilt_units b news) j (new_enable b chip (Product lits))

enable-value : (b : OldBoard) (news : List NewChip) (old : ℕ → ℕ) (j : ℕ) (chip : NewChip) (l m : Levels) → PinsFit b news old j chip → AliasesFit b.circuit l →
    (lits : List Literal) → IsReadable b chip lits → AllByRecursion (SameAt (old_read b news old) l m) (row_reads (rebuilt_enable b news j chip lits)) →
    product_value l lits ≡ row_value m (rebuilt_enable b news j chip lits)
enable-value b news old j chip l m fit aliases [] readable reads = refl
enable-value b news old j chip l m fit aliases (x ∷ xs) readable reads = product-fits-value b news old j chip l m fit aliases (x ∷ xs) readable reads

pub enable-all : (b : OldBoard) (news : List NewChip) (j : ℕ) (chip : NewChip) (P : Read → Type 0) (lits : List Literal) → IsReadable b chip lits → ReadsAll b news j chip P lits →
    AllByRecursion P (row_reads (rebuilt_enable b news j chip lits))
enable-all b news j chip P [] readable all = tt
enable-all b news j chip P (x ∷ xs) readable all = product-all b news j chip P (x ∷ xs) readable all

-- a combinational unit that can be enabled
pub record IsComb (b : OldBoard) (u : ChipUnit) : Type 0 where
  pub lits : List Literal
  pub enable : enable_on b.net b.units u.chip u.cell.enable ≡ Product lits
  pub combinational : is_registered u ≡ false

abbrev pub old_terms : OldBoard → ChipUnit → List (List Literal)
old_terms b u = map (literals_of b.net b.units u.chip) u.cell.terms

pub old-driver : (b : OldBoard) (u : ChipUnit) (f : IsComb b u) → driver_of b.net b.units u ≡ record { enable = Product f.lits; gives = Sum (old_terms b u); low = u.cell.low }
old-driver b u f =
    ap (λ (q : Bool). record {
      enable = enable_on b.net b.units u.chip u.cell.enable;
      gives = cond q (Visible (place_of (at_of u) (map at_of (registers_of b.units)))) (Sum (old_terms b u));
      low = cond q u.cell.pin_low u.cell.low;
    }) f.combinational
    ∙ ap (λ (g : Gate). record { enable = g; gives = Sum (old_terms b u); low = u.cell.low }) f.enable

-- its rows over variables
abbrev pub comb_rows : OldBoard → ℕ → ℕ → ChipUnit → List Literal → PlacedUnit
comb_rows b pin i u lits = old_comb b.circuit pin i (record { enable = Product lits; gives = Sum (old_terms b u); low = u.cell.low }) (old_terms b u)

pub unit-driver : (net : Net) (units : List ChipUnit) (i : ℕ) (u : ChipUnit) → slice_get units i ≡ Some u → (f : IsComb (board_of net units) u) →
    slice_get (circuit_on net units).units i ≡ Some (record { enable = Product f.lits; gives = Sum (old_terms (board_of net units) u); low = u.cell.low })
unit-driver net units i u e f =
    slice_get-map (driver_of net units) units i ∙ ap (option_map (driver_of net units)) e ∙ ap (λ (d : Driver). Some d) (old-driver (board_of net units) u f)

pub comb-rows : (net : Net) (units : List ChipUnit) (pin i : ℕ) (u : ChipUnit) → slice_get units i ≡ Some u → (f : IsComb (board_of net units) u) →
    old_rows (circuit_on net units) pin i ≡ comb_rows (board_of net units) pin i u f.lits
comb-rows net units pin i u e f = old-rows (circuit_on net units) pin i _ (unit-driver net units i u e f)

-- the cell that becomes of it
abbrev pub comb_made : OldBoard → NewChip → ChipUnit → List Literal → Cell
comb_made b chip u lits = record {
  pin = u.cell.pin;
  form = form.Comb;
  low = u.cell.low;
  pin_low = false;
  enable = new_enable b chip (Product (variable_product b.circuit lits));
  terms = new_terms b chip (terms_over b.circuit (old_terms b u));
}

pub comb-cell : (net : Net) (units : List ChipUnit) (chip : NewChip) (i : ℕ) (u : ChipUnit) → unit_on chip.units u.cell.pin ≡ Some (old_rows (circuit_on net units) u.cell.pin i) →
    slice_get units i ≡ Some u → (f : IsComb (board_of net units) u) → new_cell (board_of net units) chip u.cell.pin ≡ comb_made (board_of net units) chip u f.lits
comb-cell net units chip i u on e f =
    let b = board_of net units in
    let pin = u.cell.pin in
    ap (cell_of b chip pin) on
    ∙ ap (λ (x : PlacedUnit). cell_by b chip pin x (placed_register b.circuit x)) (comb-rows net units pin i u e f)
    ∙ ap (λ (o : Option Driver). cell_by b chip pin (comb_rows b pin i u f.lits) (register_driven o)) (unit-driver net units i u e f)

pub new-driver : (net : Net) (units : List ChipUnit) (news : List NewChip) (i : ℕ) (u : ChipUnit) → unit_on (chip_at news u.chip).units u.cell.pin ≡ Some (old_rows (circuit_on net units) u.cell.pin i) → slice_get units i ≡ Some u →
    (f : IsComb (board_of net units) u) →
    driver_of (rebuilt_net (board_of net units) news) (rebuilt_units (board_of net units) news) (rebuilt_unit (board_of net units) news u)
    ≡ record {
      enable = rebuilt_enable (board_of net units) news u.chip (chip_at news u.chip) (variable_product (circuit_on net units) f.lits);
      gives = Sum (rebuilt_terms (board_of net units) news u.chip (chip_at news u.chip) (old_terms (board_of net units) u));
      low = u.cell.low;
    }
new-driver net units news i u on e f =
    ap (λ (cell : Cell). driver_of (rebuilt_net (board_of net units) news) (rebuilt_units (board_of net units) news) (record { chip = u.chip; cells = new_cells (board_of net units) (chip_at news u.chip); cell = cell }))
    (comb-cell net units (chip_at news u.chip) i u on e f)

-- its products can be read by the new chip
pub record CombFits (b : OldBoard) (chip : NewChip) (u : ChipUnit) : Type 0 where
  pub comb : IsComb b u
  pub enable_fits : ProductFits b chip comb.lits
  pub terms_fit : (t : List Literal) → Among t (old_terms b u) → ProductFits b chip t

-- all that the new unit reads has a property, where all its literals are read so
pub comb-all : (b : OldBoard) (news : List NewChip) (chip : NewChip) (u : ChipUnit) (P : Read → Type 0) (f : CombFits b chip u) →
    ReadsAll b news u.chip chip P (variable_product b.circuit f.comb.lits) → ((t : List Literal) → Among t (old_terms b u) → ReadsAll b news u.chip chip P (variable_product b.circuit t)) →
    AllByRecursion P (row_reads (rebuilt_enable b news u.chip chip (variable_product b.circuit f.comb.lits)) ++ sum_reads (rebuilt_terms b news u.chip chip (old_terms b u)))
comb-all b news chip u P f enable terms =
    all-append P (row_reads (rebuilt_enable b news u.chip chip (variable_product b.circuit f.comb.lits))) _
    (enable-all b news u.chip chip P (variable_product b.circuit f.comb.lits) f.enable_fits.readable enable)
    (terms-all b news u.chip chip P (old_terms b u) f.terms_fit terms)

comb-fits : (b : OldBoard) (news : List NewChip) (old : ℕ → ℕ) (chip : NewChip) (u : ChipUnit) → PinsFit b news old u.chip chip → (f : CombFits b chip u) →
    DriverFits b news old (record { enable = Product f.comb.lits; gives = Sum (old_terms b u); low = u.cell.low }) (record {
      enable = rebuilt_enable b news u.chip chip (variable_product b.circuit f.comb.lits);
      gives = Sum (rebuilt_terms b news u.chip chip (old_terms b u));
      low = u.cell.low;
    })
comb-fits b news old chip u pins f = record {
  reads = comb-all b news chip u (IsKept b news old) f (pins-kept b news old u.chip chip (variable_product b.circuit f.comb.lits) pins)
      (λ t a. pins-kept b news old u.chip chip (variable_product b.circuit t) pins);
  level = λ l m aliases same.
      ap (λ (q : Level). gated q (inverted u.cell.low (sum_value l (old_terms b u)))) (variable_product-value b.circuit l f.comb.lits aliases f.enable_fits.variables
      ∙ enable-value b news old u.chip chip l m pins aliases (variable_product b.circuit f.comb.lits) f.enable_fits.readable
      (all_left _ (row_reads (rebuilt_enable b news u.chip chip (variable_product b.circuit f.comb.lits))) _ same))
      ∙ ap (λ (q : Level). gated (row_value m (rebuilt_enable b news u.chip chip (variable_product b.circuit f.comb.lits))) (inverted u.cell.low q))
      (terms-value b news old u.chip chip l m pins aliases (old_terms b u) f.terms_fit (all_right _ (row_reads (rebuilt_enable b news u.chip chip (variable_product b.circuit f.comb.lits))) _ same));
}

-- it drives the level of the old unit
pub comb-drives : (net : Net) (units : List ChipUnit) (news : List NewChip) (old : ℕ → ℕ) (i : ℕ) (u : ChipUnit) → UnitsFit (board_of net units) news → slice_get units i ≡ Some u →
    PinsFit (board_of net units) news old u.chip (chip_at news u.chip) → CombFits (board_of net units) (chip_at news u.chip) u →
    DriverFits (board_of net units) news old (driver_of net units u)
    (driver_of (rebuilt_net (board_of net units) news) (rebuilt_units (board_of net units) news) (rebuilt_unit (board_of net units) news u))
comb-drives net units news old i u fit e pins f =
    let b = board_of net units in
    let chip = chip_at news u.chip in
    subst (λ (d : Driver). DriverFits b news old d (driver_of (rebuilt_net b news) (rebuilt_units b news) (rebuilt_unit b news u))) (sym (old-driver b u f.comb))
    (subst (DriverFits b news old (record { enable = Product f.comb.lits; gives = Sum (old_terms b u); low = u.cell.low })) (sym (new-driver net units news i u (fit.on i u e) e f.comb))
    (comb-fits b news old chip u pins f))

-- what the level of a pin stands for

-- a pin that reads its net
pub record ReadsNet (b : OldBoard) (chip : NewChip) (pin : ℕ) (y : Literal) : Type 0 where
  pub net : ℕ
  pub pin_is : pin_net b chip pin ≡ Some net
  pub literal_is : y ≡ net_literal b.circuit net

pub reads-net : (b : OldBoard) (chip : NewChip) (pin : ℕ) (y : Literal) → register_on b.circuit chip pin ≡ None → pin_reads b chip pin ≡ Some y → ReadsNet b chip pin y
reads-net b chip pin y none e = at (pin_net b chip pin) refl (ap (λ (o : Option ℕ). read_by b.circuit o (pin_net b chip pin)) (sym none) ∙ e)
  where
    at : (o : Option ℕ) → pin_net b chip pin ≡ o → read_by b.circuit None o ≡ Some y → ReadsNet b chip pin y
    at None is e = cc
    at (Some n) is e = record { net = n; pin_is = is; literal_is = sym (same_Some (net_literal b.circuit n) y e) }

pub net-kept : (b : OldBoard) (news : List NewChip) (old : ℕ → ℕ) (j pin n : ℕ) → NumbersFit b news old → UnitsFit b news → IsPin b news (j, pin) n →
    IsKept b news old (OfNet (net_of (rebuilt_net b news) (j, pin)))
net-kept b news old j pin n numbers fit p = pin-wire b news old (j, pin) n numbers fit p ∙ ap (slice_get b.circuit.nets) (sym (pin-old b news old (j, pin) n numbers p))

pub net-value : (b : OldBoard) (news : List NewChip) (old : ℕ → ℕ) (j pin n : ℕ) (l m : Levels) → NumbersFit b news old → IsPin b news (j, pin) n → AliasesFit b.circuit l →
    SameAt (old_read b news old) l m (OfNet (net_of (rebuilt_net b news) (j, pin))) → read_level (level_at m.nets (net_of (rebuilt_net b news) (j, pin))) ≡ literal_value l (net_literal b.circuit n)
net-value b news old j pin n l m numbers p aliases same =
    ap read_level (sym same) ∙ ap (λ (k : ℕ). read_level (level_at l.nets k)) (pin-old b news old (j, pin) n numbers p)
    ∙ sym (variable-value b.circuit l (record { source = OfNet n; high = true }) aliases)

enable-can : (b : OldBoard) (news : List NewChip) (j : ℕ) (chip : NewChip) (lits : List Literal) → can_drive (rebuilt_enable b news j chip lits) ≡ true
enable-can b news j chip [] = refl
enable-can b news j chip (x ∷ xs) = refl

-- it can drive where the old unit can
pub comb-enabled : (net : Net) (units : List ChipUnit) (news : List NewChip) (i : ℕ) (u : ChipUnit) → unit_on (chip_at news u.chip).units u.cell.pin ≡ Some (old_rows (circuit_on net units) u.cell.pin i) → slice_get units i ≡ Some u →
    IsComb (board_of net units) u →
    can_drive (driver_of (rebuilt_net (board_of net units) news) (rebuilt_units (board_of net units) news) (rebuilt_unit (board_of net units) news u)).enable
    ≡ can_drive (driver_of net units u).enable
comb-enabled net units news i u on e f =
    ap (λ (d : Driver). can_drive d.enable) (new-driver net units news i u on e f)
    ∙ enable-can (board_of net units) news u.chip (chip_at news u.chip) (variable_product (circuit_on net units) f.lits)
    ∙ sym (ap (λ (d : Driver). can_drive d.enable) (old-driver (board_of net units) u f))
