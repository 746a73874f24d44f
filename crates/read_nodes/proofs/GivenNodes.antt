-- All that the rows of a given board read are its nodes.
use Rattle.std.proofs.Common.{ℕ, zero, suc, ◌≡◌, ◌<◌, ◌+◌, Bool, true, false, ◌||◌, List, [], ◌∷◌, ◌++◌, map, length, Option, Some, None, Ok, refl, sym, ap, ◌∙◌, subst, inl, inr, arith}
use Rattle.std.specs.Prelude.{slice_get, if◌then◌else◌, ◌==◌}
use Rattle.std.specs.List.{list_any, AllByRecursion}
use Rattle.std.specs.Option.{option_map}
use Rattle.std.proofs.lemmas.Bool.{and_parts, eqb-true, eq-eqb, or_right, or_left}
use Rattle.std.proofs.lemmas.Option.{same_Some}
use Rattle.mig_base.specs.declared.kinds.Kind.{Kind}
use Rattle.mig_base.specs.declared.kinds.Mode.TheVariants.{Simple, Complex, Registered}
use Rattle.mig_base.specs.declared.cells.Cell.{Cell}
use Rattle.mig_base.specs.declared.cells.ChipCells.{ChipCells}
use Rattle.mig_base.specs.declared.cells.ChipError.{ChipError}
use Rattle.mig_base.specs.declared.cells.ChipError.TheVariants.{Count}
use Rattle.mig_base.specs.declared.cells.Enable.{Enable}
use Rattle.mig_base.specs.declared.cells.Enable.TheVariants as enable
use Rattle.mig_base.specs.declared.cells.Form.{Form}
use Rattle.mig_base.specs.declared.cells.Form.TheVariants as form
use Rattle.mig_base.specs.declared.cells.Lit.{Lit}
use Rattle.mig_base.specs.declared.cells.Row.{Row}
use Rattle.mig_base.specs.declared.cells.Row.TheVariants as row
use Rattle.mig_base.specs.declared.cells.Source.{Source}
use Rattle.mig_base.specs.declared.cells.Source.TheVariants.{Pin, Reg}
use Rattle.mig_base.specs.declared.nets.ChipLine.{ChipLine}
use Rattle.mig_base.specs.declared.nets.Net.{Net}
use Rattle.mig_base.specs.declared.circuit.Read.TheVariants.{OfNet}
use Rattle.mig_base.specs.declared.circuit.Gate.TheVariants.{Never, Product}
use Rattle.mig_base.specs.declared.circuit.Gives.TheVariants.{Sum, Visible}
use Rattle.mig_base.specs.declared.circuit.Driver.{Driver}
use Rattle.mig_base.specs.declared.circuit.Register.{Register}
use Rattle.mig_base.specs.Among.{Among}
use Rattle.mig_base.specs.Boards.{ChipUnit, at_of, circuit, driver_of, enable_on, in_cell, in_enable, in_row, is_registered, literals_of, low_pin, net_of, place_of, reads_register, register_of, registers_of, row_on, units_from}
use Rattle.mig_base.specs.Cells.{is_among, cells_22, cells_by_kind, pal_cells, v8_cells_in, v8_mode, v8_refusal, syn, ac0}
use Rattle.mig_base.specs.DeviceTables.{enable_pin, has_count, is_22, is_v8, ordinary_pins}
use Rattle.mig_base.specs.First.{unless}
use Rattle.mig_base.specs.Given.{AreMade, IsGiven, IsMade}
use Rattle.mig_base.specs.Reads.{IsNode, driver_reads, edge_reads, gives_reads}
use Rattle.mig_base.specs.Values.{product_reads, row_reads, sum_reads}
use Rattle.mig_base.specs.WellFormed.{chip_columns, fits_control, fits_row, has_enable, has_enable_row, is_always, is_low_pin, is_never, is_simple, FitsCell, IsWellFormed}
use Rattle.mig_base.proofs.Amongs.{among-all, among-filter, filter-among, among-get, map-among}
use Rattle.mig_base.proofs.ListLaws.{all-append}
use Rattle.made_cells.proofs.MadeCells.{Told, v8_chip, made-well, counted}
use Rattle.rebuilt_boards.proofs.BoardForms.{wiring-lines, writable-lines}
use Rattle.new_board.proofs.Wiring.{LinesFit}
use Rattle.read_nodes.specs.ReadsNodes.{ReadsNodes}
use Rattle.read_nodes.proofs.Columns.{enable-ordinary, row-readable}
use Rattle.read_nodes.proofs.Sources.{IsChip, IsOn, chip_reads, register-node, source-node, unit-on}

-- made cells are of their line's kind

told-kind : (k : Kind) (x c : ChipCells) → (let told : Told = Ok x in told) ≡ Ok c → x.kind ≡ k → c.kind ≡ k
told-kind k x c e is = let same : x ≡ c = cc in ap (λ (q : ChipCells). q.kind) (sym same) ∙ is

unrefused-kind : (k : Kind) (refusal : Option ChipError) (x c : ChipCells) → unless refusal (Ok x) ≡ Ok c → x.kind ≡ k → c.kind ≡ k
unrefused-kind k None x c e is = told-kind k x c e is
unrefused-kind k (Some r) x c e is = cc

v8-kind : (k : Kind) (bits : List Bool) (c : ChipCells) (s a : Bool) → v8_cells_in k bits (v8_mode s a) ≡ Ok c → c.kind ≡ k
v8-kind k bits c true false e = unrefused-kind k (v8_refusal k bits Simple) (v8_chip k Simple bits) c e refl
v8-kind k bits c true true e = unrefused-kind k (v8_refusal k bits Complex) (v8_chip k Complex bits) c e refl
v8-kind k bits c false true e = unrefused-kind k (v8_refusal k bits Registered) (v8_chip k Registered bits) c e refl
v8-kind k bits c false false e = cc

by-kind : (k : Kind) (bits : List Bool) (c : ChipCells) (of_22 of_v8 : Bool) →
    (if of_22 then Ok (cells_22 k bits) else (if of_v8 then v8_cells_in k bits (v8_mode (syn k bits) (ac0 k bits)) else Ok (pal_cells k bits))) ≡ Ok c → c.kind ≡ k
by-kind k bits c true of_v8 e = told-kind k (cells_22 k bits) c e refl
by-kind k bits c false true e = v8-kind k bits c (syn k bits) (ac0 k bits) e
by-kind k bits c false false e = told-kind k (pal_cells k bits) c e refl

made-kind : (line : ChipLine) (c : ChipCells) → IsMade line c → c.kind ≡ line.kind
made-kind line c made = by-kind line.kind made.0 c (is_22 line.kind) (is_v8 line.kind) (counted (has_count line.kind (length made.0)) (cells_by_kind line.kind made.0) (Count (length made.0)) c made.1)

-- a chip of the board, by its place, with its line

pub record HasLine (lines : List ChipLine) (k : ℕ) (c : ChipCells) : Type 0 where
  pub line : ChipLine
  pub found : slice_get lines k ≡ Some line
  pub made : IsMade line c

has-line : (lines : List ChipLine) (chips : List ChipCells) (k : ℕ) (c : ChipCells) → AreMade lines chips → slice_get chips k ≡ Some c → HasLine lines k c
has-line [] [] k c made e = cc
has-line [] (d ∷ ds) k c made e = absurd made
has-line (l ∷ ls) [] k c made e = absurd made
has-line (l ∷ ls) (d ∷ ds) zero c made e = let same : d ≡ c = cc in record { line = l; found = refl; made = subst (IsMade l) same made.0 }
has-line (l ∷ ls) (d ∷ ds) (suc k) c made e = let h = has-line ls ds k c made.1 e in record { line = h.line; found = h.found; made = h.made }

-- registers that rows read

any-lit : (p : ℕ) (x : Lit) (lits : List Lit) → Among x lits → x.source ≡ Reg p → list_any (reads_register p) lits ≡ true
any-lit p x [] a e = absurd a
any-lit p x (y ∷ ys) (inl same) e =
    ap (λ (s : Source). reads s || list_any (reads_register p) ys) (ap (λ (z : Lit). z.source) (sym same) ∙ e) ∙ ap (λ (b : Bool). b || list_any (reads_register p) ys) (eq-eqb p p refl)
  where
    reads : Source → Bool
    reads s = reads_register p (record { source = s; high = true })
any-lit p x (y ∷ ys) (inr a) e = at (reads_register p y) (any-lit p x ys a e)
  where
    at : (b : Bool) → list_any (reads_register p) ys ≡ true → (b || list_any (reads_register p) ys) ≡ true
    at true h = refl
    at false h = h

any-term : (p : ℕ) (t : List Lit) (ts : List (List Lit)) → Among t ts → list_any (reads_register p) t ≡ true → list_any (λ (lits : List Lit). list_any (reads_register p) lits) ts ≡ true
any-term p t [] a e = absurd a
any-term p t (s ∷ ss) (inl same) e = ap (λ (q : List Lit). list_any (reads_register p) q || list_any (λ (lits : List Lit). list_any (reads_register p) lits) ss) (sym same) ∙ ap (λ (b : Bool). b || list_any (λ (lits : List Lit). list_any (reads_register p) lits) ss) e
any-term p t (s ∷ ss) (inr a) e = at (list_any (reads_register p) s) (any-term p t ss a e)
  where
    at : (b : Bool) → list_any (λ (lits : List Lit). list_any (reads_register p) lits) ss ≡ true → (b || list_any (λ (lits : List Lit). list_any (reads_register p) lits) ss) ≡ true
    at true h = refl
    at false h = h

any-cell : (p : ℕ) (x : Cell) (xs : List Cell) → Among x xs → in_cell p x ≡ true → list_any (in_cell p) xs ≡ true
any-cell p x [] a e = absurd a
any-cell p x (y ∷ ys) (inl same) e = ap (λ (q : Cell). in_cell p q || list_any (in_cell p) ys) (sym same) ∙ ap (λ (b : Bool). b || list_any (in_cell p) ys) e
any-cell p x (y ∷ ys) (inr a) e = at (in_cell p y) (any-cell p x ys a e)
  where
    at : (b : Bool) → list_any (in_cell p) ys ≡ true → (b || list_any (in_cell p) ys) ≡ true
    at true h = refl
    at false h = h

cell-reads : (c : ChipCells) (cell : Cell) (p : ℕ) → Among cell c.cells → in_cell p cell ≡ true → chip_reads c p ≡ true
cell-reads c cell p a e = or_left (list_any (in_cell p) c.cells || in_row p c.reset) (in_row p c.preset) (or_left (list_any (in_cell p) c.cells) (in_row p c.reset) (any-cell p cell c.cells a e))

module _ (net : Net) (chips : List ChipCells) (given : IsGiven net chips) where
  fit : LinesFit net
  fit = wiring-lines net (writable-lines net given.wiring)

  -- literals of a row that fits
  lits-nodes : (j : ℕ) (c : ChipCells) → IsChip net chips j c → (lits : List Lit) → fits_row (chip_columns c) lits ≡ true → ((x : Lit) (p : ℕ) → Among x lits → x.source ≡ Reg p → chip_reads c p ≡ true) →
      AllByRecursion (IsNode (circuit net chips)) (product_reads (literals_of net (units_from 0 chips) j lits))
  lits-nodes j c chip lits fits reads = each lits (λ x a. a)
    where
      each : (xs : List Lit) → ((x : Lit) → Among x xs → Among x lits) → AllByRecursion (IsNode (circuit net chips)) (product_reads (literals_of net (units_from 0 chips) j xs))
      each [] within = tt
      each (x ∷ xs) within = (
        source-node net chips j c fit chip x.source (row-readable c lits fits x (within x (inl refl))) (λ p e. reads x p (within x (inl refl)) e),
        each xs (λ y a. within y (inr a)),
      )

  terms-nodes : (j : ℕ) (c : ChipCells) → IsChip net chips j c → (cell : Cell) → Among cell c.cells → AllByRecursion (λ term. fits_row (chip_columns c) term ≡ true) cell.terms →
      AllByRecursion (IsNode (circuit net chips)) (sum_reads (map (literals_of net (units_from 0 chips) j) cell.terms))
  terms-nodes j c chip cell a fits = each cell.terms fits (λ t b. b)
    where
      each : (ts : List (List Lit)) → AllByRecursion (λ term. fits_row (chip_columns c) term ≡ true) ts → ((t : List Lit) → Among t ts → Among t cell.terms) →
          AllByRecursion (IsNode (circuit net chips)) (sum_reads (map (literals_of net (units_from 0 chips) j) ts))
      each [] h within = tt
      each (t ∷ ts) h within =
          all-append (IsNode (circuit net chips)) (product_reads (literals_of net (units_from 0 chips) j t)) (sum_reads (map (literals_of net (units_from 0 chips) j) ts))
          (lits-nodes j c chip t h.0 (λ x p b e. cell-reads c cell p a (or_right (in_enable p cell.enable) _ (any-term p t cell.terms (within t (inl refl)) (any-lit p x t b e)))))
          (each ts h.1 (λ s b. within s (inr b)))

  low-nodes : (n : ℕ) → n < length (circuit net chips).nets → AllByRecursion (IsNode (circuit net chips)) (row_reads (low_pin n))
  low-nodes n h = at (n == 0) (n == 1)
    where
      at : (a b : Bool) → AllByRecursion (IsNode (circuit net chips)) (row_reads (if a then Product [] else (if b then Never else Product (record { source = OfNet n; high = false } ∷ []))))
      at true b = tt
      at false true = tt
      at false false = (h, tt)

  -- the enable of a cell that fits
  enable-nodes : (j : ℕ) (c : ChipCells) → IsChip net chips j c → (cell : Cell) → Among cell c.cells → has_enable c.kind c.mode (chip_columns c) cell.form cell.enable ≡ true →
      AllByRecursion (IsNode (circuit net chips)) (row_reads (enable_on net (units_from 0 chips) j cell.enable))
  enable-nodes j c chip cell a has = at cell.enable refl (fits cell.form cell.enable has)
    where
      -- a term that fits, or the enable pin
      Fits : Enable → Type 0
      Fits enable.Always = Unit {0}
      Fits enable.Never = Unit {0}
      Fits (enable.Term lits) = fits_row (chip_columns c) lits ≡ true
      Fits (enable.LowPin p) = enable_pin c.kind ≡ p

      row_fits : (e : Enable) → has_enable_row (chip_columns c) e ≡ true → Fits e
      row_fits enable.Always h = tt
      row_fits enable.Never h = cc
      row_fits (enable.Term []) h = cc
      row_fits (enable.Term (x ∷ xs)) h = h
      row_fits (enable.LowPin p) h = cc

      never_fits : (e : Enable) → is_never e ≡ true → Fits e
      never_fits enable.Never h = tt
      never_fits enable.Always h = cc
      never_fits (enable.Term lits) h = cc
      never_fits (enable.LowPin p) h = cc

      always_fits : (e : Enable) → is_always e ≡ true → Fits e
      always_fits enable.Always h = tt
      always_fits enable.Never h = cc
      always_fits (enable.Term lits) h = cc
      always_fits (enable.LowPin p) h = cc

      pin_fits : (e : Enable) → is_low_pin (enable_pin c.kind) e ≡ true → Fits e
      pin_fits enable.Never h = cc
      pin_fits enable.Always h = cc
      pin_fits (enable.Term lits) h = cc
      pin_fits (enable.LowPin p) h = sym (eqb-true p (enable_pin c.kind) h)

      comb : (b : Bool) (e : Enable) → (if b then is_always e else has_enable_row (chip_columns c) e) ≡ true → Fits e
      comb true e h = always_fits e h
      comb false e h = row_fits e h

      either : (e : Enable) (b : Bool) → is_never e ≡ b → (b || has_enable_row (chip_columns c) e) ≡ true → Fits e
      either e true is h = never_fits e is
      either e false is h = row_fits e h

      reg : (b : Bool) (e : Enable) → (if b then is_never e || has_enable_row (chip_columns c) e else is_low_pin (enable_pin c.kind) e) ≡ true → Fits e
      reg true e h = either e (is_never e) refl h
      reg false e h = pin_fits e h

      fits : (f : Form) (e : Enable) → has_enable c.kind c.mode (chip_columns c) f e ≡ true → Fits e
      fits form.Idle e h = never_fits e h
      fits form.Comb e h = comb (is_simple c.mode) e h
      fits form.Reg e h = reg (is_22 c.kind) e h

      at : (e : Enable) → cell.enable ≡ e → Fits e → AllByRecursion (IsNode (circuit net chips)) (row_reads (enable_on net (units_from 0 chips) j e))
      at enable.Always is h = tt
      at enable.Never is h = tt
      at (enable.Term lits) is h =
          lits-nodes j c chip lits h
          (λ x p b e. cell-reads c cell p a (or_left (in_enable p cell.enable) _ (ap (in_enable p) is ∙ any-lit p x lits b e)))
      at (enable.LowPin p) is h =
          low-nodes (net_of net (j, p)) (source-node net chips j c fit chip (Pin p) (ap (is_among (ordinary_pins c.kind)) (sym h) ∙ enable-ordinary c.kind) (λ q e. cc))

  chip-of : (u : ChipUnit) → Among u (units_from 0 chips) → (o : IsOn 0 chips u) × IsChip net chips u.chip u.cells × IsWellFormed u.cells
  chip-of u a =
      let o = unit-on 0 chips u a in
      let place : o.place ≡ u.chip = let p : u.chip ≡ 0 + o.place = o.chip in omega arith in
      let cells : slice_get chips u.chip ≡ Some u.cells = ap (slice_get chips) (sym place) ∙ o.cells in
      let line = has-line net.chips chips u.chip u.cells given.cells cells in (
        o,
        record { cells = cells; line = line.line; found = line.found; kind = made-kind line.line u.cells line.made },
        made-well line.line u.cells line.made,
      )

  cell-fits : (u : ChipUnit) (a : Among u (units_from 0 chips)) → FitsCell u.cells.kind u.cells.mode (chip_columns u.cells) u.cell
  cell-fits u a = let h = chip-of u a in among-all (FitsCell u.cells.kind u.cells.mode (chip_columns u.cells)) u.cell u.cells.cells h.2.cells h.0.cell

  -- what a unit reads
  driver-nodes : (u : ChipUnit) → Among u (units_from 0 chips) →
      AllByRecursion (IsNode (circuit net chips)) (row_reads (driver_of net (units_from 0 chips) u).enable ++ gives_reads (driver_of net (units_from 0 chips) u).gives)
  driver-nodes u a =
      let h = chip-of u a in
      let fits = cell-fits u a in
      all-append (IsNode (circuit net chips)) (row_reads (enable_on net (units_from 0 chips) u.chip u.cell.enable)) (gives_reads (driver_of net (units_from 0 chips) u).gives)
      (enable-nodes u.chip u.cells h.1 u.cell h.0.cell fits.enable) (gives (is_registered u) refl)
    where
      gives : (b : Bool) → is_registered u ≡ b →
          AllByRecursion (IsNode (circuit net chips)) (gives_reads (if b then Visible (place_of (at_of u) (map at_of (registers_of (units_from 0 chips)))) else Sum (map (literals_of net (units_from 0 chips) u.chip) u.cell.terms)))
      gives true e = (register-node net (units_from 0 chips) (at_of u) (map-among at_of u (registers_of (units_from 0 chips)) (filter-among is_registered u (units_from 0 chips) e a)), tt)
      gives false e = let h = chip-of u a in let fits = cell-fits u a in terms-nodes u.chip u.cells h.1 u.cell h.0.cell fits.terms

  -- what a register reads at an edge
  control-nodes : (j : ℕ) (c : ChipCells) → IsChip net chips j c → (r : Row) → fits_control c.kind (chip_columns c) r ≡ true → ((p : ℕ) → in_row p r ≡ true → chip_reads c p ≡ true) →
      AllByRecursion (IsNode (circuit net chips)) (row_reads (row_on net (units_from 0 chips) j r))
  control-nodes j c chip row.Never fits reads = tt
  control-nodes j c chip (row.Product lits) fits reads = lits-nodes j c chip lits (and_parts (is_22 c.kind) (fits_row (chip_columns c) lits) fits).1 (λ x p b e. reads p (any-lit p x lits b e))

  register-nodes : (u : ChipUnit) → Among u (units_from 0 chips) → AllByRecursion (IsNode (circuit net chips)) (edge_reads (register_of net (units_from 0 chips) u))
  register-nodes u a =
      let h = chip-of u a in
      let fits = cell-fits u a in
      let c = u.cells in
      let units = units_from 0 chips in
      all-append (IsNode (circuit net chips)) (sum_reads (map (literals_of net units u.chip) u.cell.terms) ++ row_reads (row_on net units u.chip c.preset)) (row_reads (row_on net units u.chip c.reset))
      (all-append (IsNode (circuit net chips)) (sum_reads (map (literals_of net units u.chip) u.cell.terms)) (row_reads (row_on net units u.chip c.preset))
      (terms-nodes u.chip c h.1 u.cell h.0.cell fits.terms)
      (control-nodes u.chip c h.1 c.preset h.2.preset (λ p e. or_right (list_any (in_cell p) c.cells || in_row p c.reset) (in_row p c.preset) e)))
      (control-nodes u.chip c h.1 c.reset h.2.reset (λ p e. or_left (list_any (in_cell p) c.cells || in_row p c.reset) (in_row p c.preset) (or_right (list_any (in_cell p) c.cells) (in_row p c.reset) e)))

get-mapped : {T S : Type 0} (f : T → S) (xs : List T) (n : ℕ) → slice_get (map f xs) n ≡ option_map f (slice_get xs n)
get-mapped f [] n = refl
get-mapped f (x ∷ xs) zero = refl
get-mapped f (x ∷ xs) (suc n) = get-mapped f xs n

pub given-nodes : (net : Net) (chips : List ChipCells) → IsGiven net chips → ReadsNodes (circuit net chips)
given-nodes net chips given = record { units = units; registers = registers }
  where
    units : (u : ℕ) → AllByRecursion (IsNode (circuit net chips)) (driver_reads (slice_get (map (driver_of net (units_from 0 chips)) (units_from 0 chips)) u))
    units u = subst (λ (o : Option Driver). AllByRecursion (IsNode (circuit net chips)) (driver_reads o)) (sym (get-mapped (driver_of net (units_from 0 chips)) (units_from 0 chips) u))
        (at (slice_get (units_from 0 chips) u) refl)
      where
        at : (o : Option ChipUnit) → slice_get (units_from 0 chips) u ≡ o → AllByRecursion (IsNode (circuit net chips)) (driver_reads (option_map (driver_of net (units_from 0 chips)) o))
        at None e = tt
        at (Some x) e = driver-nodes net chips given x (among-get (units_from 0 chips) u x e)

    registers : (k : ℕ) (r : Register) → slice_get (map (register_of net (units_from 0 chips)) (registers_of (units_from 0 chips))) k ≡ Some r → AllByRecursion (IsNode (circuit net chips)) (edge_reads r)
    registers k r e = at (slice_get (registers_of (units_from 0 chips)) k) refl (sym (get-mapped (register_of net (units_from 0 chips)) (registers_of (units_from 0 chips)) k) ∙ e)
      where
        at : (o : Option ChipUnit) → slice_get (registers_of (units_from 0 chips)) k ≡ o → option_map (register_of net (units_from 0 chips)) o ≡ Some r → AllByRecursion (IsNode (circuit net chips)) (edge_reads r)
        at None g h = cc
        at (Some x) g h =
            let same : register_of net (units_from 0 chips) x ≡ r = same_Some _ r h in
            subst (λ (q : Register). AllByRecursion (IsNode (circuit net chips)) (edge_reads q)) same
            (register-nodes net chips given x (among-filter is_registered x (units_from 0 chips) (among-get (registers_of (units_from 0 chips)) k x g)).1)
