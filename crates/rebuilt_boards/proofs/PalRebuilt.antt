-- Boards of PAL16 chips whose combinational units read no combinational net are rebuilt.
use Rattle.std.proofs.Common.{ℕ, suc, ◌≡◌, ◌+◌, ◌<◌, ◌≤◌, Bool, true, false, cond, ◌||◌, List, [], ◌∷◌, map, length, Option, Some, None, refl, sym, ap, ◌∙◌, subst, inl, inr, ◌⊎◌, eqb}
use Rattle.std.specs.List.{list_any, slice_get}
use Rattle.std.specs.Option.{option_map}
use Rattle.std.proofs.lemmas.Option.{same_Some, slice_get-map}
use Rattle.mig_base.specs.declared.cells.Lit.{Lit}
use Rattle.mig_base.specs.declared.cells.ChipCells.{ChipCells}
use Rattle.mig_base.specs.declared.nets.Net.{Net}
use Rattle.mig_base.specs.declared.nets.ChipLine.{ChipLine}
use Rattle.mig_base.specs.declared.circuit.Read.{Read}
use Rattle.mig_base.specs.declared.circuit.Read.TheVariants.{OfNet, OfRegister}
use Rattle.mig_base.specs.declared.circuit.Literal.{Literal}
use Rattle.mig_base.specs.declared.circuit.Gate.TheVariants.{Never}
use Rattle.mig_base.specs.declared.circuit.Gives.TheVariants.{Sum, Visible}
use Rattle.mig_base.specs.declared.circuit.Driver.{Driver}
use Rattle.mig_base.specs.declared.circuit.Register.{Register}
use Rattle.mig_base.specs.declared.circuit.Wire.{Wire}
use Rattle.mig_base.specs.declared.circuit.Circuit.{Circuit}
use Rattle.mig_base.specs.Accepted.{is_fixed, IsAccepted}
use Rattle.mig_base.specs.Among.{Among}
use Rattle.mig_base.specs.Values.{row_reads, sum_reads, product_reads}
use Rattle.mig_base.specs.Ranked.{Ranked}
use Rattle.level_laws.specs.SameBehaviour.{ShowsAlike}
use Rattle.ranks.proofs.NoLoops.{no-loop}
use Rattle.level_laws.proofs.FollowsSame.{follows-same}
use Rattle.rebuilt_boards.specs.RebuiltBoards.{HasRanks, IsRebuilt, built_net, built_cells}
use Rattle.new_board.specs.NewFiles.{fitted}
use Rattle.std.proofs.lemmas.Bool.{cases_lt}
use Rattle.structure.specs.Absorbable.{is_sum}
use Rattle.taken_boards.specs.TakenBoards.{is_undriven}
use Rattle.taken_boards.specs.TakenBoards.{is_combinational, is_combinational_wire, is_combinational_net}
use Rattle.mig_base.specs.Boards.{At, ChipUnit, net_of, is_registered, registers_of, low_pin, driver_of, register_of, units_from, circuit_on, circuit}
use Rattle.mig_base.specs.Structure.{or_alias, alias_of, variable_by, variable_literal, variable_product, has_no_driver}
use Rattle.mig_base.proofs.Amongs.{among-all, among-get, map-among, among-map, among-flat_map, product-among}
use Rattle.mig_base.proofs.Aliases.{alias-is}
use Rattle.new_board.specs.NewChip.{OldBoard, NewChip, register_on, read_by, net_literal, private_from}
use Rattle.new_board.specs.InputPins.{pin_net}
use Rattle.new_board.specs.OneForOne.{same_chips_from, same_chips}
use Rattle.new_board.proofs.Items.{filter-map, get-among, among-unfilter}
use Rattle.new_board.proofs.Columns.{IsReading}
use Rattle.rebuilt_boards.proofs.RebuiltCircuit.{pin-wire, named-wire, board_of, chip_at, rebuilt_unit, rebuilt_units, rebuilt_circuit, IsPin, old-private_wire}
use Rattle.new_board.proofs.NewWiring.{rebuilt_net}
use Rattle.rebuilt_boards.proofs.RebuiltFollows.{old_read, IsKept, rebuilt-follows}
use Rattle.rebuilt_boards.proofs.Combinational.{ReadsAll, enable-all, terms-all, rebuilt_enable, rebuilt_terms, new-driver, old-driver, new_place, old_terms, reads-net}
use Rattle.rebuilt_boards.proofs.PalUnits.{ArePals, units-rebuilt, unit-chip_at}
use Rattle.new_board.proofs.KeptNumbers.{kept-numbers, ports-same}
use Rattle.rebuilt_boards.proofs.SameBoards.{same-boards}
use Rattle.rebuilt_boards.proofs.AliasNets.{FixedFit}
use Rattle.rebuilt_boards.proofs.RegisterUnits.{comb-unregistered, IsCombUnit, IsRegUnit, unit-cases, reg-unit}
use Rattle.rebuilt_boards.proofs.Registered.{new-register, new-reg_driver, low-all}
use Rattle.rebuilt_boards.proofs.PalBoards.{board-stay, IsPalBoard, enable-undriven, register-chip, board-registered, reg-stands}
use Rattle.rebuilt_boards.proofs.PalPins.{board-units, board-pin, board_old, register-place, net-place}
use Rattle.rebuilt_boards.proofs.PalFollows.{board-comb, board-register, board-fits}
use Rattle.rebuilt_boards.proofs.PalRanks.{DriverRanks, IsRankable, pal_rank, pal-ranked, undriven-plain, ReadsRegistered, sums-same, old-rankable}

-- what a literal of an old product is read by on the new board

-- where the variable of a net is not combinational, the net is not
alias-registered : (c : Circuit) (n : ℕ) (a : ℕ × Bool) → alias_of c n ≡ Some a → is_combinational_net c (OfNet n) ≡ false
alias-registered c n a e =
    let i = alias-is c n a e in
    ap (is_combinational_wire c) i.found
    ∙ ap (list_any (λ u. is_combinational (slice_get c.units u))) i.only
    ∙ ap (λ (q : Bool). q || false) (ap is_combinational i.unit_is ∙ ap is_sum i.alias.gives)

variable-registered : (c : Circuit) (n : ℕ) (x : Literal) → is_combinational_net c x.source ≡ false → (net_literal c n).source ≡ (variable_literal c x).source → is_combinational_net c (OfNet n) ≡ false
variable-registered c n x plain e = at (alias_of c n) refl e
  where
    source : (s : Read) → x.source ≡ s → OfNet n ≡ (variable_by c s x).source → is_combinational_net c (OfNet n) ≡ false
    source (OfRegister k) is e = let wrong : OfNet n ≡ OfRegister k = e ∙ is in cc
    source (OfNet m) is e = by (alias_of c m) e
      where
        by : (o : Option (ℕ × Bool)) → OfNet n ≡ (or_alias o x).source → is_combinational_net c (OfNet n) ≡ false
        by None e = ap (is_combinational_net c) e ∙ plain
        by (Some a) e = cc

    at : (o : Option (ℕ × Bool)) → alias_of c n ≡ o → (or_alias o (record { source = OfNet n; high = true })).source ≡ (variable_literal c x).source → is_combinational_net c (OfNet n) ≡ false
    at None is e = source x.source refl e
    at (Some a) is e = alias-registered c n a is

abbrev built : Net → List ChipCells → Circuit
built net chips = rebuilt_circuit (board_of net (units_from 0 chips)) (same_chips net chips)

-- a property of what reads the variables of a product
read-property : (net : Net) (chips : List ChipCells) (j : ℕ) (chip : NewChip) (P : Read → Type 0) (t : List Literal) → IsPalBoard net chips → slice_get (same_chips net chips) j ≡ Some chip →
    ((k : ℕ) (x : Literal) → Among x t → OfRegister k ≡ (variable_literal (circuit_on net (units_from 0 chips)) x).source → P (OfRegister k)) →
    ((pin n : ℕ) (x : Literal) → Among x t → IsPin (board_of net (units_from 0 chips)) (same_chips net chips) (j, pin) n → (net_literal (circuit_on net (units_from 0 chips)) n).source ≡ (variable_literal (circuit_on net (units_from 0 chips)) x).source →
    P (OfNet (net_of (rebuilt_net (board_of net (units_from 0 chips)) (same_chips net chips)) (j, pin)))) →
    ReadsAll (board_of net (units_from 0 chips)) (same_chips net chips) j chip P (variable_product (circuit_on net (units_from 0 chips)) t)
read-property net chips j chip P t board found registers nets = record { each = λ x a y r. at x a y r (register_on (circuit_on net (units_from 0 chips)) chip r.pin) refl }
  where
    at : (x : Literal) → Among x (variable_product (circuit_on net (units_from 0 chips)) t) → (y : Lit) (r : IsReading (board_of net (units_from 0 chips)) chip x y) → (o : Option ℕ) → register_on (circuit_on net (units_from 0 chips)) chip r.pin ≡ o →
        P (new_place (board_of net (units_from 0 chips)) (same_chips net chips) j y.source)
    at x a y r (Some k) is =
        let c = circuit_on net (units_from 0 chips) in
        let old = product-among c x t a in
        let reads : OfRegister k ≡ r.reads.source = ap (λ (z : Literal). z.source) (same_Some (record { source = OfRegister k; high = true }) r.reads (ap (λ (o : Option ℕ). read_by c o (pin_net (board_of net (units_from 0 chips)) chip r.pin)) (sym is) ∙ r.reading)) in
        let place : new_place (board_of net (units_from 0 chips)) (same_chips net chips) j y.source ≡ OfRegister k =
        ap (λ (z : Lit). new_place (board_of net (units_from 0 chips)) (same_chips net chips) j z.source) r.lit_is ∙ register-place net chips j r.pin k chip board found is in
        subst P (sym place) (registers k old.0 old.1 (reads ∙ r.variable ∙ ap (λ (z : Literal). z.source) old.2))
    at x a y r None is =
        let c = circuit_on net (units_from 0 chips) in
        let old = product-among c x t a in
        let reads = reads-net (board_of net (units_from 0 chips)) chip r.pin r.reads is r.reading in
        let place : new_place (board_of net (units_from 0 chips)) (same_chips net chips) j y.source ≡ OfNet (net_of (rebuilt_net (board_of net (units_from 0 chips)) (same_chips net chips)) (j, r.pin)) =
        ap (λ (z : Lit). new_place (board_of net (units_from 0 chips)) (same_chips net chips) j z.source) r.lit_is ∙ net-place net chips j r.pin chip is in
        subst P (sym place) (nets r.pin reads.net old.0 old.1 (board-pin net chips j r.pin reads.net chip board found r.column reads.pin_is)
        (ap (λ (z : Literal). z.source) (sym reads.literal_is) ∙ r.variable ∙ ap (λ (z : Literal). z.source) old.2))

-- it has the wire of the old net
built-wire : (net : Net) (chips : List ChipCells) (q : At) (n : ℕ) → IsPalBoard net chips → IsPin (board_of net (units_from 0 chips)) (same_chips net chips) q n →
    slice_get (built net chips).nets (net_of (rebuilt_net (board_of net (units_from 0 chips)) (same_chips net chips)) q) ≡ slice_get (circuit_on net (units_from 0 chips)).nets n
built-wire net chips q n board p =
    pin-wire (board_of net (units_from 0 chips)) (same_chips net chips) (board_old net chips) q n (kept-numbers (board_of net (units_from 0 chips)) (same_chips net chips)) (board-units net chips board) p

abbrev built_wiring : Net → List ChipCells → Net
built_wiring net chips = rebuilt_net (board_of net (units_from 0 chips)) (same_chips net chips)

abbrev built_units : Net → List ChipCells → List ChipUnit
built_units net chips = rebuilt_units (board_of net (units_from 0 chips)) (same_chips net chips)

abbrev built_unit : Net → List ChipCells → ChipUnit → ChipUnit
built_unit net chips u = rebuilt_unit (board_of net (units_from 0 chips)) (same_chips net chips) u

-- units keep their forms
combinational-same : (net : Net) (chips : List ChipCells) (i : ℕ) → IsPalBoard net chips → is_combinational (slice_get (built net chips).units i) ≡ is_combinational (slice_get (circuit_on net (units_from 0 chips)).units i)
combinational-same net chips i board =
    ap is_combinational (slice_get-map (driver_of (built_wiring net chips) (built_units net chips)) (built_units net chips) i
    ∙ ap (option_map (driver_of (built_wiring net chips) (built_units net chips))) (slice_get-map (built_unit net chips) (units_from 0 chips) i))
    ∙ at (slice_get (units_from 0 chips) i) (λ u e. board-registered net chips u board (among-get (units_from 0 chips) i u e))
    ∙ ap is_combinational (sym (slice_get-map (driver_of net (units_from 0 chips)) (units_from 0 chips) i))
  where
    by : (p q : Bool) (k m : ℕ) (ts ss : List (List Literal)) → p ≡ q → is_sum (cond p (Visible k) (Sum ts)) ≡ is_sum (cond q (Visible m) (Sum ss))
    by true true k m ts ss e = refl
    by false false k m ts ss e = refl
    by true false k m ts ss e = cc
    by false true k m ts ss e = cc

    at : (o : Option ChipUnit) → ((u : ChipUnit) → o ≡ Some u → is_registered (built_unit net chips u) ≡ is_registered u) →
        is_combinational (option_map (driver_of (built_wiring net chips) (built_units net chips)) (option_map (built_unit net chips) o)) ≡ is_combinational (option_map (driver_of net (units_from 0 chips)) o)
    at None h = refl
    at (Some u) h = by (is_registered (built_unit net chips u)) (is_registered u) _ _ _ _ (h u refl)

registered-reads : (net : Net) (chips : List ChipCells) (j : ℕ) (chip : NewChip) (t : List Literal) → IsPalBoard net chips → slice_get (same_chips net chips) j ≡ Some chip →
    ((x : Literal) → Among x t → is_combinational_net (circuit_on net (units_from 0 chips)) x.source ≡ false) →
    ReadsAll (board_of net (units_from 0 chips)) (same_chips net chips) j chip (λ v. is_combinational_net (built net chips) v ≡ false) (variable_product (circuit_on net (units_from 0 chips)) t)
registered-reads net chips j chip t board found h = read-property net chips j chip (λ v. is_combinational_net (built net chips) v ≡ false) t board found (λ k x a e. refl)
    (λ pin n x a p e.
    ap (is_combinational_wire (built net chips)) (built-wire net chips (j, pin) n board p)
    ∙ wire-same (slice_get (circuit_on net (units_from 0 chips)).nets n)
    ∙ variable-registered (circuit_on net (units_from 0 chips)) n x (h x a) e)
  where
    any-same : (ds : List ℕ) → list_any (λ u. is_combinational (slice_get (built net chips).units u)) ds ≡ list_any (λ u. is_combinational (slice_get (circuit_on net (units_from 0 chips)).units u)) ds
    any-same [] = refl
    any-same (d ∷ ds) =
        ap (λ (q : Bool). q || list_any (λ u. is_combinational (slice_get (built net chips).units u)) ds) (combinational-same net chips d board)
        ∙ ap (λ (q : Bool). is_combinational (slice_get (circuit_on net (units_from 0 chips)).units d) || q) (any-same ds)

    wire-same : (o : Option Wire) → is_combinational_wire (built net chips) o ≡ is_combinational_wire (circuit_on net (units_from 0 chips)) o
    wire-same None = refl
    wire-same (Some w) = any-same w.drivers

-- the new units

comb-ranks : (net : Net) (chips : List ChipCells) (i : ℕ) (u : ChipUnit) → IsPalBoard net chips → ReadsRegistered net chips → slice_get (units_from 0 chips) i ≡ Some u → IsCombUnit net chips u →
    DriverRanks (built net chips) (driver_of (built_wiring net chips) (built_units net chips) (built_unit net chips u))
comb-ranks net chips i u board reads e c =
    let b = board_of net (units_from 0 chips) in
    let news = same_chips net chips in
    let chip = chip_at news u.chip in
    let fit = board-units net chips board in
    let f = board-comb net chips i u board e c in
    let a = among-get (units_from 0 chips) i u e in
    let found = fit.chip u a in
    let enabled = enable-all b news u.chip chip (λ v. is_combinational_net (built net chips) v ≡ false) (variable_product b.circuit f.comb.lits) f.enable_fits.readable
    (registered-reads net chips u.chip chip f.comb.lits board found (λ x k. undriven-plain b.circuit x.source (board.enables u a x.source
    (subst (λ (d : Driver). Among x.source (row_reads d.enable)) (sym (old-driver b u f.comb)) (map-among (λ (z : Literal). z.source) x f.comb.lits k))))) in
    let registered = terms-all b news u.chip chip (λ v. is_combinational_net (built net chips) v ≡ false) (old_terms b u) f.terms_fit
    (λ t h. registered-reads net chips u.chip chip t board found (λ x k. reads.each u a (comb-unregistered net chips u c) x.source
    (among-flat_map product_reads t x.source (old_terms b u) h (map-among (λ (z : Literal). z.source) x t k)))) in
    subst (DriverRanks (built net chips)) (sym (new-driver net (units_from 0 chips) news i u (fit.on i u e) e f.comb))
    (record {
      registered = λ s v k. cc;
      enable = λ s v k. among-all (λ v. is_combinational_net (built net chips) v ≡ false) v (row_reads (rebuilt_enable b news u.chip chip (variable_product b.circuit f.comb.lits))) enabled k;
      terms = λ ts same v k. among-all (λ v. is_combinational_net (built net chips) v ≡ false) v (sum_reads (rebuilt_terms b news u.chip chip (old_terms b u))) registered
          (subst (λ (ss : List (List Literal)). Among v (sum_reads ss)) (sym (sums-same (rebuilt_terms b news u.chip chip (old_terms b u)) ts same)) k);
    })

reg-ranks : (net : Net) (chips : List ChipCells) (i : ℕ) (u : ChipUnit) → IsPalBoard net chips → slice_get (units_from 0 chips) i ≡ Some u → IsRegUnit net chips u →
    DriverRanks (built net chips) (driver_of (built_wiring net chips) (built_units net chips) (built_unit net chips u))
reg-ranks net chips i u board e r =
    let s = reg-stands net chips i u board e r in
    let n = net_of net (u.chip, 11) in
    let m = net_of (built_wiring net chips) (u.chip, 11) in
    let free = enable-undriven net chips u board (among-get (units_from 0 chips) i u e) r in
    let here : is_undriven (built net chips) (OfNet m) ≡ true =
    ap has_no_driver (built-wire net chips (u.chip, 11) n board s.enable) ∙ ap has_no_driver free.found ∙ ap (λ (ds : List ℕ). eqb (length ds) 0) free.none in
    subst (DriverRanks (built net chips)) (sym (new-reg_driver net chips (board_old net chips) i u s))
    (record {
      registered = λ q v k. among-all (λ v. is_undriven (built net chips) v ≡ true) v (row_reads (low_pin m)) (low-all (λ v. is_undriven (built net chips) v ≡ true) n m s.constants here) k;
      enable = λ q v k. cc;
      terms = λ ts same v k. cc;
    })

new-resets : (net : Net) (chips : List ChipCells) (u : ChipUnit) → IsPalBoard net chips → Among u (registers_of (units_from 0 chips)) →
    (register_of (built_wiring net chips) (built_units net chips) (built_unit net chips u)).reset ≡ Never
new-resets net chips u board a =
    let kept = among-unfilter is_registered u (units_from 0 chips) a in
    let i = get-among u (units_from 0 chips) kept.0 in
    let r = reg-unit net chips u board.pals kept.0 kept.1 in
    ap (λ (x : Register). x.reset) (new-register net chips (board_old net chips) i.0 u r.pal.line (reg-stands net chips i.0 u board i.1 r) (register-chip net chips i.0 u board r.pal i.1 kept.1) (unit-chip_at net chips u r.pal))

-- the registers of the new board are those that become of the old ones
built-register : (net : Net) (chips : List ChipCells) (k : ℕ) (r : Register) → IsPalBoard net chips → slice_get (built net chips).registers k ≡ Some r →
    (u : ChipUnit) × Among u (registers_of (units_from 0 chips)) × (r ≡ register_of (built_wiring net chips) (built_units net chips) (built_unit net chips u))
built-register net chips k r board e =
    let w = among-map (register_of (built_wiring net chips) (built_units net chips)) r (registers_of (built_units net chips)) (among-get (built net chips).registers k r e) in
    let units : registers_of (built_units net chips) ≡ map (built_unit net chips) (registers_of (units_from 0 chips)) =
    filter-map is_registered is_registered (built_unit net chips) (units_from 0 chips) (λ u a. board-registered net chips u board a) in
    let u = among-map (built_unit net chips) w.0 (registers_of (units_from 0 chips)) (subst (Among w.0) units w.1) in
    (u.0, u.1, w.2 ∙ ap (register_of (built_wiring net chips) (built_units net chips)) u.2)

new-rankable : (net : Net) (chips : List ChipCells) → IsPalBoard net chips → ReadsRegistered net chips → IsRankable (built net chips)
new-rankable net chips board reads = record {
  drivers = λ i d e.
      let w = among-map (driver_of (built_wiring net chips) (built_units net chips)) d (built_units net chips) (among-get (built net chips).units i d e) in
      let u = among-map (built_unit net chips) w.0 (units_from 0 chips) w.1 in
      let k = get-among u.0 (units_from 0 chips) u.1 in
      subst (DriverRanks (built net chips)) (sym (w.2 ∙ ap (driver_of (built_wiring net chips) (built_units net chips)) u.2)) (at k.0 u.0 k.1 (unit-cases net chips u.0 board.pals u.1));
  resets = λ k r e.
      let u = built-register net chips k r board e in
      ap (λ (x : Register). x.reset) u.2 ∙ new-resets net chips u.0 board u.1;
}
  where
    at : (i : ℕ) (u : ChipUnit) → slice_get (units_from 0 chips) i ≡ Some u → IsCombUnit net chips u ⊎ IsRegUnit net chips u → DriverRanks (built net chips) (driver_of (built_wiring net chips) (built_units net chips) (built_unit net chips u))
    at i u e (inl c) = comb-ranks net chips i u board reads e c
    at i u e (inr r) = reg-ranks net chips i u board e r

-- what is accepted

new-fixed : (net : Net) (chips : List ChipCells) → IsPalBoard net chips → FixedFit (built net chips)
new-fixed net chips board n w e fixed = at (cases_lt n (private_from (built_wiring net chips)))
  where
    at : (n < private_from (built_wiring net chips)) ⊎ (private_from (built_wiring net chips) ≤ n) → w.drivers ≡ []
    at (inl low) = board.fixed (board_old net chips n) w
        (sym (named-wire (board_of net (units_from 0 chips)) (same_chips net chips) (board_old net chips) n (kept-numbers (board_of net (units_from 0 chips)) (same_chips net chips)) (board-units net chips board) low) ∙ e) fixed
    at (inr high) =
        let is = old-private_wire (built_wiring net chips) (built_units net chips) n w high e in
        let wrong : false ≡ true = sym (ap (λ (x : Wire). is_fixed x.kind) is) ∙ fixed in
        cc

rankable-accepted : (c : Circuit) → FixedFit c → ((k : ℕ) (r : Register) → slice_get c.registers k ≡ Some r → (w : Wire) × (slice_get c.nets r.clock ≡ Some w) × (is_fixed w.kind ≡ true)) → IsRankable c → IsAccepted c
rankable-accepted c fixed clocks h = record { driven = fixed; clocks = clocks; no_loop = no-loop c (pal_rank c) 3 (pal-ranked c h) }

old-clocks : (net : Net) (chips : List ChipCells) → IsPalBoard net chips → (k : ℕ) (r : Register) → slice_get (circuit_on net (units_from 0 chips)).registers k ≡ Some r →
    (w : Wire) × (slice_get (circuit_on net (units_from 0 chips)).nets r.clock ≡ Some w) × (is_fixed w.kind ≡ true)
old-clocks net chips board k r e =
    let u = among-map (register_of net (units_from 0 chips)) r (registers_of (units_from 0 chips)) (among-get (circuit_on net (units_from 0 chips)).registers k r e) in
    let kept = among-unfilter is_registered u.0 (units_from 0 chips) u.1 in
    let w = board.clocks u.0 kept.0 kept.1 in
    (w.0, ap (λ (x : Register). slice_get (circuit_on net (units_from 0 chips)).nets x.clock) u.2 ∙ w.1, w.2)

new-clocks : (net : Net) (chips : List ChipCells) → IsPalBoard net chips → (k : ℕ) (r : Register) → slice_get (built net chips).registers k ≡ Some r →
    (w : Wire) × (slice_get (built net chips).nets r.clock ≡ Some w) × (is_fixed w.kind ≡ true)
new-clocks net chips board k r e =
    let u = built-register net chips k r board e in
    let kept = among-unfilter is_registered u.0 (units_from 0 chips) u.1 in
    let w = board.clocks u.0 kept.0 kept.1 in
    let f = board-register net chips u.0 board u.1 in
    (w.0, ap (λ (x : Register). slice_get (built net chips).nets x.clock) u.2 ∙ f.clock ∙ w.1, w.2)

length-same : (b : OldBoard) (start : ℕ) (lines : List ChipLine) (chips : List ChipCells) → ArePals lines chips →
    length (map (λ f. f.cells) (map (fitted b) (same_chips_from b start lines chips))) ≡ length chips
length-same b start [] [] h = refl
length-same b start [] (c ∷ cs) h = absurd h
length-same b start (l ∷ ls) [] h = absurd h
length-same b start (l ∷ ls) (c ∷ cs) h = ap suc (length-same b (start + 1) ls cs h.1)

-- boards of PAL16 chips whose combinational units read no combinational net are rebuilt
pub pal-rebuilt : (net : Net) (chips : List ChipCells) → IsPalBoard net chips → ReadsRegistered net chips → IsRebuilt net chips
pal-rebuilt net chips board reads =
    let units = units_from 0 chips in
    let b = board_of net units in
    let news = same_chips net chips in
    let old = circuit_on net units in
    let new = rebuilt_circuit b news in
    let is : new ≡ circuit (built_net net chips) (built_cells net chips) = ap (circuit_on (rebuilt_net b news)) (sym (units-rebuilt net chips board.pals (board-stay net chips board))) in
    let old_ranked : Ranked old (pal_rank old) 3 = pal-ranked old (old-rankable net chips board reads) in
    let new_rank = new-rankable net chips board reads in
    let ranked : Ranked new (pal_rank new) 3 = pal-ranked new new_rank in
    let alike : ShowsAlike old new =
    follows-same old new (old_read b news (board_old net chips)) (IsKept b news (board_old net chips)) (λ sa sb. sa ≡ sb) (pal_rank new) 3
    (rebuilt-follows net units news (board_old net chips) (board-fits net chips board)) ranked in
    let alike_built : ShowsAlike old (circuit (built_net net chips) (built_cells net chips)) = subst (λ (c : Circuit). ShowsAlike old c) is alike in
    record {
      old_accepted = rankable-accepted old board.fixed (old-clocks net chips board) (old-rankable net chips board reads);
      old_ranks = (pal_rank old, 3, old_ranked);
      new_accepted = subst IsAccepted is (rankable-accepted new (new-fixed net chips board) (new-clocks net chips board) new_rank);
      new_ranks = subst HasRanks is (pal_rank new, 3, ranked);
      alike = alike_built;
      same = same-boards net chips (built_net net chips) (built_cells net chips) (ports-same b news) alike_built;
      as_many = length-same b 0 net.chips chips board.pals;
    }
