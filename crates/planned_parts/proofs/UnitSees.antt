-- What the units of the new board read: registers, and nets that stand for old ones.
use Rattle.std.proofs.Common.{ℕ, ◌≡◌, Bool, true, false, List, Option, Some, None, refl, sym, ap, ◌∙◌, subst}
use Rattle.std.specs.List.{slice_get}
use Rattle.std.specs.Option.{option_map}
use Rattle.std.proofs.lemmas.Option.{slice_get-map}
use Rattle.mig_base.specs.declared.circuit.Read.{Read}
use Rattle.mig_base.specs.declared.circuit.Gate.{Gate}
use Rattle.mig_base.specs.declared.circuit.Gate.TheVariants.{Never, Product}
use Rattle.mig_base.specs.declared.circuit.Driver.{Driver}
use Rattle.mig_base.specs.declared.circuit.Circuit.{Circuit}
use Rattle.mig_base.specs.Among.{Among}
use Rattle.mig_base.specs.Boards.{ChipUnit, driver_of, is_unit}
use Rattle.mig_base.specs.DeviceTables.{is_22}
use Rattle.mig_base.specs.Reads.{IsNode, driver_reads}
use Rattle.mig_base.proofs.Amongs.{among-all}
use Rattle.board.specs.Joined.{Joined, equations_of}
use Rattle.read_nodes.proofs.GivenNodes.{given-nodes}
use Rattle.new_board.specs.NewChip.{NewChip, placed_register}
use Rattle.new_board.specs.NewFiles.{new_comb}
use Rattle.new_board.proofs.WellMade.{IsFitChip}
use Rattle.plans.specs.Placings.{old}
use Rattle.plans.specs.Fitting.{new_board}
use Rattle.placed_boards.specs.Places.{IsSeen}
use Rattle.new_circuits.specs.NewNumbers.{IsNewUnit, is_seen, new_units, new_wiring}
use Rattle.new_circuits.proofs.NewUnits.{new-unit}
use Rattle.planned_boards.specs.Planned.{HasPartRows}
use Rattle.planned_boards.proofs.CombUnits as comb
use Rattle.planned_parts.specs.KeptChips.{AreKeptChips}
use Rattle.planned_parts.proofs.PinUnitReads.{reads-on-v8}
use Rattle.planned_parts.proofs.UnitReads.{comb-reads, reads-on-22}
use Rattle.planned_parts.proofs.Units.{kept-chip, on-its-chip, v8-kind}

module _ (b : Joined) (absorbed : List ℕ) (chips : List NewChip) (kept : AreKeptChips b absorbed chips) where
  abbrev a : Circuit
  a = equations_of b

  abbrev new : Circuit
  new = equations_of (new_board b chips)

  abbrev Sees : Read → Type 0
  Sees w = IsSeen new (is_seen b absorbed chips) w

  module _ (v : ℕ) (u : ChipUnit) (at : slice_get (new_units b chips) v ≡ Some u) (n : IsNewUnit b chips u) where
    abbrev driver : Driver
    driver = driver_of (new_wiring b chips) (new_units b chips) u

    abbrev fit : IsFitChip (old b) n.chip
    fit = (kept-chip b absorbed chips kept v u at n).fit

    abbrev rows : HasPartRows b absorbed n.unit
    rows = (kept-chip b absorbed chips kept v u at n).planned.units n.unit (on-its-chip b absorbed chips kept v u at n)

    unit-reads : (w : Read) → Among w (driver_reads (Some driver)) → IsNode new w → Sees w
    unit-reads w m node = by (placed_register a n.unit) refl
      where
        gated : placed_register a n.unit ≡ None → (g : Gate) → n.unit.enable ≡ g → Sees w
        gated none Never e =
            let idle_cell = comb.comb-cell b absorbed chips kept.given v u at n fit rows none ∙ ap (new_comb (old b) n.chip u.cell.pin n.unit) e in
            let wrong : true ≡ false = sym n.stands ∙ ap (is_unit u.cells) idle_cell in
            cc
        gated none (Product lits) e = comb-reads b absorbed chips kept v u at n none lits e w m node

        kinded : (k : ℕ) → placed_register a n.unit ≡ Some k → (q : Bool) → is_22 n.chip.kind ≡ q → Sees w
        kinded k is true e = reads-on-22 b absorbed chips kept v u at n k is e w m node
        kinded k is false e = reads-on-v8 b absorbed chips kept v u at n k is (v8-kind n.chip.kind fit.gal e) w m node

        by : (o : Option ℕ) → placed_register a n.unit ≡ o → Sees w
        by None none = gated none n.unit.enable refl
        by (Some k) is = kinded k is (is_22 n.chip.kind) refl

  -- what a unit reads
  pub driver-sees : (v : ℕ) (w : Read) → Among w (driver_reads (slice_get new.units v)) → Sees w
  driver-sees v w m = at (slice_get (new_units b chips) v) refl (subst (λ (o : Option Driver). Among w (driver_reads o)) (slice_get-map (driver_of (new_wiring b chips) (new_units b chips)) (new_units b chips) v) m)
    where
      node : IsNode new w
      node = among-all (IsNode new) w (driver_reads (slice_get new.units v)) ((given-nodes (new_board b chips).net (new_board b chips).chips kept.given).units v) m

      at : (o : Option ChipUnit) → slice_get (new_units b chips) v ≡ o → Among w (driver_reads (option_map (driver_of (new_wiring b chips) (new_units b chips)) o)) → Sees w
      at None is h = absurd h
      at (Some u) is h = unit-reads v u is (new-unit b chips v u is) w h node
