-- What the nodes of the new board read, and its registers at an edge: registers, and nets that stand for old ones.
use Rattle.std.proofs.Common.{ℕ, ◌≡◌, ◌⊎◌, List, [], ◌∷◌, ◌++◌, Option, Some, None, refl, sym, ◌∙◌, subst, inl, inr}
use Rattle.std.specs.List.{flat_map, slice_get}
use Rattle.std.specs.Option.{option_map}
use Rattle.std.proofs.lemmas.Option.{same_Some, slice_get-map}
use Rattle.mig_base.specs.declared.circuit.Read.{Read}
use Rattle.mig_base.specs.declared.circuit.Read.TheVariants.{OfNet, OfRegister}
use Rattle.mig_base.specs.declared.circuit.Register.{Register}
use Rattle.mig_base.specs.declared.circuit.Wire.{Wire}
use Rattle.mig_base.specs.declared.circuit.Circuit.{Circuit}
use Rattle.mig_base.specs.Among.{Among}
use Rattle.mig_base.specs.Boards.{ChipUnit, register_of, registers_of}
use Rattle.mig_base.specs.Reads.{IsNode, driver_reads, edge_reads, node_reads, reads_of_register, reads_of_wire}
use Rattle.mig_base.specs.Values.{row_reads, sum_reads}
use Rattle.mig_base.proofs.Amongs.{among-all, among-right, among-split}
use Rattle.board.specs.Joined.{Joined, equations_of}
use Rattle.new_board.specs.NewChip.{NewChip, gate_products}
use Rattle.plans.specs.Fitting.{new_board}
use Rattle.plans.specs.Forms.{Products}
use Rattle.placed_boards.specs.Places.{IsSeen}
use Rattle.new_circuits.specs.NewNumbers.{is_seen, new_units, new_wiring}
use Rattle.planned_parts.specs.KeptChips.{AreKeptChips, ReadsStaying}
use Rattle.planned_parts.proofs.NewRegisters.{IsNewRegister, of-chip-unit}
use Rattle.planned_parts.proofs.PinUnitReads.{first-on}
use Rattle.planned_parts.proofs.RegisterParts.{preset-readable, reset-readable, term-readable}
use Rattle.planned_parts.proofs.RegisterRows.{edge-nodes, made, stands-there}
use Rattle.planned_parts.proofs.SeenReads.{AreSeenRows, row-sees, sum-sees}
use Rattle.planned_parts.proofs.Unabsorbed.{literal-stays}
use Rattle.planned_parts.proofs.UnitSees.{driver-sees}

module _ (b : Joined) (absorbed : List ℕ) (chips : List NewChip) (kept : AreKeptChips b absorbed chips) where
  abbrev a : Circuit
  a = equations_of b

  abbrev new : Circuit
  new = equations_of (new_board b chips)

  abbrev Sees : Read → Type 0
  Sees w = IsSeen new (is_seen b absorbed chips) w

  -- what a register reads at an edge
  module _ (k : ℕ) (r : IsNewRegister b absorbed chips k) where
    abbrev its : Register
    its = made b absorbed chips kept k r

    abbrev Rows : Products → Type 0
    Rows ts = AreSeenRows b absorbed kept.absorbable chips r.unit.chip r.new.chip r.new.found ts

    first_stays : ReadsStaying b absorbed r.first
    first_stays = r.kept.staying r.first (first-on a r.new.chip r.first r.is_first)

    term-rows : Rows r.new.unit.terms
    term-rows = record {
      readable = λ t m. term-readable b absorbed chips kept k r t m;
      stay = λ t x m mx. literal-stays a absorbed r.new.unit.terms (r.kept.staying r.new.unit r.on).terms t x m mx;
    }

    reset-rows : Rows (gate_products r.first.reset)
    reset-rows = record {
      readable = λ t m. reset-readable b absorbed chips kept k r t m;
      stay = λ t x m mx. literal-stays a absorbed (gate_products r.first.reset) first_stays.reset t x m mx;
    }

    preset-rows : Rows (gate_products r.first.preset)
    preset-rows = record {
      readable = λ t m. preset-readable b absorbed chips kept k r t m;
      stay = λ t x m mx. literal-stays a absorbed (gate_products r.first.preset) first_stays.preset t x m mx;
    }

    made-sees : (w : Read) → Among w (edge_reads its) → Sees w
    made-sees w m = at (among-split w (sum_reads its.terms ++ row_reads its.preset) (row_reads its.reset) m)
      where
        node : IsNode new w
        node = among-all (IsNode new) w (edge_reads its) (edge-nodes b absorbed chips kept k r) m

        front : Among w (sum_reads its.terms) ⊎ Among w (row_reads its.preset) → Sees w
        front (inl h) = sum-sees b absorbed kept.absorbable chips r.unit.chip r.new.chip r.new.found r.new.unit.terms term-rows w h node
        front (inr h) = row-sees b absorbed kept.absorbable chips r.unit.chip r.new.chip r.new.found r.first.preset preset-rows w h node

        at : Among w (sum_reads its.terms ++ row_reads its.preset) ⊎ Among w (row_reads its.reset) → Sees w
        at (inl h) = front (among-split w (sum_reads its.terms) (row_reads its.preset) h)
        at (inr h) = row-sees b absorbed kept.absorbable chips r.unit.chip r.new.chip r.new.found r.first.reset reset-rows w h node

  pub edge-sees : (k : ℕ) (now : Register) (w : Read) → slice_get new.registers k ≡ Some now → Among w (edge_reads now) → Sees w
  edge-sees k now w e m = at (slice_get (registers_of (new_units b chips)) k) refl (sym (slice_get-map (register_of (new_wiring b chips) (new_units b chips)) (registers_of (new_units b chips)) k) ∙ e)
    where
      at : (o : Option ChipUnit) → slice_get (registers_of (new_units b chips)) k ≡ o → option_map (register_of (new_wiring b chips) (new_units b chips)) o ≡ Some now → Sees w
      at None is h = cc
      at (Some u) is h =
          let r = of-chip-unit b absorbed chips kept k u is in
          let same : Some now ≡ Some (made b absorbed chips kept k r) = sym e ∙ stands-there b absorbed chips kept k r in
          made-sees k r w (subst (λ (q : Register). Among w (edge_reads q)) (same_Some now (made b absorbed chips kept k r) same) m)

  pub node-sees : (v w : Read) → Among w (node_reads new v) → Sees w
  node-sees (OfNet m) w among = at (slice_get new.nets m) among
    where
      by : (us : List ℕ) → Among w (flat_map (λ (u : ℕ). driver_reads (slice_get new.units u)) us) → Sees w
      by [] h = absurd h
      by (u ∷ us) h = of_first (among-split w (driver_reads (slice_get new.units u)) (flat_map (λ (x : ℕ). driver_reads (slice_get new.units x)) us) h) (by us)
        where
          of_first : Among w (driver_reads (slice_get new.units u)) ⊎ Among w (flat_map (λ (x : ℕ). driver_reads (slice_get new.units x)) us) →
              (Among w (flat_map (λ (x : ℕ). driver_reads (slice_get new.units x)) us) → Sees w) → Sees w
          of_first (inl g) rest = driver-sees b absorbed chips kept u w g
          of_first (inr g) rest = rest g

      at : (o : Option Wire) → Among w (reads_of_wire new o) → Sees w
      at None h = absurd h
      at (Some wire) h = by wire.drivers h
  node-sees (OfRegister k) w among = at (slice_get new.registers k) refl among
    where
      at : (o : Option Register) → slice_get new.registers k ≡ o → Among w (reads_of_register o) → Sees w
      at None is h = absurd h
      at (Some now) is h = edge-sees k now w is (among-right w (sum_reads now.terms ++ row_reads now.preset) (row_reads now.reset) h)
