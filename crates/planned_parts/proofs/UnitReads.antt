-- What a combinational unit of the new board reads, and a registered one on a 22V10.
use Rattle.std.proofs.Common.{ℕ, ◌≡◌, ◌⊎◌, true, false, List, [], ◌∷◌, map, Some, None, sym, subst, inl, inr}
use Rattle.std.specs.List.{slice_get}
use Rattle.mig_base.specs.declared.circuit.Literal.{Literal}
use Rattle.mig_base.specs.declared.circuit.Read.{Read}
use Rattle.mig_base.specs.declared.circuit.Read.TheVariants.{OfRegister}
use Rattle.mig_base.specs.declared.circuit.Gate.{Gate}
use Rattle.mig_base.specs.declared.circuit.Gate.TheVariants.{Product}
use Rattle.mig_base.specs.declared.circuit.Driver.{Driver}
use Rattle.mig_base.specs.declared.circuit.Circuit.{Circuit}
use Rattle.mig_base.specs.Among.{Among}
use Rattle.mig_base.specs.Boards.{ChipUnit, driver_of}
use Rattle.mig_base.specs.DeviceTables.{is_22}
use Rattle.mig_base.specs.Reads.{IsNode, driver_reads}
use Rattle.mig_base.specs.Values.{row_reads, sum_reads}
use Rattle.mig_base.proofs.Amongs.{among-split}
use Rattle.board.specs.Joined.{Joined, equations_of}
use Rattle.new_board.specs.NewChip.{NewChip, gate_products, placed_register}
use Rattle.new_board.proofs.WellMade.{IsFitChip}
use Rattle.plans.specs.Placings.{old}
use Rattle.plans.specs.Fitting.{new_board}
use Rattle.plans.specs.Forms.{Products, read_absorbed}
use Rattle.placed_boards.specs.Places.{IsSeen}
use Rattle.new_circuits.specs.NewNumbers.{IsNewUnit, is_seen, new_literals, new_units, new_wiring}
use Rattle.planned_boards.specs.Planned.{HasPartRows}
use Rattle.planned_boards.proofs.CombUnits as comb
use Rattle.planned_boards.proofs.RegUnits as on_22
use Rattle.planned_parts.specs.KeptChips.{AreKeptChips, ReadsStaying}
use Rattle.planned_parts.proofs.SeenReads.{AreSeenRows, enable-sees, sum-sees}
use Rattle.planned_parts.proofs.Unabsorbed.{literal-stays}
use Rattle.planned_parts.proofs.Units.{kept-chip, on-its-chip}

module _ (b : Joined) (absorbed : List ℕ) (chips : List NewChip) (kept : AreKeptChips b absorbed chips) where
  abbrev a : Circuit
  a = equations_of b

  abbrev new : Circuit
  new = equations_of (new_board b chips)

  abbrev pub Sees : Read → Type 0
  Sees w = IsSeen new (is_seen b absorbed chips) w

  module _ (v : ℕ) (u : ChipUnit) (at : slice_get (new_units b chips) v ≡ Some u) (n : IsNewUnit b chips u) where
    abbrev pub driver : Driver
    driver = driver_of (new_wiring b chips) (new_units b chips) u

    abbrev Rows : Products → Type 0
    Rows ts = AreSeenRows b absorbed kept.absorbable chips u.chip n.chip n.found ts

    pub stays : ReadsStaying b absorbed n.unit
    stays = (kept-chip b absorbed chips kept v u at n).staying n.unit (on-its-chip b absorbed chips kept v u at n)

    -- the register that it shows
    pub shown : (w : Read) (place : ℕ) → Among w (OfRegister place ∷ []) → IsNode new w → Sees w
    shown w place (inl e) node = subst Sees (sym e) (subst (IsNode new) e node)
    shown w place (inr none) node = absurd none

    abbrev pub fit : IsFitChip (old b) n.chip
    fit = (kept-chip b absorbed chips kept v u at n).fit

    abbrev pub rows : HasPartRows b absorbed n.unit
    rows = (kept-chip b absorbed chips kept v u at n).planned.units n.unit (on-its-chip b absorbed chips kept v u at n)

    -- a combinational unit
    module _ (none : placed_register a n.unit ≡ None) (lits : List Literal) (e : n.unit.enable ≡ Product lits) where
      abbrev combined : Driver
      combined = comb.made b absorbed chips kept.given v u at n fit rows none lits

      term-rows : Rows n.unit.terms
      term-rows = record {
        readable = λ t m. comb.readable b absorbed chips kept.given v u at n fit rows none lits e t (inr m);
        stay = λ t x m mx. literal-stays a absorbed n.unit.terms stays.terms t x m mx;
      }

      enable-rows : Rows (lits ∷ [])
      enable-rows = record {
        readable = λ t m. comb.readable b absorbed chips kept.given v u at n fit rows none lits e t (first t m);
        stay = λ t x m mx. literal-stays a absorbed (lits ∷ []) (subst (λ (g : Gate). read_absorbed a absorbed (gate_products g) ≡ false) e stays.enable) t x m mx;
      }
        where
          first : (t : List Literal) → Among t (lits ∷ []) → Among t (lits ∷ n.unit.terms)
          first t (inl same) = inl same
          first t (inr m) = absurd m

      pub comb-reads : (w : Read) → Among w (driver_reads (Some driver)) → IsNode new w → Sees w
      comb-reads w m node =
          by (among-split w (row_reads combined.enable) (sum_reads (map (new_literals b chips u.chip n.chip) n.unit.terms))
          (subst (λ (x : Driver). Among w (driver_reads (Some x))) (comb.driver-is b absorbed chips kept.given v u at n fit rows none lits e) m))
        where
          by : Among w (row_reads combined.enable) ⊎ Among w (sum_reads (map (new_literals b chips u.chip n.chip) n.unit.terms)) → Sees w
          by (inl h) = enable-sees b absorbed kept.absorbable chips u.chip n.chip n.found (Product lits) enable-rows w h node
          by (inr h) = sum-sees b absorbed kept.absorbable chips u.chip n.chip n.found n.unit.terms term-rows w h node

    -- a registered unit
    module _ (k : ℕ) (is : placed_register a n.unit ≡ Some k) where
      pub reads-on-22 : is_22 n.chip.kind ≡ true → (w : Read) → Among w (driver_reads (Some driver)) → IsNode new w → Sees w
      reads-on-22 e w m node =
          by (among-split w (row_reads made.enable) (OfRegister place ∷ [])
          (subst (λ (x : Driver). Among w (driver_reads (Some x))) (on_22.driver-is b absorbed chips kept.given v u at n fit rows k is e) m))
        where
          place : ℕ
          place = on_22.place b absorbed chips kept.given v u at n fit rows k is

          made : Driver
          made = on_22.made b absorbed chips kept.given v u at n fit rows k is e

          by : Among w (row_reads made.enable) ⊎ Among w (OfRegister place ∷ []) → Sees w
          by (inl h) = enable-sees b absorbed kept.absorbable chips u.chip n.chip n.found n.unit.enable (record {
            readable = λ t m. on_22.readable b absorbed chips kept.given v u at n fit rows k is e t m;
            stay = λ t x m mx. literal-stays a absorbed (gate_products n.unit.enable) stays.enable t x m mx;
          }) w h node
          by (inr h) = shown w place h node
