-- A plan without breach makes kept chips, and its new board is one that a wiring and fuses give.
use Rattle.std.proofs.Common.{◌≡◌, Bool, true, false, List, [], ◌∷◌, map, refl}
use Rattle.std.specs.List.{AllByRecursion, list_all, slice_index_or}
use Rattle.std.proofs.lemmas.Bool.{and_parts}
use Rattle.mig_base.specs.declared.plans.Plan.{Plan}
use Rattle.mig_base.specs.declared.plans.PlanChip.{PlanChip}
use Rattle.mig_base.specs.Among.{Among}
use Rattle.mig_base.specs.DeviceTables.{is_gal}
use Rattle.mig_base.specs.Given.{AreMade, IsGiven}
use Rattle.mig_base.specs.WellFormed.{IsWellFormed}
use Rattle.structure.specs.Live.{IsLiveness}
use Rattle.board.specs.Joined.{Joined, equations_of}
use Rattle.joiner.specs.AbsorbedNets.{AreAbsorbable}
use Rattle.new_board.specs.declared.types.FittedChip.{FittedChip}
use Rattle.new_board.specs.Files.{chip_fuses}
use Rattle.new_board.specs.NewChip.{NewChip}
use Rattle.new_board.specs.NewFiles.{new_chip_line}
use Rattle.built_files.proofs.GalFuses.{gal-again}
use Rattle.plan_text.specs.PlanText.{IsPlan}
use Rattle.plans.specs.Placings.{absorbed_units}
use Rattle.plans.specs.Forms.{IsNewChip}
use Rattle.plans.specs.Fitting.{AreNewChips, fitted_chips, new_board}
use Rattle.plans.specs.Breaches.{HasNoBreach, RuleGives, line_rules}
use Rattle.plans.proofs.BreachLaws.{none-unbroken}
use Rattle.plans.proofs.Firsts.{none-first}
use Rattle.fit.proofs.Absorbables.{absorbed-absorbable}
use Rattle.fitted_cells.specs.FittedCells.{IsBuiltWell}
use Rattle.fitted_cells.proofs.FitChips.{fit-chip, placing-of}
use Rattle.fitted_cells.proofs.PlansBuilt.{plans-built}
use Rattle.fitted_cells.proofs.UnitsOnPins.{each-back}
use Rattle.planned_boards.specs.Planned.{ArePlanned}
use Rattle.planned_parts.specs.KeptChips.{AreKeptChips, IsKeptChip}
use Rattle.kept_plans.proofs.ControlRows.{controls-readable}
use Rattle.kept_plans.proofs.LiveUnits.{live-placed}
use Rattle.kept_plans.proofs.PlacedRows.{part-rows, reads-staying}
use Rattle.kept_plans.proofs.SharedChips.{shares-chip, suits-v8}

-- well formed cells of GALs are those that their own fuses make
are-made : (fs : List FittedChip) → AllByRecursion (λ (f : FittedChip). IsWellFormed f.cells) fs → list_all (λ (f : FittedChip). is_gal f.cells.kind) fs ≡ true →
    AreMade (map new_chip_line fs) (map (λ (f : FittedChip). f.cells) fs)
are-made [] well gals = tt
are-made (f ∷ fs) well gals =
    let parts = and_parts (is_gal f.cells.kind) (list_all (λ (g : FittedChip). is_gal g.cells.kind) fs) gals in
    ((chip_fuses f.cells, gal-again f.cells parts.0 well.0), are-made fs well.1 parts.1)

module _ (b : Joined) (p : Plan) (chips : List NewChip) (given : IsGiven b.net b.chips) (plan : IsPlan p) (none : HasNoBreach b p) (are : AreNewChips b p chips) where
  built : IsBuiltWell b p (fitted_chips b chips)
  built = plans-built b p (fitted_chips b chips) given given.wiring plan none (record { chips = chips; are_new = are; are = refl })

  absorbable : AreAbsorbable b (absorbed_units b p)
  absorbable = absorbed-absorbable b p given (none-first (RuleGives b p) line_rules (λ r x h. none-unbroken b p none r x h))

  new-given : IsGiven (new_board b chips).net (new_board b chips).chips
  new-given = record { wiring = built.wiring; cells = are-made (fitted_chips b chips) built.cells built.gals }

  module _ (c : PlanChip) (there : Among c p.chips) (chip : NewChip) (is : IsNewChip b p c chip) where
    chip-kept : IsKeptChip b (absorbed_units b p) chip
    chip-kept = record {
      fit = fit-chip b p given plan none c there chip is;
      planned = record {
        units = λ x m. let y = placing-of b p given plan none c there chip is x m in part-rows b p given absorbable y.0 y.2.placed.among x y.2.rows;
        shares = λ x first m e f. shares-chip b p given plan none c there chip is x first m e f;
        suits = λ x first m v8 e f. suits-v8 b p given plan none c there chip is x first m v8 e f;
      };
      controls = controls-readable b p given plan none c there chip is;
      staying = λ x m. let y = placing-of b p given plan none c there chip is x m in reads-staying b p given absorbable y.0 y.2.placed.among x y.2.rows;
    }

  pub chips-kept : AreKeptChips b (absorbed_units b p) chips
  chips-kept = record {
    old_given = given;
    given = new-given;
    absorbable = absorbable;
    chip = λ chip m. let c = each-back (IsNewChip b p) p.chips chips chip are m in chip-kept c.0 c.1 chip c.2;
  }

  pub units-planned : (live : List Bool) → IsLiveness (equations_of b) live → ArePlanned b (absorbed_units b p) (λ u. slice_index_or live u false) chips
  units-planned live liveness = record {
    absorbable = absorbable;
    chip = λ chip m. (chips-kept.chip chip m).planned;
    every = λ u d e on. live-placed b p none chips are u d e (liveness.sound u on);
  }
