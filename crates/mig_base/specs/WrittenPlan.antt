-- The plan text that is written.
use Rattle.std.specs.Prelude.{ℕ, List, [], ◌∷◌, ◌++◌, map, codes}
use Rattle.std.specs.List.{flat_map}
use Rattle.std.specs.Fmt.{decimal}
use Rattle.mig_base.specs.declared.kinds.Mode.{Mode}
use Rattle.mig_base.specs.declared.kinds.Mode.TheVariants.{Fixed, Simple, Complex, Registered}
use Rattle.mig_base.specs.declared.nets.PinName.{PinName}
use Rattle.mig_base.specs.declared.plans.Plan.{Plan}
use Rattle.mig_base.specs.declared.plans.PlanChip.{PlanChip}
use Rattle.mig_base.specs.declared.plans.PlanLine.{PlanLine}
use Rattle.mig_base.specs.declared.plans.PlanLine.TheVariants.{Place, Absorb}
use Rattle.mig_base.specs.DeviceTables.{kind_name}
use Rattle.mig_base.specs.WrittenBoard.{written_line}

-- the word of the mode of a V8; other chips have none
abbrev pub mode_words : Mode → List (List ℕ)
mode_words Fixed = []
mode_words Simple = codes "simple" ∷ []
mode_words Complex = codes "complex" ∷ []
mode_words Registered = codes "registered" ∷ []

-- a chip's name, a dot and a pin
abbrev pub pin_word : PinName → List ℕ
pin_word u = u.chip ++ 46 ∷ decimal u.pin

abbrev pub plan_chip_line : PlanChip → List (List ℕ)
plan_chip_line c = codes "chip" ∷ c.name ∷ kind_name c.kind ∷ mode_words c.mode

abbrev pub plan_line : PlanLine → List (List ℕ)
plan_line (Place unit chip pin) = codes "place" ∷ pin_word unit ∷ pin_word (record { chip = chip; pin = pin }) ∷ []
plan_line (Absorb unit) = codes "absorb" ∷ pin_word unit ∷ []

-- the words of the lines: the chips, the place and absorb lines in the plan's order, the end
abbrev pub plan_lines : Plan → List (List (List ℕ))
plan_lines p = (codes "plan" ∷ codes "1" ∷ []) ∷ map plan_chip_line p.chips ++ map plan_line p.lines ++ (codes "end" ∷ []) ∷ []

-- the text that is written
abbrev pub written_plan : Plan → List ℕ
written_plan p = flat_map written_line (plan_lines p)
