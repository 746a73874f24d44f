-- What is proved of a board that is built one for one.
use Rattle.std.specs.Prelude.{ℕ, ◌≡◌, ◌≤◌, Bool, ◌&&◌, nat_lt, IsTrue, List, map, length}
use Rattle.std.specs.List.{AllByRecursion, list_all}
use Rattle.mig_base.specs.declared.kinds.Kind.TheVariants.{Gal16V8}
use Rattle.mig_base.specs.declared.cells.ChipCells.{ChipCells}
use Rattle.mig_base.specs.declared.nets.Net.{Net}
use Rattle.mig_base.specs.declared.plans.Plan.{Plan}
use Rattle.mig_base.specs.declared.plans.PlanLine.{PlanLine}
use Rattle.mig_base.specs.declared.plans.PlanLine.TheVariants.{Place, Absorb}
use Rattle.mig_base.specs.declared.circuit.Read.{Read}
use Rattle.mig_base.specs.declared.circuit.Circuit.{Circuit}
use Rattle.mig_base.specs.Accepted.{IsAccepted}
use Rattle.mig_base.specs.Boards.{circuit}
use Rattle.mig_base.specs.Names.{is_name}
use Rattle.mig_base.specs.WellFormed.{IsWellFormed}
use Rattle.mig_base.specs.WrittenBoard.{IsWritable}
use Rattle.mig_base.specs.Ranked.{Ranked}
use Rattle.level_laws.specs.SameBehaviour.{ShowsAlike, IsSame}
use Rattle.new_board.specs.NewFiles.{fitted, new_net}
use Rattle.new_board.specs.OneForOne.{old_board, same_chips, one_for_one}
use Rattle.taken_boards.specs.TakenBoards.{TakenBoard}
use Rattle.new_board.specs.declared.types.FittedChip.{FittedChip}

-- the chips that are built for a board, one for one
abbrev pub built_chips : Net → List ChipCells → List FittedChip
built_chips net chips = map (fitted (old_board net chips)) (same_chips net chips)

-- their cells
abbrev pub built_cells : Net → List ChipCells → List ChipCells
built_cells net chips = map (λ f. f.cells) (built_chips net chips)

-- their wiring
abbrev pub built_net : Net → List ChipCells → Net
built_net net chips = new_net net (built_chips net chips)

-- the nodes of a board have ranks
abbrev pub HasRanks : Circuit → Type 0
HasRanks c = (rank : Read → ℕ) × (top : ℕ) × Ranked c rank top

-- both boards are accepted, and the built one shows what the old one shows, with as many chips
pub record IsRebuilt (net : Net) (chips : List ChipCells) : Type 0 where
  pub old_accepted : IsAccepted (circuit net chips)
  pub old_ranks : HasRanks (circuit net chips)
  pub new_accepted : IsAccepted (circuit (built_net net chips) (built_cells net chips))
  pub new_ranks : HasRanks (circuit (built_net net chips) (built_cells net chips))
  pub alike : ShowsAlike (circuit net chips) (circuit (built_net net chips) (built_cells net chips))
  pub same : IsSame net chips (built_net net chips) (built_cells net chips)
  pub as_many : length (built_cells net chips) ≡ length chips

-- boards that are taken are rebuilt
abbrev pub BoardsAreRebuilt : Type 0
BoardsAreRebuilt = (net : Net) (chips : List ChipCells) → TakenBoard net chips → IsRebuilt net chips

-- a chip's name of at most 24 bytes, and a pin that one byte holds
abbrev pub is_small_pin : List ℕ → ℕ → Bool
is_small_pin name pin = is_name name && nat_lt pin 256

abbrev pub is_small_line : PlanLine → Bool
is_small_line (Place unit chip pin) = is_small_pin unit.chip unit.pin && is_small_pin chip pin
is_small_line (Absorb unit) = is_small_pin unit.chip unit.pin

-- a plan of at most 512 lines, whose names and pins are those of chips
pub record IsSmallPlan (plan : Plan) : Type 0 where
  pub few_lines : length plan.lines ≤ 512
  pub named : IsTrue (list_all (λ c. is_name c.name) plan.chips)
  pub lines : IsTrue (list_all is_small_line plan.lines)

-- what is asked of the files of a built board: each chip a GAL16V8 with cells that some fuses make, and a wiring and a plan that have a text
pub record IsBuiltWell (net : Net) (chips : List ChipCells) : Type 0 where
  pub cells : AllByRecursion (λ f. IsWellFormed f.cells) (built_chips net chips)
  pub wiring : IsWritable (built_net net chips)
  pub kinds : AllByRecursion (λ f. f.cells.kind ≡ Gal16V8) (built_chips net chips)
  pub names : map (λ f. f.name) (built_chips net chips) ≡ map (λ c. c.name) net.chips
  pub named : IsTrue (list_all (λ f. is_name f.name) (built_chips net chips))
  pub as_many : length (built_chips net chips) ≡ length net.chips
  pub planned : map (λ c. c.name) (one_for_one net chips).chips ≡ map (λ c. c.name) net.chips
  pub plan : IsSmallPlan (one_for_one net chips)

-- boards that are taken, whose wiring has a text, are built well
abbrev pub BoardsAreBuiltWell : Type 0
BoardsAreBuiltWell = (net : Net) (chips : List ChipCells) → IsWritable net → TakenBoard net chips → IsBuiltWell net chips
