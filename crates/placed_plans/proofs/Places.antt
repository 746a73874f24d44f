-- The new board of a plan without breach places the units of the old one.
use Rattle.std.proofs.Common.{ℕ, ◌≡◌, Bool, true, false, List, Some}
use Rattle.std.specs.List.{slice_get, slice_index_or}
use Rattle.mig_base.specs.declared.circuit.Circuit.{Circuit}
use Rattle.mig_base.specs.declared.circuit.Driver.{Driver}
use Rattle.mig_base.specs.declared.plans.Plan.{Plan}
use Rattle.mig_base.specs.Accepted.{IsAccepted}
use Rattle.mig_base.specs.Given.{IsGiven}
use Rattle.structure.specs.Live.{IsLiveness}
use Rattle.board.specs.Joined.{Joined, equations_of}
use Rattle.new_board.specs.NewChip.{NewChip}
use Rattle.plan_text.specs.PlanText.{IsPlan}
use Rattle.plans.specs.Placings.{absorbed_units}
use Rattle.plans.specs.Fitting.{AreNewChips, new_board}
use Rattle.plans.specs.Breaches.{HasNoBreach}
use Rattle.placed_boards.specs.Places.{IsPlacedNet, IsPlacedUnit, Places}
use Rattle.placed_boards.proofs.LiveSets.{liveness-set}
use Rattle.new_circuits.specs.NewNumbers.{is_seen, numbers_of}
use Rattle.wired_boards.proofs.ApartUnits.{given-wired}
use Rattle.planned_boards.specs.Planned.{ArePlanned}
use Rattle.planned_nets.specs.PlacedOnce.{ArePlacedOnce}
use Rattle.planned_nets.proofs.IdleNets.{idle}
use Rattle.planned_nets.proofs.OldPorts.{ports-kept, ports-shown}
use Rattle.planned_nets.proofs.PlacedNets.{placed}
use Rattle.planned_parts.specs.KeptChips.{AreKeptChips}
use Rattle.planned_parts.proofs.ClockNets.{register-placed}
use Rattle.planned_parts.proofs.NodeReads.{edge-sees, node-sees}
use Rattle.planned_parts.proofs.Owners.{owner, owner-has}
use Rattle.planned_parts.proofs.Units.{unit-placed}
use Rattle.kept_plans.proofs.KeptChips.{chips-kept, units-planned}
use Rattle.placed_once.proofs.PlacedApart as apart

module _ (b : Joined) (p : Plan) (chips : List NewChip) (flags : List Bool) (given : IsGiven b.net b.chips) (accepted : IsAccepted (equations_of b)) (plan : IsPlan p) (none : HasNoBreach b p)
    (are : AreNewChips b p chips) (liveness : IsLiveness (equations_of b) flags) where
  abbrev a : Circuit
  a = equations_of b

  abbrev new : Circuit
  new = equations_of (new_board b chips)

  abbrev absorbed : List ℕ
  absorbed = absorbed_units b p

  abbrev live : ℕ → Bool
  live u = slice_index_or flags u false

  kept : AreKeptChips b absorbed chips
  kept = chips-kept b p chips given plan none are

  planned : ArePlanned b absorbed live chips
  planned = units-planned b p chips given plan none are flags liveness

  once : ArePlacedOnce b absorbed chips
  once = apart.once b p chips none are

  units : (v : ℕ) (driver : Driver) → slice_get new.units v ≡ Some driver → IsPlacedUnit a absorbed (numbers_of b chips) v driver
  units v driver e = unit-placed b absorbed chips kept v driver e

  nets : (m : ℕ) → is_seen b absorbed chips m ≡ true → IsPlacedNet a new absorbed live (numbers_of b chips) m
  nets m seen = placed b absorbed live chips given accepted (λ c m. (kept.chip c m).fit) planned once units m seen

  pub places : Places a new absorbed live (owner b given) (numbers_of b chips) (is_seen b absorbed chips)
  places = record {
    absorbable = kept.absorbable;
    live_set = liveness-set a flags (given-wired b.net b.chips given) liveness;
    owners = owner-has b given;
    nets = nets;
    others = λ m w e seen. idle b absorbed live chips given accepted (λ c m. (kept.chip c m).fit) planned once m w e seen;
    units = units;
    registers = λ k now e. register-placed b absorbed live chips kept accepted nets k now e;
    reads = λ v w m. node-sees b absorbed chips kept v w m;
    edges = λ k r w e m. edge-sees b absorbed chips kept k r w e m;
    ports = ports-kept b chips;
    shown = λ m e. ports-shown b chips absorbed kept.absorbable m e;
  }
