-- The new board of a plan without breach carries the old one.
use Rattle.std.proofs.Common.{ℕ, ◌≡◌, Bool, false, List, filter, length}
use Rattle.std.specs.List.{slice_index_or}
use Rattle.mig_base.specs.declared.circuit.Circuit.{Circuit}
use Rattle.mig_base.specs.declared.plans.Plan.{Plan}
use Rattle.mig_base.specs.Accepted.{IsAccepted}
use Rattle.mig_base.specs.Boards.{is_port}
use Rattle.mig_base.specs.Given.{IsGiven}
use Rattle.structure.specs.Live.{IsLiveness}
use Rattle.board.specs.Joined.{Joined, equations_of}
use Rattle.level_laws.specs.SameBehaviour.{IsSame, ShowsAlike}
use Rattle.level_laws.proofs.FollowsSame.{follows-same}
use Rattle.level_laws.proofs.OrderRanks.{HasRanks}
use Rattle.level_laws.proofs.RanksExist.{accepted-ranks}
use Rattle.matchings.specs.Matchings.{IsProving}
use Rattle.matchings.specs.Pairs.{registers_of_both}
use Rattle.new_board.specs.NewChip.{NewChip}
use Rattle.new_board.proofs.KeptNumbers.{ports-same}
use Rattle.plan_text.specs.PlanText.{IsPlan}
use Rattle.plans.specs.Placings.{absorbed_units, old}
use Rattle.plans.specs.Fitting.{AreNewChips, new_board}
use Rattle.plans.specs.Breaches.{HasNoBreach}
use Rattle.fitting_levels.specs.Wired.{IsWired}
use Rattle.carried_boards.specs.Carries.{Carries, IsKept, Kept, StoreAlike, old_node}
use Rattle.carried_boards.proofs.Keeping.{carries-follows}
use Rattle.carried_boards.proofs.Ranks.{carried_rank, carries-accepted, carries-ranked}
use Rattle.carried_matchings.specs.CarriedClasses.{carried_classes}
use Rattle.carried_matchings.proofs.Proving.{carries-proving, classes-count}
use Rattle.placed_boards.specs.Places.{kept_of}
use Rattle.placed_boards.proofs.Placing.{places-carries}
use Rattle.live_sets.proofs.Rounds.{has-liveness}
use Rattle.rebuilt_boards.proofs.SameBoards.{same-boards}
use Rattle.wired_boards.proofs.ApartUnits.{given-wired}
use Rattle.new_circuits.specs.NewNumbers.{is_seen, numbers_of}
use Rattle.planned_parts.proofs.Owners.{owner}
use Rattle.kept_plans.proofs.KeptChips.{chips-kept}
use Rattle.placed_plans.proofs.Places.{places}

pub new-given : (b : Joined) (p : Plan) (chips : List NewChip) → IsGiven b.net b.chips → IsPlan p → HasNoBreach b p → AreNewChips b p chips → IsGiven (new_board b chips).net (new_board b chips).chips
new-given b p chips given plan none are = (chips-kept b p chips given plan none are).given

module _ (b : Joined) (p : Plan) (chips : List NewChip) (given : IsGiven b.net b.chips) (accepted : IsAccepted (equations_of b)) (plan : IsPlan p) (none : HasNoBreach b p) (are : AreNewChips b p chips) where
  abbrev a : Circuit
  a = equations_of b

  abbrev new : Circuit
  new = equations_of (new_board b chips)

  abbrev absorbed : List ℕ
  absorbed = absorbed_units b p

  liveness : (live : List Bool) × IsLiveness a live
  liveness = has-liveness a

  abbrev kept : Kept
  kept = kept_of a new (λ u. slice_index_or liveness.0 u false) (owner b given) (numbers_of b chips) (is_seen b absorbed chips)

  wired : IsWired a
  wired = given-wired b.net b.chips given

  new-wired : IsWired new
  new-wired = given-wired (new_board b chips).net (new_board b chips).chips (new-given b p chips given plan none are)

  ranks : HasRanks a
  ranks = accepted-ranks a accepted

  carries : Carries a new absorbed (numbers_of b chips) kept
  carries = places-carries a new absorbed (λ u. slice_index_or liveness.0 u false) (owner b given) (numbers_of b chips) (is_seen b absorbed chips) accepted wired new-wired
      (places b p chips liveness.0 given accepted plan none are liveness.1)

  pub is-accepted : IsAccepted new
  is-accepted = carries-accepted a new absorbed (numbers_of b chips) kept carries ranks.rank ranks.top accepted ranks.ranked

  pub shows-alike : ShowsAlike a new
  shows-alike = follows-same a new (old_node (numbers_of b chips)) (IsKept kept) (StoreAlike a (numbers_of b chips) kept) (carried_rank a new absorbed (numbers_of b chips) kept carries ranks.rank) _
      (carries-follows a new absorbed (numbers_of b chips) kept carries accepted wired) (carries-ranked a new absorbed (numbers_of b chips) kept carries ranks.rank ranks.top ranks.ranked)

  same-ports : filter is_port b.net.nets ≡ filter is_port (new_board b chips).net.nets
  same-ports = ports-same (old b) chips

  pub shows-same : IsSame b.net b.chips (new_board b chips).net (new_board b chips).chips
  shows-same = same-boards b.net b.chips (new_board b chips).net (new_board b chips).chips same-ports shows-alike

  pub proving-matching : (classes : List ℕ) × (length classes ≡ registers_of_both b (new_board b chips)) × IsProving b (new_board b chips) classes
  proving-matching = (
    carried_classes a new (numbers_of b chips) kept,
    classes-count b (new_board b chips) (numbers_of b chips) kept,
    carries-proving b (new_board b chips) absorbed (numbers_of b chips) kept ranks.rank ranks.top same-ports carries accepted wired new-wired ranks.ranked,
  )
