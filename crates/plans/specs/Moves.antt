-- The moves of a plan, the walk and final plans.
use Rattle.std.specs.Prelude.{ℕ, ◌≡◌, ◌⊎◌, ◌≤◌, Bool, true, not, ◌||◌, ◌==◌, List, [], ◌∷◌, ◌++◌, length, map, filter, Option, Some, None, if◌then◌else◌}
use Rattle.std.specs.List.{list_any, flat_map}
use Rattle.std.specs.Str.{bytes_eq}
use Rattle.mig_base.specs.declared.kinds.Kind.TheVariants.{Gal22V10, Gal22V10Q}
use Rattle.mig_base.specs.declared.kinds.Mode.TheVariants.{Fixed}
use Rattle.mig_base.specs.declared.nets.PinName.{PinName}
use Rattle.mig_base.specs.declared.plans.Plan.{Plan}
use Rattle.mig_base.specs.declared.plans.PlanChip.{PlanChip}
use Rattle.mig_base.specs.declared.plans.PlanLine.{PlanLine}
use Rattle.mig_base.specs.declared.plans.PlanLine.TheVariants.{Place, Absorb}
use Rattle.mig_base.specs.Among.{Among}
use Rattle.mig_base.specs.DeviceTables.{even_reads_q}
use Rattle.structure.specs.Live.{IsLive}
use Rattle.structure.specs.Absorbable.{IsAbsorbable}
use Rattle.board.specs.Joined.{Joined, equations_of}
use Rattle.new_board.specs.OneForOne.{one_for_one}
use Rattle.plans.specs.FirstOf.{AreEach}
use Rattle.plans.specs.declared.placing.Placing.{Placing}
use Rattle.plans.specs.Placings.{placings, absorbed_units, numbered_units, is_on}
use Rattle.plans.specs.Forms.{Room, LogicForm, IsForm, HasNoForm, has_register}
use Rattle.plans.specs.Breaches.{HasBreach, HasNoBreach}

-- a 22V10 cell of sixteen terms
abbrev pub wide_room : Bool → Room
wide_room registered = record { most = 16; may_invert = not registered }

-- a unit's Logic has a form on such a cell, of so many terms
pub record HasTerms (b : Joined) (absorbed : List ℕ) (u : ℕ) (n : ℕ) : Type 0 where
  pub form : LogicForm
  pub fits : IsForm b absorbed u (wide_room (has_register b u)) form
  pub count : n ≡ length form.terms

-- a unit's demand: the terms of the first form of Logic that fits such a cell; 17 where none fits, as where the joined part
-- has more than 32 variables, so that it has no cover
abbrev pub IsDemand : Joined → List ℕ → ℕ → ℕ → Type 0
IsDemand b absorbed u n = HasTerms b absorbed u n ⊎ (HasNoForm b absorbed u (wide_room (has_register b u)) × (n ≡ 17))

-- plans as they are written: place lines in unit order, then absorb lines in unit order

-- the line of a placed unit
abbrev pub placing_line : Placing → PlanLine
placing_line x = Place x.name x.chip.name x.pin

-- the line of an absorbed unit
abbrev pub absorb_line : ℕ × PinName → PlanLine
absorb_line u = Absorb u.1

-- the units of these numbers by name
abbrev pub named_among : List ℕ → List (ℕ × PinName) → List (ℕ × PinName)
named_among us names = filter (λ x. list_any (λ u. u == x.0) us) names

-- a plan of these chips, which places these units and absorbs those
abbrev pub planned : Joined → List PlanChip → List Placing → List ℕ → Plan
planned b chips placed absorbed = record { chips = chips; lines = map placing_line placed ++ map absorb_line (named_among absorbed (numbered_units b)) }

-- to absorb a unit, or to merge two chips
pub data Move : Type 0 where
  absorb : Placing → Move
  merge : PlanChip → PlanChip → Move

-- the placed units but for one
abbrev pub other_units : ℕ → List Placing → List Placing
other_units u xs = filter (λ x. not (x.unit == u)) xs

-- whether one of these units is on the chip
abbrev pub holds_unit : List Placing → PlanChip → Bool
holds_unit xs c = list_any (is_on c.name) xs

-- the chips without the one that held this unit alone
abbrev pub chips_left : List PlanChip → List Placing → Placing → List PlanChip
chips_left chips xs x = filter (λ c. not (bytes_eq c.name x.chip.name) || holds_unit (other_units x.unit xs) c) chips

-- the plan with one more unit absorbed
abbrev pub with_absorbed : Joined → Plan → Placing → Plan
with_absorbed b p x =
    planned b (chips_left p.chips (placings b p) x) (other_units x.unit (placings b p)) (x.unit ∷ absorbed_units b p)

-- the pins of a merged chip, in the order in which they are taken
abbrev pub merged_pins : List ℕ
merged_pins = 18 ∷ 19 ∷ 17 ∷ 20 ∷ 16 ∷ 21 ∷ 15 ∷ 22 ∷ 14 ∷ 23 ∷ []

-- two chips become a 22V10 with the first's name, which reads Q if one of the two does
abbrev pub merged_chip : PlanChip → PlanChip → PlanChip
merged_chip c d = record { name = c.name; kind = if even_reads_q c.kind || even_reads_q d.kind then Gal22V10Q else Gal22V10; mode = Fixed }

-- a unit with its demand
pub record Asking : Type 0 where
  pub placing : Placing
  pub demand : ℕ

-- this unit with its demand
pub record IsAsking (b : Joined) (absorbed : List ℕ) (x : Placing) (a : Asking) : Type 0 where
  pub same : a.placing ≡ x
  pub demands : IsDemand b absorbed x.unit a.demand

-- the demands, falling
abbrev pub demands_down : List ℕ
demands_down = 17 ∷ 16 ∷ 15 ∷ 14 ∷ 13 ∷ 12 ∷ 11 ∷ 10 ∷ 9 ∷ 8 ∷ 7 ∷ 6 ∷ 5 ∷ 4 ∷ 3 ∷ 2 ∷ 1 ∷ 0 ∷ []

-- the numbers of units by falling demand and then by unit order
abbrev pub by_demand : List Asking → List ℕ
by_demand xs = map (λ a. a.placing.unit) (flat_map (λ d. filter (λ a. a.demand == d) xs) demands_down)

-- the pin that a unit takes: they are dealt in this order
abbrev pub dealt : List ℕ → List ℕ → ℕ → Option ℕ
dealt [] pins u = None
dealt (v ∷ vs) [] u = None
dealt (v ∷ vs) (q ∷ qs) u = if v == u then Some q else dealt vs qs u

-- a unit at its dealt pin of a chip, or as it was
abbrev pub moved_to : PlanChip → Placing → Option ℕ → Placing
moved_to chip x None = x
moved_to chip x (Some q) = record { unit = x.unit; name = x.name; chip = chip; pin = q }

-- the placed units after a merge
abbrev pub after_merge : PlanChip → List ℕ → List Placing → List Placing
after_merge chip order xs = map (λ x. moved_to chip x (dealt order merged_pins x.unit)) xs

-- the merged chip stands in the first's place, and the second goes
abbrev pub put_chip : PlanChip → PlanChip → List PlanChip → List PlanChip
put_chip new d [] = []
put_chip new d (c ∷ cs) = (if bytes_eq c.name new.name then new ∷ [] else (if bytes_eq c.name d.name then [] else c ∷ [])) ++ put_chip new d cs

-- the units of two chips, in unit order
abbrev pub units_of_both : Joined → Plan → PlanChip → PlanChip → List Placing
units_of_both b p c d = filter (λ x. is_on c.name x || is_on d.name x) (placings b p)

-- the plan of a merge: two chips with at most ten units together become one
pub record IsMerged (b : Joined) (p : Plan) (c d : PlanChip) (q : Plan) : Type 0 where
  pub few : length (units_of_both b p c d) ≤ 10
  pub asking : List Asking
  pub demands : AreEach (IsAsking b (absorbed_units b p)) (units_of_both b p c d) asking
  pub are : q ≡ planned b (put_chip (merged_chip c d) d p.chips) (after_merge (merged_chip c d) (by_demand asking) (placings b p)) (absorbed_units b p)

-- the plan of an absorption: a placed absorbable unit is absorbed
pub record IsAbsorbing (b : Joined) (p : Plan) (x : Placing) (q : Plan) : Type 0 where
  pub absorbable : IsAbsorbable (equations_of b) x.unit
  pub are : q ≡ with_absorbed b p x

-- the plan of a move
abbrev pub MoveGives : Joined → Plan → Move → Plan → Type 0
MoveGives b p (absorb x) q = IsAbsorbing b p x q
MoveGives b p (merge c d) q = IsMerged b p c d q

-- each chip with those behind it
abbrev pub chip_pairs : List PlanChip → List Move
chip_pairs [] = []
chip_pairs (c ∷ cs) = map (merge c) cs ++ chip_pairs cs

-- in order: absorptions by unit order, merges by the first's and then the second's place
abbrev pub moves : Joined → Plan → List Move
moves b p = map absorb (placings b p) ++ chip_pairs p.chips

-- each plan of a move has a breach
abbrev pub IsBlocked : Joined → Plan → Move → Type 0
IsBlocked b p m = (q : Plan) → MoveGives b p m q → HasBreach b q

-- each plan of each of these moves has
abbrev pub AreBlocked : Joined → Plan → List Move → Type 0
AreBlocked b p [] = Unit {0}
AreBlocked b p (m ∷ ms) = IsBlocked b p m × AreBlocked b p ms

-- the plan of the first move whose plan has no breach
abbrev pub IsFirstMove : Joined → Plan → List Move → Plan → Type 0
IsFirstMove b p [] q = ⊥
IsFirstMove b p (m ∷ ms) q = (MoveGives b p m q × HasNoBreach b q) ⊎ (IsBlocked b p m × IsFirstMove b p ms q)

-- moves are made until none is left
pub data WalksTo (b : Joined) : Plan → Plan → Type 0 where
  stay : {p : Plan} → AreBlocked b p (moves b p) → WalksTo b p p
  go : {p q r : Plan} → IsFirstMove b p (moves b p) q → WalksTo b q r → WalksTo b p r

-- those whose flag is set
abbrev pub flagged : {T : Type 0} → List T → List Bool → List T
flagged [] flags = []
flagged (x ∷ xs) [] = []
flagged (x ∷ xs) (flag ∷ flags) = (if flag then x ∷ [] else []) ++ flagged xs flags

-- the flag says whether a placed unit is live
pub record IsLiveFlag (b : Joined) (x : Placing) (flag : Bool) : Type 0 where
  pub sound : flag ≡ true → IsLive (equations_of b) x.unit
  pub every : IsLive (equations_of b) x.unit → flag ≡ true

-- those of the placed units that are live
pub record AreLive (b : Joined) (xs live : List Placing) : Type 0 where
  pub flags : List Bool
  pub each : AreEach (IsLiveFlag b) xs flags
  pub are : live ≡ flagged xs flags

-- the walk starts with the one for one plan without its dead units and without chips that hold no unit
pub record IsStart (b : Joined) (p : Plan) : Type 0 where
  pub live : List Placing
  pub are_live : AreLive b (placings b (one_for_one b.net b.chips)) live
  pub is : p ≡ planned b (filter (holds_unit live) (one_for_one b.net b.chips).chips) live []

-- the walk's plan
pub record IsWalkPlan (b : Joined) (r : Plan) : Type 0 where
  pub start : Plan
  pub starts : IsStart b start
  pub walks : WalksTo b start r

-- a plan is final where it places no dead unit and each of its moves has a breach
pub record IsFinal (b : Joined) (p : Plan) : Type 0 where
  pub no_dead : (x : Placing) → Among x (placings b p) → IsLive (equations_of b) x.unit
  pub blocked : AreBlocked b p (moves b p)
