-- A board whose nodes have ranks has a settling.
use Rattle.std.proofs.Common.{ℕ, zero, suc, ◌≡◌, ◌<◌, List, [], ◌∷◌, ◌++◌, map, Option, Some, None, refl, sym, ap, ◌∙◌, arith}
use Rattle.std.specs.List.{flat_map, AllByRecursion, slice_get}
use Rattle.mig_base.specs.declared.levels.Level.{Level}
use Rattle.mig_base.specs.Levels.{level_at, or_x}
use Rattle.mig_base.specs.declared.circuit.Read.{Read}
use Rattle.mig_base.specs.declared.circuit.Wire.{Wire}
use Rattle.mig_base.specs.declared.circuit.Circuit.{Circuit}
use Rattle.mig_base.specs.declared.circuit.Levels.{Levels}
use Rattle.mig_base.specs.declared.circuit.Read.TheVariants.{OfNet, OfRegister}
use Rattle.mig_base.specs.Values.{row_reads}
use Rattle.level_laws.specs.Settled.{IsSettled, drive_level, visible_levels, level_by}
use Rattle.mig_base.specs.Ranked.{Ranked}
use Rattle.mig_base.specs.Reads.{gives_reads, driver_reads, node_reads, reads_of_wire}
use Rattle.level_laws.proofs.Unique.{Agree, every, map-agree, level_at-map, drive-agree, drive_at-agree, all_left, all_right, visible-agree, visible_all-agree}
use Rattle.ranks.proofs.NoLoops.{all_mono}

-- every drive, net and visible Q recomputed from these levels
abbrev pub updated : Circuit → List Level → List Level → Levels → Levels
updated c stored inputs l = by (map (drive_level l) c.units)
  where
    by : List Level → Levels
    by drives = record {
      nets = map (λ w. level_by inputs w.kind w.pull (map (level_at drives) w.drivers)) c.nets;
      drives = drives;
      visible = visible_levels l c.registers stored;
    }

abbrev pub rounds : Circuit → List Level → List Level → ℕ → Levels
rounds c stored inputs zero = updated c stored inputs (record { nets = []; drives = []; visible = [] })
rounds c stored inputs (suc k) = updated c stored inputs (rounds c stored inputs k)

-- where all that a node reads agrees, it agrees after an update
updated-agree : (c : Circuit) (stored inputs : List Level) (l m : Levels) (v : Read) → AllByRecursion (Agree l m) (node_reads c v) →
    Agree (updated c stored inputs l) (updated c stored inputs m) v
updated-agree c stored inputs l m (OfNet n) h =
    level_at-map _ c.nets n ∙ at (slice_get c.nets n) h ∙ sym (level_at-map _ c.nets n)
  where
    wire : Levels → Wire → Level
    wire l w = level_by inputs w.kind w.pull (map (level_at (map (drive_level l) c.units)) w.drivers)

    at : (o : Option Wire) → AllByRecursion (Agree l m) (reads_of_wire c o) → or_x (wire l) o ≡ or_x (wire m) o
    at None h = refl
    at (Some w) h = ap (level_by inputs w.kind w.pull) (drives-of w.drivers h)
      where
        drives-of : (us : List ℕ) → AllByRecursion (Agree l m) (flat_map (λ u. driver_reads (slice_get c.units u)) us) →
            map (level_at (map (drive_level l) c.units)) us ≡ map (level_at (map (drive_level m) c.units)) us
        drives-of [] h = refl
        drives-of (u ∷ us) h =
            ap (λ a. a ∷ map (level_at (map (drive_level l) c.units)) us) (level_at-map (drive_level l) c.units u
            ∙ drive_at-agree l m (slice_get c.units u) (all_left _ (driver_reads (slice_get c.units u)) _ h)
            ∙ sym (level_at-map (drive_level m) c.units u))
            ∙ ap (λ rest. level_at (map (drive_level m) c.units) u ∷ rest) (drives-of us (all_right _ (driver_reads (slice_get c.units u)) _ h))
updated-agree c stored inputs l m (OfRegister k) h = visible-agree l m c.registers stored k h

rounds-agree : (c : Circuit) (rank : Read → ℕ) (top : ℕ) (stored inputs : List Level) → Ranked c rank top → (k : ℕ) (v : Read) → rank v < k →
    Agree (rounds c stored inputs k) (rounds c stored inputs (suc k)) v
rounds-agree c rank top stored inputs ranked zero v h = absurd (omega arith)
rounds-agree c rank top stored inputs ranked (suc k) v h =
    updated-agree c stored inputs (rounds c stored inputs k) (rounds c stored inputs (suc k)) v
    (all_mono (λ w. rank w < rank v) (Agree (rounds c stored inputs k) (rounds c stored inputs (suc k)))
    (λ w lower. rounds-agree c rank top stored inputs ranked k w (omega arith)) (node_reads c v) (ranked.falls v))

abbrev pub settling : Circuit → ℕ → List Level → List Level → Levels
settling c top stored inputs = rounds c stored inputs (suc top)

-- a board whose nodes have ranks has a settling
pub settled-exists : (c : Circuit) (rank : Read → ℕ) (top : ℕ) (stored inputs : List Level) → Ranked c rank top → IsSettled c stored inputs (settling c top stored inputs)
settled-exists c rank top stored inputs ranked = record {
  nets = refl;
  drives = map-agree (drive_level (rounds c stored inputs top)) (drive_level (settling c top stored inputs))
      (λ d. drive-agree (rounds c stored inputs top) (settling c top stored inputs) d (every _ _ all (row_reads d.enable ++ gives_reads d.gives))) c.units;
  visible = visible_all-agree (rounds c stored inputs top) (settling c top stored inputs) all c.registers stored;
}
  where
    all : (v : Read) → Agree (rounds c stored inputs top) (settling c top stored inputs) v
    all v = rounds-agree c rank top stored inputs ranked top v (ranked.below v)
