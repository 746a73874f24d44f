use Rattle.std.proofs.Common.{◌≡◌, ◌++◌, map}
use Rattle.std.specs.List.{flat_map}
use Rattle.mig_base.specs.Written22.{settings}
use Rattle.v22.proofs.writing.push_settings.Given as goal

abbrev pub invariant-loop-cell : goal.invariant-loop-cell
invariant-loop-cell l = l.fuses.items ≡ l.initial.fuses.items ++ flat_map settings (map (λ b. b.now) l.yielded)
