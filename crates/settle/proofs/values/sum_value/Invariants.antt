use Rattle.std.proofs.Common.{◌≡◌, ◌≢◌, drop}
use Rattle.mig_base.specs.declared.levels.Level.TheVariants.{Z}
use Rattle.mig_base.specs.Levels.{or3}
use Rattle.mig_base.specs.Values.{sum_value}
use Rattle.settle.proofs.values.sum_value.Given as goal

abbrev pub invariant-loop-term : goal.invariant-loop-term
invariant-loop-term l = record {
  known : l.value ≢ Z;
  value : or3 l.value (sum_value l.levels (drop l.term-index l.terms)) ≡ sum_value l.levels l.terms;
}
