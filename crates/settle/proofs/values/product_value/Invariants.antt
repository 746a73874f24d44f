use Rattle.std.proofs.Common.{◌≡◌, ◌≢◌, drop}
use Rattle.mig_base.specs.declared.levels.Level.TheVariants.{Z}
use Rattle.mig_base.specs.Levels.{and3}
use Rattle.mig_base.specs.Values.{product_value}
use Rattle.settle.proofs.values.product_value.Given as goal

abbrev pub invariant-loop-literal : goal.invariant-loop-literal
invariant-loop-literal l = record {
  known : l.value ≢ Z;
  value : and3 l.value (product_value l.levels (drop l.literal-index l.literals)) ≡ product_value l.levels l.literals;
}
