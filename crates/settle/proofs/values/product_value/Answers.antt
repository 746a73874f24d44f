use Rattle.std.proofs.Common.{◌+◌, drop, sym, ap, ◌∙◌}
use Rattle.mig_base.specs.declared.levels.Level.{Level}
use Rattle.mig_base.specs.Levels.{and3}
use Rattle.mig_base.specs.Values.{product_value}
use Rattle.settle.proofs.LevelLaws.{product-next, product-zero, product-known, one-and, and-known}
use Rattle.settle.proofs.values.product_value.Goals as goal

pub loop-literal-init : goal.loop-literal-init
loop-literal-init c = record { known = λ e. cc; value = one-and _ (product-known c.args.levels.now c.args.literals.now) }

pub returns-in-Zero-clause-value : goal.returns-in-Zero-clause-value
returns-in-Zero-clause-value c =
    product-zero c.args.levels.now c.args.literals.now c.loop-literal.literal-index _ c.loop-literal.value c.loop-literal-test.true c.loop-literal.invariant.known
    (sym c.in-Zero.is ∙ c.literal_value.ensures)
    ∙ c.loop-literal.invariant.value

pub loop-literal-preserved : goal.loop-literal-preserved
loop-literal-preserved c =
    let rest = product_value c.args.levels.now (drop (c.loop-literal.literal-index + 1) c.args.literals.now) in record {
      known = rw c.and3-value.ensures (and-known c.loop-literal.value c.literal_value.result);
      value = ap (λ (a : Level). and3 a rest) (c.and3-value.ensures ∙ ap (and3 c.loop-literal.value) c.literal_value.ensures)
          ∙ product-next c.args.levels.now c.args.literals.now c.loop-literal.literal-index _ c.loop-literal.value c.loop-literal-test.true
          ∙ c.loop-literal.invariant.value;
    }
