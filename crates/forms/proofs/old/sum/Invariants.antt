use Rattle.std.proofs.Common.{◌≡◌, map, take}
use Rattle.mig_base.specs.Structure.{variable_product}
use Rattle.forms.proofs.old.sum.Given as goal

abbrev pub invariant-loop-term : goal.invariant-loop-term
invariant-loop-term l = l.products.items ≡ map (variable_product l.circuit) (take l.term-index l.terms)
