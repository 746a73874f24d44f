use Rattle.std.proofs.Common.{◌≡◌, take}
use Rattle.forms.specs.Cones.{products_in}
use Rattle.forms.proofs.covers.products_of.Given as goal

abbrev pub invariant-loop-term : goal.invariant-loop-term
invariant-loop-term l = l.products.items ≡ products_in l.table (take l.term-index l.terms)
