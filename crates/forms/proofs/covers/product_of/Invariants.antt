use Rattle.std.proofs.Common.{◌≡◌, take}
use Rattle.std.specs.List.{filter_map}
use Rattle.forms.specs.Cones.{literal_in}
use Rattle.forms.proofs.covers.product_of.Given as goal

abbrev pub invariant-loop-place : goal.invariant-loop-place
invariant-loop-place l = l.product.items ≡ filter_map (literal_in l.table) (take l.place-index l.term)
