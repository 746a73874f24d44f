use Rattle.std.proofs.Common.{◌≡◌, true, drop}
use Rattle.std.specs.List.{list_any}
use Rattle.bdd.specs.Tree.{Point}
use Rattle.bdd.specs.Diagram.{IsCanonical, Keeps}
use Rattle.rails.specs.Points.{carries, literal_in}
use Rattle.rails.proofs.products.literal.Given as goal

abbrev pub invariant-loop-place : goal.invariant-loop-place
invariant-loop-place l = record {
  keeps : Keeps l.fn.graph l.graph;
  canonical : IsCanonical l.graph;
  passed : (p : Point) → literal_in 0 l.rails l.lit p ≡ literal_in l.place (drop l.place l.rails) l.lit p;
  rest : list_any (carries l.lit) (drop l.place l.rails) ≡ true;
}
