use Rattle.std.proofs.Common.{◌≡◌, length}
use Rattle.bdd.specs.Diagram.{IsCanonical, Keeps, function_of}
use Rattle.rails.specs.Points.{put}
use Rattle.rails.specs.Compose.{AreImages}
use Rattle.rails.proofs.changes.put_images.Given as goal

abbrev pub invariant-loop-place : goal.invariant-loop-place
invariant-loop-place l = record {
  keeps : Keeps l.fn.graph l.graph;
  canonical : IsCanonical l.graph;
  count : length l.images.items ≡ l.place;
  images : AreImages l.graph (λ p. put l.rails l.v (function_of l.fn.graph l.g p) (function_of l.fn.graph l.inverse p) p) l.images.items;
}
