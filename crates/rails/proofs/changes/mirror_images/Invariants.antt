use Rattle.std.proofs.Common.{◌≡◌, length}
use Rattle.bdd.specs.Diagram.{IsCanonical, Keeps}
use Rattle.rails.specs.Points.{mirror}
use Rattle.rails.specs.Compose.{AreImages}
use Rattle.rails.proofs.changes.mirror_images.Given as goal

abbrev pub invariant-loop-place : goal.invariant-loop-place
invariant-loop-place l = record {
  keeps : Keeps l.fn.graph l.graph;
  canonical : IsCanonical l.graph;
  count : length l.images.items ≡ l.place;
  images : AreImages l.graph (mirror l.rails) l.images.items;
}
