use Rattle.std.proofs.Common.{◌≡◌}
use Rattle.bdd.specs.Diagram.{IsCanonical}
use Rattle.bdd.specs.Moves.{IsMoves}
use Rattle.bdd.proofs.MoveLemmas.{AreCopies, AreNeeded}
use Rattle.bdd.proofs.Graph.compact.Given as goal

abbrev pub invariant-loop-root : goal.invariant-loop-root
invariant-loop-root l = record {
  vars : l.fresh.vars ≡ l.fn.self.vars;
  canonical : IsCanonical l.fresh;
  moves : IsMoves l.fn.self l.fresh l.moves;
  copies : AreCopies l.fn.self l.fresh l.fn.roots l.copies.items l.root-index;
  needed : AreNeeded l.fn.self l.fresh l.fn.roots l.root-index;
}
