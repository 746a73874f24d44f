use Rattle.std.proofs.Common.{◌≡◌, ℕ, List, length, map, take}
use Rattle.bdd.specs.Diagram.{IsCanonical, Keeps}
use Rattle.mig_base.specs.declared.circuit.Read.{Read}
use Rattle.ranks.specs.Order.{IsOrder}
use Rattle.board.specs.Joined.{equations_of}
use Rattle.board.specs.Variables.{var_of}
use Rattle.joiner.specs.declared.marks.Marks.{Marks}
use Rattle.joiner.specs.AbsorbedNets.{AreAbsorbable}
use Rattle.joiner.specs.Marked.{AreNeededNets}
use Rattle.joiner.specs.Pairs.{AreClosed, AreProper, ReadPairs}
use Rattle.joiner.proofs.JoiningLaws.{HasPairsOf}
use Rattle.joiner.proofs.nets.joined_nets.Given as goal

abbrev pub invariant-loop-variable : goal.invariant-loop-variable
invariant-loop-variable l = record {
  vars : l.rails.vars ≡ l.fn.rails.vars;
  keeps : Keeps l.fn.rails.graph l.rails.graph;
  canonical : IsCanonical l.rails.graph;
  count : length l.pairs.items ≡ length l.nets;
  proper : AreProper l.fn.rails.vars l.rails.graph l.pairs.items;
  read : ReadPairs l.board l.nets l.fn.rails.vars l.rails.graph l.pairs.items;
  every : (order : List Read) → IsOrder (equations_of l.board) order → l.by_rank ≡ map (var_of l.board.chips) order → (absorbed : List ℕ) (marks : Marks) → AreNeededNets l.board absorbed marks l.nets → AreAbsorbable l.board absorbed → AreClosed l.board absorbed marks → HasPairsOf l.board absorbed marks l.fn.rails.vars l.pairs.items (take l.variable-index order);
}
