-- What the fields of a `Graph` keep.
use Rattle.std.specs.Prelude.{IfSome}
use Rattle.std.specs.HashMap.{get}
use Rattle.bdd.specs.Diagram.{Diagram, IsCanonical}
use Rattle.bdd.specs.Steps.{IsTrueMemo}
use Rattle.bdd.specs.NodeTable.{diagram, IsNodeTable}
use Rattle.bdd.specs.declared.Graph.TheInside.{Inside}
use Rattle.bdd.specs.declared.Operands.{Operands}
use Rattle.bdd.specs.contracts.OperandsPartialEq.TheImpl as operands_eq

-- the number of variables and the nodes' trees; the memo is not seen
abbrev pub seen : Inside → Diagram
seen g = diagram g.vars g.nodes.keys

-- the nodes are a table of distinct trees, and the memo tells true results
pub record IsGraph (g : Inside) : Type 0 where
  pub table : IsNodeTable g.vars g.nodes.keys
  pub canonical : IsCanonical (seen g)
  pub memo : (q : Operands) → IfSome (get (operands_eq.ghosts).eq g.memo q) (IsTrueMemo (seen g) q)
