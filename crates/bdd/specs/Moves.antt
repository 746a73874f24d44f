-- What a graph that is built anew knows of the old one.
use Rattle.std.specs.Prelude.{◌⊎◌, IfSome}
use Rattle.std.specs.HashMap.{HashMap, get}
use Rattle.bdd.specs.Tree.{Tree, IsPart}
use Rattle.bdd.specs.Diagram.{Diagram, IsValid, tree, IsCopy}
use Rattle.bdd.specs.declared.Ref.{Ref}
use Rattle.bdd.specs.contracts.RefPartialEq.TheImpl as ref_eq

-- the table tells, of refs of the old graph, their copies in the new one
pub record IsMoves {S : Type 0} (old new : Diagram) (moves : HashMap Ref Ref S) : Type 0 where
  pub each : (f : Ref) → IfSome (get (ref_eq.ghosts).eq moves f) (IsCopy old new f)

-- the new graph has no function that the old one lacks, but parts of the tree t
abbrev pub AddsParts : Diagram → Diagram → Tree → Type 0
AddsParts old new t = (f : Ref) → IsValid new f → IsValid old f ⊎ IsPart (tree new f) t
