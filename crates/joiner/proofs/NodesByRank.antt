-- A walk by variables is one by their nodes.
use Rattle.std.proofs.Common.{ℕ, ◌≡◌, ◌<◌, Bool, Option, List, [], ◌∷◌, map, length, get_or, refl, sym, ap, ◌∙◌, subst}
use Rattle.std.proofs.lemmas.List.{get_or-map, length-map}
use Rattle.mig_base.specs.declared.circuit.Read.{Read}
use Rattle.mig_base.specs.declared.circuit.Read.TheVariants.{OfNet, OfRegister}
use Rattle.mig_base.specs.declared.nets.Var.{Var}
use Rattle.mig_base.specs.declared.nets.Var.TheVariants.{Net}
use Rattle.mig_base.specs.Among.{Among}
use Rattle.mig_base.specs.Reads.{IsNode}
use Rattle.mig_base.proofs.Amongs.{among-all}
use Rattle.ranks.specs.Order.{IsOrder}
use Rattle.ranks.proofs.OrderOfRanks.{ranks-order}
use Rattle.bdd.specs.Diagram.{Diagram}
use Rattle.board.specs.Joined.{Joined, equations_of}
use Rattle.board.specs.Variables.{AreByRank, IsVariable, var_of}
use Rattle.board.proofs.BoardLaws.{var-variable}
use Rattle.joiner.specs.declared.marks.Marks.{Marks}
use Rattle.joiner.specs.declared.pairs.Pair.{Pair}
use Rattle.joiner.specs.Marked.{AreInOrder, after_variable, after_variables}
use Rattle.joiner.specs.Pairs.{IsJoinedVariable}
use Rattle.joiner.proofs.Passing.{after_node, after_nodes}
use Rattle.joiner.proofs.JoiningLaws.{IsJoinedNode, item_among}

-- variables by rank are in an order of evaluation
pub ranks-in_order : (b : Joined) (vars : List Var) → AreByRank b vars → AreInOrder b vars
ranks-in_order b vars by = (by.0.order, ranks-order (equations_of b) by.0 by.1, by.2)

pub after-nodes : (b : Joined) (nets : List (Option ℕ)) (m : Marks) (order : List Read) → after_variables b nets m (map (var_of b.chips) order) ≡ after_nodes b nets m order
after-nodes b nets m [] = refl
after-nodes b nets m (v ∷ vs) = ap (λ (k : Marks). after_variable b nets k (var_of b.chips v)) (after-nodes b nets m vs) ∙ at v
  where
    at : (w : Read) → after_variable b nets (after_nodes b nets m vs) (var_of b.chips w) ≡ after_node b nets (after_nodes b nets m vs) w
    at (OfNet n) = refl
    at (OfRegister k) = refl

module _ (b : Joined) (vars : List Var) (order : List Read) (is : IsOrder (equations_of b) order) (same : vars ≡ map (var_of b.chips) order) (i : ℕ) (low : i < length vars) where
  -- the node of this place
  abbrev pub node_at : Read
  node_at = get_or order i (OfNet 0)

  pub node-low : i < length order
  node-low = subst (λ (n : ℕ). i < n) (ap length same ∙ length-map order (var_of b.chips)) low

  pub node-is : IsNode (equations_of b) node_at
  node-is = among-all (IsNode (equations_of b)) node_at order is.nodes (item_among (OfNet 0) order i node-low)

  pub variable-is : get_or vars i (Net 0) ≡ var_of b.chips node_at
  variable-is = ap (λ (vs : List Var). get_or vs i (Net 0)) same ∙ get_or-map (var_of b.chips) order i (OfNet 0) (Net 0) node-low

  pub variable-of_board : IsVariable b (get_or vars i (Net 0))
  variable-of_board = subst (IsVariable b) (sym variable-is) (var-variable b node_at node-is)

  pub variable-joined : (nets : List (Option ℕ)) (us : List (Var × Bool)) (d : Diagram) (old new : List (Option Pair)) → IsJoinedVariable b nets us d old new (get_or vars i (Net 0)) →
      IsJoinedNode b nets us d old new node_at
  variable-joined nets us d old new j = at node_at (subst (IsJoinedVariable b nets us d old new) variable-is j)
    where
      at : (w : Read) → IsJoinedVariable b nets us d old new (var_of b.chips w) → IsJoinedNode b nets us d old new w
      at (OfNet n) k = k
      at (OfRegister n) k = k
