use Rattle.std.proofs.Common.{◌≡◌, ◌≤◌, ℕ, refl, sym, ◌∙◌, ap, subst, take_all, get_or, length, List, Bool, None}
use Rattle.std.proofs.lemmas.List.{take_more, length-map, length-replicate}
use Rattle.std.proofs.lemmas.Option.{slice_get-get_or}
use Rattle.mig_base.specs.declared.circuit.Read.TheVariants.{OfNet}
use Rattle.mig_base.specs.declared.nets.Var.{Var}
use Rattle.mig_base.specs.declared.nets.Var.TheVariants.{Net}
use Rattle.board.specs.Joined.{equations_of}
use Rattle.board.specs.Variables.{var_of}
use Rattle.joiner.specs.Pairs.{IsProperPair, AreProper, ReadsPair, IsJoinedVariable}
use Rattle.joiner.proofs.PairLaws.{fit_kept}
use Rattle.joiner.proofs.JoiningLaws.{HasPairsOf, IsJoinedNode, none_holds, proper_more, read_more, has_more, has_all, count_more}
use Rattle.joiner.proofs.NodesByRank.{node-is, node-low, node_at, variable-joined, variable-of_board}
use Rattle.joiner.proofs.nets.joined_nets.Goals as goal
use Rattle.bdd.proofs.GraphLemmas.{keeps_trans, keeps_refl}

pub join_variable-requires-clause-fit : goal.join_variable-requires-clause-fit
join_variable-requires-clause-fit c = fit_kept c.args.rails.now c.loop-variable.rails c.loop-variable.invariant.vars c.loop-variable.invariant.keeps c.requires.fit

pub join_variable-requires-clause-canonical : goal.join_variable-requires-clause-canonical
join_variable-requires-clause-canonical c = c.loop-variable.invariant.canonical

pub join_variable-requires-clause-pairs : goal.join_variable-requires-clause-pairs
join_variable-requires-clause-pairs c =
    subst (λ (vs : List (Var × Bool)). AreProper vs c.loop-variable.rails.graph c.loop-variable.pairs.items) (sym c.loop-variable.invariant.vars) c.loop-variable.invariant.proper

pub join_variable-requires-clause-listed : goal.join_variable-requires-clause-listed
join_variable-requires-clause-listed c = c.requires.listed ∙ sym c.loop-variable.invariant.vars

pub join_variable-requires-clause-count : goal.join_variable-requires-clause-count
join_variable-requires-clause-count c = c.loop-variable.invariant.count

pub join_variable-requires-clause-variable : goal.join_variable-requires-clause-variable
join_variable-requires-clause-variable c =
    let is = c.requires.order in
    variable-of_board c.args.board.now c.args.by_rank.now is.0 is.1 is.2 c.loop-variable.variable-index c.loop-variable-test.true

pub loop-variable-init : goal.loop-variable-init
loop-variable-init c = record {
  vars = refl;
  keeps = keeps_refl c.args.rails.now.graph;
  canonical = c.requires.canonical;
  count = ap length c.in_ok-pairs.ensures ∙ length-replicate (length c.args.nets.now) None;
  proper = record { each = none_holds (λ n. IsProperPair c.args.rails.now.vars c.args.rails.now.graph) c.in_ok-pairs.pairs.items (length c.args.nets.now) c.in_ok-pairs.ensures };
  read = λ p r v h. record { variables = v; nets = none_holds (ReadsPair c.args.rails.now.graph p r) c.in_ok-pairs.pairs.items (length c.args.nets.now) c.in_ok-pairs.ensures };
  every = λ order is same absorbed marks are may closed n u a. absurd a;
}

pub loop-variable-preserved : goal.loop-variable-preserved
loop-variable-preserved c =
    let b = c.args.board.now in
    let nets = c.args.nets.now in
    let vars = c.args.rails.now.vars in
    let d = c.loop-variable.rails.graph in
    let e = c.join_variable.new.rails.graph in
    let old = c.loop-variable.pairs.items in
    let new = c.join_variable.new.pairs.items in
    let variables = c.args.by_rank.now in
    let i = c.loop-variable.variable-index in
    let low = c.loop-variable-test.true in
    let in_order = c.requires.order in
    let v = node_at b variables in_order.0 in_order.1 in_order.2 i low in
    let is = node-is b variables in_order.0 in_order.1 in_order.2 i low in
    let k = c.in_ok-join_variable.ensures.keeps in
    let here = subst (λ (vs : List (Var × Bool)). IsJoinedVariable b nets vs e old new (get_or variables i (Net 0))) c.loop-variable.invariant.vars c.in_ok-join_variable.ensures.joined in
    let joined : IsJoinedNode b nets vars e old new v = variable-joined b variables in_order.0 in_order.1 in_order.2 i low nets vars e old new here in
    let count : length old ≡ length (equations_of b).nets = c.loop-variable.invariant.count ∙ c.requires.nets in
    record {
      vars = c.in_ok-join_variable.ensures.vars ∙ c.loop-variable.invariant.vars;
      keeps = keeps_trans c.args.rails.now.graph d e c.loop-variable.invariant.keeps k;
      canonical = c.in_ok-join_variable.ensures.canonical;
      count = count_more b nets vars e old new v joined ∙ c.loop-variable.invariant.count;
      proper = proper_more b nets vars d e old new k v is count joined c.loop-variable.invariant.proper;
      read = read_more b nets vars d e old new k v is count joined c.loop-variable.invariant.proper c.loop-variable.invariant.read;
      every = λ order ordered same absorbed marks are may closed.
          let within = node-low b variables order ordered same i low in
          let w = node_at b variables order ordered same i low in
          subst (HasPairsOf b absorbed marks vars new) (sym (take_more order i (OfNet 0) within))
          (has_more b absorbed marks nets vars e old new order i may are closed ordered w (slice_get-get_or order i (OfNet 0) within) (node-is b variables order ordered same i low) count
          (variable-joined b variables order ordered same i low nets vars e old new here) (c.loop-variable.invariant.every order ordered same absorbed marks are may closed));
    }

pub returns-clause-every : goal.returns-clause-every
returns-clause-every c = λ absorbed marks are may closed.
    let is = c.requires.order in
    let b = c.args.board.now in
    let vars = c.args.rails.now.vars in
    let past : length is.0 ≤ c.loop-variable.variable-index = subst (λ (n : ℕ). n ≤ c.loop-variable.variable-index) (ap length is.2 ∙ length-map is.0 (var_of b.chips)) c.loop-variable-test.false in
    has_all b absorbed marks vars c.loop-variable.pairs.items is.0 is.1
    (subst (HasPairsOf b absorbed marks vars c.loop-variable.pairs.items) (take_all c.loop-variable.variable-index is.0 past)
    (c.loop-variable.invariant.every is.0 is.1 is.2 absorbed marks are may closed))
