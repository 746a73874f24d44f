use Rattle.std.proofs.Common.{◌≡◌, ◌+◌, ◌∙◌, List, [], ◌∷◌, ◌++◌, length, sym, ap, subst, arith}
use Rattle.std.specs.List.{flat_map}
use Rattle.std.proofs.lemmas.Bool.{eqb-true, eqb-false}
use Rattle.mig_base.specs.declared.circuit.Read.{Read}
use Rattle.ranks.specs.Marked.{waiting}
use Rattle.ranks.specs.Neighbours.{neighbours_at}
use Rattle.ranks.specs.Ways.{IsReached, IsWays, IsFrontier}
use Rattle.ranks.proofs.Finishing.{count-nodes}
use Rattle.ranks.proofs.WayLaws.{ways-start, frontier-start, waiting-start, ways-next, way-home, all-home, no-nodes}
use Rattle.ranks.proofs.distances.ways_home.Goals as goal

pub overflow_cast-steps-end : goal.overflow_cast-steps-end
overflow_cast-steps-end c =
    let count : length c.items.result.now ≡ length c.args.circuit.now.nets + length c.args.circuit.now.registers =
    ap length (c.items.ensures ∙ c.requires.graph.nodes) ∙ count-nodes c.args.circuit.now in
    omega (arith, c.requires.graph.few)

pub loop-steps-init : goal.loop-steps-init
loop-steps-init c =
    let board = c.args.circuit.now in
    let home = c.args.home in
    let ways = c.in_ok-ways.ensures in
    let count : length c.args.graph.now.nodes ≡ length board.nets + length board.registers = ap length c.requires.graph.nodes ∙ count-nodes board in
    record {
      ways = subst (IsWays board home 0) (sym ways) (ways-start board home);
      frontier = subst (IsFrontier board home 0 c.in_ok-ways.ways) (sym (c.in_ok-push.ensures.items ∙ ap (λ (nodes : List Read). nodes ++ home ∷ []) c.new-nodes.ensures.items)) (frontier-start board home c.in_ok-ways.ways);
      fewer = omega (arith, count, ap waiting ways, waiting-start board);
    }

pub returns-then-is_empty : goal.returns-then-is_empty
returns-then-is_empty c =
    let board = c.args.circuit.now in
    let ways = c.next_nodes.new.ways in
    let nodes = c.in_ok-nodes.nodes in
    let tried = subst (λ (some : List Read). IsReached (flat_map (neighbours_at c.args.graph.now.readers) some) c.loop-steps.steps c.loop-steps.ways [] ways nodes.items) c.as_slice.ensures.value c.in_ok-nodes.ensures in
    let next = ways-next board c.args.graph.now c.args.home c.loop-steps.steps c.loop-steps.ways ways c.loop-steps.nodes.items nodes.items c.requires.graph c.requires.home
    c.loop-steps.invariant.ways c.loop-steps.invariant.frontier tried in
    let none : length nodes.items ≡ 0 = omega (arith, nodes.ok.0, eqb-true _ _ (sym c.is_empty.ensures ∙ c.if-is_empty.true)) in
    way-home board c.args.home (c.loop-steps.steps + 1) ways next.0 (subst (IsFrontier board c.args.home (c.loop-steps.steps + 1) ways) (no-nodes nodes.items none) next.1)

pub loop-steps-preserved : goal.loop-steps-preserved
loop-steps-preserved c =
    let board = c.args.circuit.now in
    let ways = c.next_nodes.new.ways in
    let nodes = c.in_ok-nodes.nodes in
    let tried = subst (λ (some : List Read). IsReached (flat_map (neighbours_at c.args.graph.now.readers) some) c.loop-steps.steps c.loop-steps.ways [] ways nodes.items) c.as_slice.ensures.value c.in_ok-nodes.ensures in
    let next = ways-next board c.args.graph.now c.args.home c.loop-steps.steps c.loop-steps.ways ways c.loop-steps.nodes.items nodes.items c.requires.graph c.requires.home
    c.loop-steps.invariant.ways c.loop-steps.invariant.frontier tried in
    let some : length nodes.items ≡ 0 → ⊥ = λ e. eqb-false _ _ (sym c.is_empty.ensures ∙ c.if-is_empty.false) (omega (arith, nodes.ok.0, e)) in
    record { ways = next.0; frontier = next.1; fewer = omega (arith, c.loop-steps.invariant.fewer, tried.fewer, some) }

pub returns : goal.returns
returns c = all-home c.args.circuit.now c.args.home c.loop-steps.steps c.loop-steps.ways c.loop-steps.invariant.ways (omega (arith, c.loop-steps.invariant.fewer, c.loop-steps-test.false, ap length c.items.ensures))
