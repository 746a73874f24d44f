use Rattle.matchings.specs.Edges.{same_clock}
use Rattle.signs.specs.Signs.{AreSameEdges, SameFunctions}
use Rattle.signs.proofs.BothTests.{both-hold}
use Rattle.signs.proofs.comparing.alike.Goals as goal

pub returns-clause-alike : goal.returns-clause-alike
returns-clause-alike c =
    let d = c.args.graph.now in
    let s = c.args.s.now in
    let t = c.args.t.now in
    let x = both-hold c.same_pairs-seen.result c.same_edges-edges.result c.both.result (SameFunctions d s.one t.one × SameFunctions d s.zero t.zero) (AreSameEdges (same_clock s.clock t.clock) d s t) c.both.ensures
    c.same_pairs-seen.ensures.same c.same_edges-edges.ensures.edges in
    (λ h. let y = x.0 h in record { seen = y.0; edges = y.1 }, λ h. x.1 (h.seen, h.edges))
