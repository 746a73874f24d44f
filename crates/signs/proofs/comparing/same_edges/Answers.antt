use Rattle.std.proofs.Common.{Bool, ◌↔◌, ◌∙◌, subst, sym, IsTrue}
use Rattle.signs.specs.Signs.{AreSameEdges, Keeps}
use Rattle.signs.proofs.BothTests.{both-hold}
use Rattle.signs.proofs.comparing.same_edges.Goals as goal

pub returns-then-same_clock-clause-edges : goal.returns-then-same_clock-clause-edges
returns-then-same_clock-clause-edges c =
    subst (λ (q : Bool). IsTrue c.same_pairs.result ↔ AreSameEdges q c.args.graph.now c.args.s.now c.args.t.now) (sym (sym c.same_clock.ensures ∙ c.if-same_clock.true)) c.same_pairs.ensures.same

pub returns-clause-edges : goal.returns-clause-edges
returns-clause-edges c =
    subst (λ (q : Bool). IsTrue c.both.result ↔ AreSameEdges q c.args.graph.now c.args.s.now c.args.t.now) (sym (sym c.same_clock.ensures ∙ c.if-same_clock.false))
    (both-hold c.keeps-left.result c.keeps-right.result c.both.result (Keeps c.args.graph.now c.args.s.now) (Keeps c.args.graph.now c.args.t.now) c.both.ensures c.keeps-left.ensures.keeps c.keeps-right.ensures.keeps)
