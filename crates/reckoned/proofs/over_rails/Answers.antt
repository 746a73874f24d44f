use Rattle.std.proofs.Common.{◌≤◌, List, take, drop, length, sym, ap, ◌∙◌, subst}
use Rattle.mig_base.specs.declared.circuit.Circuit.{Circuit}
use Rattle.board.specs.Joined.{equations_of}
use Rattle.reckoning.specs.declared.triples.Three.{Three}
use Rattle.reckoning.specs.Whole.{AreSettled}
use Rattle.reckoned.specs.Variables.{port_variables}
use Rattle.reckoned.proofs.BoardReckoned.{board-says, handed-within, valid-back, valid-front}
use Rattle.reckoned.proofs.over_rails.Goals as goal

pub split_at-requires : goal.split_at-requires
split_at-requires c =
    subst (λ (ts : List Three). c.args.ports ≤ length ts) (sym c.as_slice.ensures.value)
    (handed-within c.triples_of.new.rails.graph c.args.rails.now.vars (port_variables 0 (equations_of c.args.b.now).nets) c.requires.variables.registers c.in_ok-given.given.items c.args.ports
    c.requires.ports c.requires.variables.added c.in_ok-given.ensures.triples)

pub settled_triples-made-requires-clause-stored : goal.settled_triples-made-requires-clause-stored
settled_triples-made-requires-clause-stored c =
    valid-back c.triples_of.new.rails.graph c.graph.result.now c.args.rails.now.vars c.in_ok-given.given.items c.split_at.result.1.now c.args.ports c.graph.ensures.graph
    (c.split_at.ensures.back ∙ ap (drop c.args.ports) c.as_slice.ensures.value) c.in_ok-given.ensures.triples

pub settled_triples-made-requires-clause-handed : goal.settled_triples-made-requires-clause-handed
settled_triples-made-requires-clause-handed c =
    valid-front c.triples_of.new.rails.graph c.graph.result.now c.args.rails.now.vars c.in_ok-given.given.items c.split_at.result.0.now c.args.ports c.graph.ensures.graph
    (c.split_at.ensures.front ∙ ap (take c.args.ports) c.as_slice.ensures.value) c.in_ok-given.ensures.triples

pub returns-in-Ok-clause-says : goal.returns-in-Ok-clause-says
returns-in-Ok-clause-says c =
    let b = c.args.b.now in
    let d = c.graph.result.now in
    let e = c.settled_triples-made.new.graph in
    let ts = c.in_ok-given.given.items in
    let n = c.args.ports in
    let r = c.in-Ok.triples in
    board-says b c.triples_of.new.rails.graph d e c.args.rails.now.vars ts n r c.requires.variables c.requires.ports c.graph.ensures.graph c.in_ok-given.ensures.triples
    (subst (λ (k : Circuit). AreSettled d e k (drop n ts) (take n ts) r) c.circuit-circuit.ensures.circuit
    (subst (λ (hs : List Three). AreSettled d e c.circuit-circuit.result.now (drop n ts) hs r) (c.split_at.ensures.front ∙ ap (take n) c.as_slice.ensures.value)
    (subst (λ (ss : List Three). AreSettled d e c.circuit-circuit.result.now ss c.split_at.result.0.now r) (c.split_at.ensures.back ∙ ap (drop n) c.as_slice.ensures.value) c.in-Ok.ensures.settled)))
