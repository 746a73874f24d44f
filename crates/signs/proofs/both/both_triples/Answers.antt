use Rattle.std.proofs.Common.{◌∙◌, ap, drop, length, subst, sym, take}
use Rattle.board.specs.Joined.{equations_of}
use Rattle.reckoning.specs.Triples.{AreTriples}
use Rattle.reckoning.proofs.Kept.{triples_kept}
use Rattle.signs.proofs.BothLaws.{as-settled, back-triples, both-made, front-triples}
use Rattle.signs.proofs.both.both_triples.Goals as goal

pub settled_triples-requires-clause-stored : goal.settled_triples-requires-clause-stored
settled_triples-requires-clause-stored c =
    let m = length c.registers.result.now in
    let d = c.given_triples.new.graph in
    subst (AreTriples d) (sym (c.split_at.ensures.front ∙ ap (take m) c.items.ensures)) (front-triples d m c.in_ok-given.given.stored c.in_ok-given.ensures.given.stored.triples)

pub settled_triples-requires-2-clause-stored : goal.settled_triples-requires-2-clause-stored
settled_triples-requires-2-clause-stored c =
    let m = length c.registers.result.now in
    let d = c.given_triples.new.graph in
    let e = c.settled_triples.new.graph in
    triples_kept d e c.split_at.result.1.now c.in_ok-left.ensures.keeps
    (subst (AreTriples d) (sym (c.split_at.ensures.back ∙ ap (drop m) c.items.ensures)) (back-triples d m c.in_ok-given.given.stored c.in_ok-given.ensures.given.stored.triples))

pub returns-clause-settled : goal.returns-clause-settled
returns-clause-settled c =
    let a = c.args.a.now in
    let b = c.args.b.now in
    let m = length c.registers.result.now in
    let d = c.given_triples.new.graph in
    let e = c.settled_triples.new.graph in
    let f = c.settled_triples-2.new.graph in
    let g = c.in_ok-given.given in
    both-made a b c.args.leaves.now d e f g c.in_ok-left.left c.in_ok-right.right m c.registers.ensures.all c.in_ok-left.ensures.keeps c.in_ok-right.ensures.keeps c.requires.room.port_count c.in_ok-given.ensures.given
    (as-settled d e c.circuit.result.now (equations_of a) c.split_at.result.0.now (take m g.stored) c.items-handed.result.now g.ports c.in_ok-left.left c.circuit.ensures.circuit
    (c.split_at.ensures.front ∙ ap (take m) c.items.ensures) c.items-handed.ensures c.in_ok-left.ensures.settled)
    (as-settled e f c.circuit-2.result.now (equations_of b) c.split_at.result.1.now (drop m g.stored) c.items-handed-2.result.now g.others c.in_ok-right.right c.circuit-2.ensures.circuit
    (c.split_at.ensures.back ∙ ap (drop m) c.items.ensures) c.items-handed-2.ensures c.in_ok-right.ensures.settled)
