use Rattle.std.proofs.Common.{List, subst, sym}
use Rattle.reckoning.specs.declared.triples.Three.{Three}
use Rattle.reckoning.specs.Whole.{AreSettled}
use Rattle.reckoning.proofs.WholeLaws.{all-settled}
use Rattle.reckoning.proofs.whole.settled_triples.Goals as goal

pub returns-clause-settled : goal.returns-clause-settled
returns-clause-settled c =
    let a = c.args.graph.now in
    let b = c.settle_nodes.new.graph in
    let d = c.drives.new.graph in
    let e = c.next.new.graph in
    let t = c.settle_nodes.new.table in
    subst (λ (ts : List Three). AreSettled a e c.args.circuit.now c.args.stored.now c.args.handed.now (record { nets = t.nets; drives = ts; visible = t.visible; next = c.new-2.result }))
    (sym c.new.ensures)
    (subst (λ (ts : List Three). AreSettled a e c.args.circuit.now c.args.stored.now c.args.handed.now (record { nets = t.nets; drives = c.in_ok-drives.drives.items; visible = t.visible; next = ts }))
    (sym c.new-2.ensures)
    (all-settled a b d e c.args.circuit.now c.args.stored.now c.args.handed.now c.in_ok-drives.drives.items c.in_ok-next.next.items t
    c.in_ok-drives.ensures.keeps c.in_ok-next.ensures.keeps c.in_ok-settle_nodes.ensures.reckoned (c.in_ok-settle_nodes.ensures.known c.in_ok-table.ensures.known) c.in_ok-next.ensures.known c.in_ok-drives.ensures.drives c.in_ok-next.ensures.taken))
