use Rattle.std.proofs.Common.{◌+◌, sym, subst, take}
use Rattle.signs.specs.Named.{AreNamedFrom}
use Rattle.signs.proofs.NamedLaws.{names-more}
use Rattle.signs.proofs.named.named_triples.Goals as goal

pub loop-other-preserved : goal.loop-other-preserved
loop-other-preserved c =
    let d = c.args.graph.now in
    let names = c.args.names.now in
    let ports = c.args.ports.now in
    let i = c.loop-other.other-index in
    subst (AreNamedFrom d names ports (take (i + 1) c.args.others.now)) (sym c.in_ok-push.ensures.items)
    (names-more d names ports c.args.others.now i c.other-item.result _ c.loop-other.made.items c.named_triple.result c.loop-other-test.true c.other-item.is c.loop-other.invariant
    c.named_triple.ensures.triple c.named_triple.ensures.says)
