use Rattle.std.proofs.Common.{ℕ, get_or, take, subst}
use Rattle.std.proofs.lemmas.List.{take_more}
use Rattle.mig_base.specs.Among.{Among}
use Rattle.mig_base.proofs.Amongs.{apart-push}
use Rattle.structure.proofs.NeededNodes.{among-at}
use Rattle.structure.proofs.absorbing.is_port.Goals as goal

pub returns-then-port-net-clause-yes : goal.returns-then-port-net-clause-yes
returns-then-port-net-clause-yes c = λ _.
    let ports = c.items-port-items.result.now in
    subst (Among c.args.net) c.items-port-items.ensures (subst (λ (n : ℕ). Among n ports) c.if-port-net.true (among-at ports c.loop-port.port-index 0 c.loop-port-test.true))

pub loop-port-preserved : goal.loop-port-preserved
loop-port-preserved c = λ a.
    let ports = c.items-port-items.result.now in
    let i = c.loop-port.port-index in
    apart-push c.args.net (get_or ports i 0) (take i ports) c.loop-port.invariant c.if-port-net.false (subst (Among c.args.net) (take_more ports i 0 c.loop-port-test.true) a)
