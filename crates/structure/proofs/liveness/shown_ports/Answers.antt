use Rattle.std.proofs.Common.{◌+◌, ◌∙◌, get_or, take, sym, subst}
use Rattle.mig_base.specs.Among.{Among}
use Rattle.structure.specs.Waking.{HasPorts}
use Rattle.structure.proofs.NeededNodes.{among-at, port-added, port-skipped}
use Rattle.structure.proofs.liveness.shown_ports.Goals as goal
use Rattle.structure.proofs.liveness.shown_ports.Goals.{then-is_shown, else-is_shown}

pub loop-port-preserved : goal.loop-port-preserved
loop-port-preserved c =
    let b = c.args.circuit.now in
    let ports = c.items-port-items.result.now in
    let i = c.loop-port.port-index in
    let port = get_or ports i 0 in
    elim c.if-is_shown.branch [
      | then-is_shown w ↦ subst (HasPorts b (take (i + 1) ports)) (sym (w.needed-is ∙ w.add.ensures))
          (port-added b ports i c.loop-port.needed c.loop-port-test.true c.loop-port.invariant
          (λ u behind set is. is.ports port u (subst (Among port) c.items-port-items.ensures (among-at ports i 0 c.loop-port-test.true), c.is_shown.ensures.yes w.if-is_shown.true) behind)
          (c.is_shown.ensures.yes w.if-is_shown.true))
      | else-is_shown w ↦ subst (HasPorts b (take (i + 1) ports)) (sym w.needed-is) (port-skipped b ports i c.loop-port.needed c.loop-port-test.true c.loop-port.invariant (c.is_shown.ensures.no w.if-is_shown.false))
    ]
