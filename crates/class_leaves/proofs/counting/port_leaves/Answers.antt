use Rattle.std.proofs.Common.{ℕ, ◌≤◌, ◌*◌, ◌+◌, ◌∙◌, length, get_or, refl, sym, arith}
use Rattle.mig_base.specs.declared.nets.Port.TheVariants.{Inner}
use Rattle.class_leaves.proofs.PlaceLaws.{ports-end, ports-more, within-more}
use Rattle.class_leaves.proofs.counting.port_leaves.Goals as goal

pub loop-port-preserved : goal.loop-port-preserved
loop-port-preserved c =
    ports-more c.args.first c.args.ports.now c.loop-port.port-index c.loop-port.place c.width-place.result (get_or c.args.ports.now c.loop-port.port-index Inner) Inner c.port_range-range.result
    c.loop-port.leaves.items c.push.new.self.items c.loop-port-test.true refl c.port_range-range.ensures c.width-place.ensures c.in_ok-push.ensures.items c.loop-port.invariant

pub returns-clause-leaves : goal.returns-clause-leaves
returns-clause-leaves c = sym (ports-end c.loop-port.place c.loop-port.leaves.items c.args.ports.now c.loop-port.port-index c.loop-port-test.false) ∙ c.loop-port.invariant.made

pub returns-clause-within : goal.returns-clause-within
returns-clause-within c =
    let old : c.loop-port.place ≤ c.args.first + 2 * c.loop-port.port-index = c.loop-port.invariant.most in
    let last : c.loop-port.port-index ≤ length c.args.ports.now = c.loop-port.auto.port-index-end in
    let most : c.loop-port.place ≤ c.args.first + 2 * length c.args.ports.now = omega (arith, old, last) in
    within-more c.loop-port.place (c.args.first + 2 * length c.args.ports.now) c.loop-port.leaves.items most c.loop-port.invariant.within
