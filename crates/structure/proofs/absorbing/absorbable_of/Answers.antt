use Rattle.std.proofs.Common.{◌+◌, ◌∙◌, List, Bool, sym, subst, arith, ap, length}
use Rattle.structure.proofs.Absorbings.{AreFound, found-next, found-skip, found-all}
use Rattle.structure.proofs.absorbing.absorbable_of.Goals as goal
use Rattle.structure.proofs.absorbing.absorbable_of.Goals.{in-Some, in_default}

pub loop-net-preserved : goal.loop-net-preserved
loop-net-preserved c =
    let b = c.args.circuit.now in
    elim c.match-absorbed_at.branch [
      | in-Some w ↦ found-next b c.loop-net.absorbable c.match-absorbed_at.absorbable c.loop-net.net w.in-Some.unit c.loop-net.invariant w.in-Some.ensures.unit (w.absorbable-is ∙ w.set.ensures)
      | in_default w ↦ subst (λ (marks : List Bool). AreFound b marks (c.loop-net.net + 1)) (sym w.absorbable-is) (found-skip b c.loop-net.absorbable c.loop-net.net c.loop-net.invariant w.in_default.ensures.none)
    ]

pub returns : goal.returns
returns c = found-all c.args.circuit.now c.loop-net.absorbable c.loop-net.net c.loop-net.invariant (omega (arith, c.loop-net-test.false, ap length c.items-wire-items.ensures))
