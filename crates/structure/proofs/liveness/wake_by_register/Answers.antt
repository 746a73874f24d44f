use Rattle.std.proofs.Common.{◌≡◌, ◌∙◌, refl, sym, subst, true, arith}
use Rattle.mig_base.specs.declared.circuit.Read.TheVariants.{OfRegister}
use Rattle.structure.specs.NodeSets.{contains}
use Rattle.structure.specs.Live.{GivesQ, HasRegister}
use Rattle.structure.proofs.Wakings.{flag-within}
use Rattle.structure.proofs.liveness.wake_by_register.Goals as goal

pub wake-requires-clause-live : goal.wake-requires-clause-live
wake-requires-clause-live c =
    let k = c.in-Visible.register in
    let needed = c.args.waking.now.needed in
    let has : contains needed (OfRegister k) ≡ true = sym c.has.ensures ∙ c.if-has.true in
    c.requires.waking.needed.sound (OfRegister k) has c.args.unit
    (omega (arith, flag-within needed.registers k has, c.requires.waking.needed.registers), subst (HasRegister k) (sym c.requires.unit) (subst (GivesQ k) (sym c.in-Visible.is) refl))
