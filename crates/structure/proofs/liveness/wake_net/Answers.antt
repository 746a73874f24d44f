use Rattle.std.proofs.Common.{◌∙◌, Bool, List, false, get_or, sym, subst, ap}
use Rattle.mig_base.specs.declared.circuit.Read.TheVariants.{OfNet}
use Rattle.mig_base.specs.Among.{Among}
use Rattle.structure.specs.Live.{DrivesWire}
use Rattle.structure.proofs.liveness.wake_net.Goals as goal

pub wake_all-requires-clause-live : goal.wake_all-requires-clause-live
wake_all-requires-clause-live c = λ u a.
    c.requires.waking.needed.sound (OfNet c.args.net) (ap (λ (bs : List Bool). get_or bs c.args.net false) (sym c.items.ensures) ∙ sym c.flag_at.ensures ∙ c.if-flag_at.true) u
    (subst (DrivesWire u) (sym c.requires.wire) (subst (Among u) c.items-then-flag_at.ensures a))
