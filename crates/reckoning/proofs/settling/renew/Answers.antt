use Rattle.std.proofs.Common.{◌≡◌, ◌<◌, List, Some, length, sym, ap, ◌∙◌, subst}
use Rattle.std.specs.Prelude.{slice_get}
use Rattle.std.proofs.lemmas.Option.{slice_get_read}
use Rattle.mig_base.specs.declared.circuit.Read.{Read}
use Rattle.mig_base.specs.declared.circuit.Read.TheVariants.{OfNet, OfRegister}
use Rattle.mig_base.specs.declared.circuit.Wire.{Wire}
use Rattle.mig_base.specs.declared.circuit.Register.{Register}
use Rattle.mig_base.specs.Reads.{IsNode}
use Rattle.reckoning.specs.declared.triples.Three.{Three}
use Rattle.reckoning.specs.Triples.{NeverFloat}
use Rattle.reckoning.specs.Reached.{IsRenewed}
use Rattle.reckoning.proofs.Kept.{never_kept}
use Rattle.reckoning.proofs.ReachedLaws.{never-set}
use Rattle.reckoning.proofs.NodeLaws.{net-renewed, register-renewed}
use Rattle.reckoning.proofs.settling.renew.Goals as goal

pub returns-in_ok-three-in-OfNet-clause-renewed : goal.returns-in_ok-three-in-OfNet-clause-renewed
returns-in_ok-three-in-OfNet-clause-renewed c =
    let circuit = c.args.circuit.now in
    let n = c.in-OfNet.place in
    let w = c.index-items-place.result in
    let node : n < length circuit.nets = subst (IsNode circuit) c.in-OfNet.is c.requires.node in
    let some : slice_get circuit.nets n ≡ Some w =
    ap (λ (ws : List Wire). slice_get ws n) (sym c.items.ensures) ∙ slice_get_read c.items.result.now (length circuit.nets) n w (sym (ap length c.items.ensures)) node c.index-items-place.is in
    subst (λ (v : Read). IsRenewed c.args.graph.now c.net.new.graph circuit c.args.stored.now c.args.handed.now v c.args.table.now (record { nets = c.set.new.self; visible = c.args.table.now.visible }))
    (sym c.in-OfNet.is)
    (subst (λ (ts : List Three). IsRenewed c.args.graph.now c.net.new.graph circuit c.args.stored.now c.args.handed.now (OfNet n) c.args.table.now (record { nets = ts; visible = c.args.table.now.visible }))
    (sym c.set.ensures)
    (net-renewed c.args.graph.now c.net.new.graph circuit c.args.stored.now c.args.handed.now n w c.args.table.now c.in_ok-three-in-OfNet.three some c.in_ok-three-in-OfNet.ensures.net))

pub returns-in_ok-three-in-OfRegister-clause-renewed : goal.returns-in_ok-three-in-OfRegister-clause-renewed
returns-in_ok-three-in-OfRegister-clause-renewed c =
    let circuit = c.args.circuit.now in
    let k = c.in-OfRegister.place in
    let r = c.index-items-place-in-OfRegister.result in
    let node : k < length circuit.registers = subst (IsNode circuit) c.in-OfRegister.is c.requires.node in
    let some : slice_get circuit.registers k ≡ Some r =
    ap (λ (rs : List Register). slice_get rs k) (sym c.items-in-OfRegister.ensures)
    ∙ slice_get_read c.items-in-OfRegister.result.now (length circuit.registers) k r (sym (ap length c.items-in-OfRegister.ensures)) node c.index-items-place-in-OfRegister.is in
    subst (λ (v : Read). IsRenewed c.args.graph.now c.visible.new.graph circuit c.args.stored.now c.args.handed.now v c.args.table.now (record { nets = c.args.table.now.nets; visible = c.set-in-OfRegister.new.self }))
    (sym c.in-OfRegister.is)
    (subst (λ (ts : List Three). IsRenewed c.args.graph.now c.visible.new.graph circuit c.args.stored.now c.args.handed.now (OfRegister k) c.args.table.now (record { nets = c.args.table.now.nets; visible = ts }))
    (sym c.set-in-OfRegister.ensures)
    (register-renewed c.args.graph.now c.visible.new.graph circuit c.args.stored.now c.args.handed.now k r c.args.table.now c.three_at-given.result c.in_ok-three-in-OfRegister.three some
    c.three_at-given.ensures.says c.in_ok-three-in-OfRegister.ensures.visible))

pub returns-in_ok-three-in-OfRegister-clause-known : goal.returns-in_ok-three-in-OfRegister-clause-known
returns-in_ok-three-in-OfRegister-clause-known c =
    let a = c.args.graph.now in
    let b = c.visible.new.graph in
    let qs = c.args.table.now.visible in
    λ never. subst (NeverFloat b) (sym c.set-in-OfRegister.ensures)
    (never-set b qs c.in-OfRegister.place c.in_ok-three-in-OfRegister.three (never_kept a b qs c.in_ok-three-in-OfRegister.ensures.keeps never) c.in_ok-three-in-OfRegister.ensures.known)
