use Rattle.std.proofs.Common.{◌≡◌, sym, subst}
use Rattle.mig_base.specs.declared.circuit.Read.{Read}
use Rattle.mig_base.specs.declared.circuit.Levels.{Levels}
use Rattle.mig_base.specs.Reads.{IsNode}
use Rattle.settle.specs.Rules.{placed, new_level}
use Rattle.settle.proofs.OrderLaws.{register-renewed}
use Rattle.settle.proofs.evaluating.renew.Goals as goal

pub returns-in-OfRegister : goal.returns-in-OfRegister
returns-in-OfRegister c =
    let board = c.args.circuit.now in
    let out = c.args.out.now in
    let new : Levels = record { nets = out.nets; drives = out.drives; visible = c.set-in-OfRegister.new.self } in
    subst (λ (node : Read). new ≡ placed out node (new_level board c.args.stored.now c.args.inputs.now out node)) (sym c.in-OfRegister.is)
    (register-renewed board c.args.stored.now c.args.inputs.now out c.items-in-OfRegister.result.now c.in-OfRegister.register c.index-items-place.result c.visible_level-level.result _ c.set-in-OfRegister.new.self
    c.requires.stored (subst (IsNode board) c.in-OfRegister.is c.requires.node) c.items-in-OfRegister.ensures c.index-items-place.is c.visible_level-level.ensures c.set-in-OfRegister.ensures)
