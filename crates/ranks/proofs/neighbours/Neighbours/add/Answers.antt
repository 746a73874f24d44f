use Rattle.std.proofs.Common.{sym, subst}
use Rattle.std.specs.Prelude.{OnOk}
use Rattle.mig_base.specs.declared.circuit.Read.{Read}
use Rattle.ranks.specs.declared.neighbours.Neighbours.{Neighbours}
use Rattle.ranks.specs.Neighbours.{IsAdded}
use Rattle.ranks.proofs.Putting.{added-net, added-register, on-ok}
use Rattle.ranks.proofs.neighbours.Neighbours.add.Goals as goal

pub returns-in-OfNet : goal.returns-in-OfNet
returns-in-OfNet c =
    let old = c.args.self.now in
    let new : Neighbours = record { nets = c.add.new.self; registers = old.registers } in
    subst (λ (to : Read). OnOk c.add.result (IsAdded old to c.args.node new)) (sym c.in-OfNet.is)
    (on-ok c.add.result _ _ (added-net old c.in-OfNet.net c.args.node c.add.new.self) c.add.ensures)

pub returns-in-OfRegister : goal.returns-in-OfRegister
returns-in-OfRegister c =
    let old = c.args.self.now in
    let new : Neighbours = record { nets = old.nets; registers = c.add-in-OfRegister.new.self } in
    subst (λ (to : Read). OnOk c.add-in-OfRegister.result (IsAdded old to c.args.node new)) (sym c.in-OfRegister.is)
    (on-ok c.add-in-OfRegister.result _ _ (added-register old c.in-OfRegister.register c.args.node c.add-in-OfRegister.new.self) c.add-in-OfRegister.ensures)
