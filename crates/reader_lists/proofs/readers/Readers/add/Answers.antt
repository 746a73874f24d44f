use Rattle.std.proofs.Common.{◌∷◌, [], sym, subst}
use Rattle.std.specs.Prelude.{OnOk}
use Rattle.mig_base.specs.declared.circuit.Read.{Read}
use Rattle.reader_lists.specs.declared.readers.Readers.{Readers}
use Rattle.reader_lists.specs.Lists.{Adds}
use Rattle.reader_lists.proofs.Putting.{on-ok}
use Rattle.reader_lists.proofs.Adding.{added-net, added-register}
use Rattle.reader_lists.proofs.readers.Readers.add.Goals as goal

pub returns-in-OfNet : goal.returns-in-OfNet
returns-in-OfNet c =
    let old = c.args.self.now in
    let new : Readers = record { nets = c.add.new.self; registers = old.registers } in
    subst (λ (node : Read). OnOk c.add.result (Adds old c.args.reader (node ∷ []) new)) (sym c.in-OfNet.is)
    (on-ok c.add.result _ _ (added-net old c.in-OfNet.net c.args.reader c.add.new.self) c.add.ensures)

pub returns-in-OfRegister : goal.returns-in-OfRegister
returns-in-OfRegister c =
    let old = c.args.self.now in
    let new : Readers = record { nets = old.nets; registers = c.add-in-OfRegister.new.self } in
    subst (λ (node : Read). OnOk c.add-in-OfRegister.result (Adds old c.args.reader (node ∷ []) new)) (sym c.in-OfRegister.is)
    (on-ok c.add-in-OfRegister.result _ _ (added-register old c.in-OfRegister.register c.args.reader c.add-in-OfRegister.new.self) c.add-in-OfRegister.ensures)
