use Rattle.std.proofs.Common.{◌≡◌, List, Option, Some, None, refl, sym, ap, ◌∙◌, subst, length, arith}
use Rattle.std.specs.Prelude.{IfOk, slice_get}
use Rattle.std.proofs.lemmas.Option.{slice_get_read, slice_get_past}
use Rattle.mig_base.specs.declared.circuit.Driver.{Driver}
use Rattle.mig_base.specs.Levels.{or_x}
use Rattle.mig_base.specs.Reads.{driver_reads}
use Rattle.level_laws.specs.Settled.{drive_level}
use Rattle.reckoning.specs.Tables.{IsTripleOf}
use Rattle.reckoning.proofs.nets.drive_of.Goals as goal

pub returns-then-unit-units-clause-triple : goal.returns-then-unit-units-clause-triple
returns-then-unit-units-clause-triple c =
    let units = c.items-units.result.now in
    let x = c.index-units-unit.result in
    let some : slice_get c.args.circuit.now.units c.args.unit ≡ Some x =
    ap (λ (us : List Driver). slice_get us c.args.unit) (sym c.items-units.ensures) ∙ slice_get_read units (length units) c.args.unit x refl c.if-unit-units.true c.index-units-unit.is in
    subst (λ (o : Option Driver). IfOk c.drive.result (IsTripleOf c.args.graph.now c.drive.new.graph c.args.table.now (driver_reads o) (λ l. or_x (drive_level l) o))) (sym some) c.drive.ensures.triple

pub returns-else-unit-units-clause-triple : goal.returns-else-unit-units-clause-triple
returns-else-unit-units-clause-triple c =
    let units = c.items-units.result.now in
    let none : slice_get c.args.circuit.now.units c.args.unit ≡ None =
    ap (λ (us : List Driver). slice_get us c.args.unit) (sym c.items-units.ensures) ∙ slice_get_past units c.args.unit (omega (arith, c.if-unit-units.false)) in
    subst (λ (o : Option Driver). IsTripleOf c.args.graph.now c.args.graph.now c.args.table.now (driver_reads o) (λ l. or_x (drive_level l) o) c.unknown.result) (sym none)
    (record { valid = c.unknown.ensures.triple; says = λ p l _. c.unknown.ensures.says p })
