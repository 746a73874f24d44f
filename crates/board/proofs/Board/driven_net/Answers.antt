use Rattle.std.proofs.Common.{ℕ, ◌≡◌, ◌<◌, ◌≤◌, List, length, get_or, sym, ap, subst, ◌∙◌, arith}
use Rattle.std.specs.Prelude.{slice_get}
use Rattle.mig_base.specs.declared.circuit.Wire.{Wire}
use Rattle.mig_base.specs.Among.{Among}
use Rattle.mig_base.specs.Boards.{units_from}
use Rattle.structure.specs.Live.{DrivesWire}
use Rattle.board.specs.declared.Unit.{Unit as NamedUnit}
use Rattle.board.specs.Joined.{equations_of}
use Rattle.board.proofs.BoardLaws.{holds, units-long}
use Rattle.board.proofs.DrivenLaws.{driven-named, driven-within, driver-drives, drives-driver}
use Rattle.board.proofs.UnitLaws.{length-units}
use Rattle.board.proofs.Board.driven_net.Goals as goal

pub bounds-units-unit : goal.bounds-units-unit
bounds-units-unit c =
    let b = c.args.self.now in
    let h = holds c.self.invariant b c.self.view_is in
    let within : c.args.unit < length (equations_of b).units = c.requires in
    let long : length c.items-units.result.now ≡ length (equations_of b).units = ap length (c.items-units.ensures ∙ h.tables.units) ∙ units-long b.net b.chips in
    omega (arith, within, long)

pub returns-then-net-nets : goal.returns-then-net-nets
returns-then-net-nets c = λ n d.
    let b = c.args.self.now in
    let h = holds c.self.invariant b c.self.view_is in
    let r = c.index-units-unit.result in
    let within : c.args.unit < length (units_from 0 b.chips) = let w : c.args.unit < length (equations_of b).units = c.requires in omega (arith, w, units-long b.net b.chips, length-units b.net b.chips) in
    let same : n ≡ r.net = driven-named b.net b.chips n c.args.unit r within (c.index-units-unit.is ∙ ap (λ (us : List NamedUnit). get_or us c.args.unit r) (c.items-units.ensures ∙ h.tables.units)) d in
    let low : n < length (equations_of b).nets = driven-within (equations_of b).nets n c.args.unit d in
    let past : length (equations_of b).nets ≤ n = subst (λ (m : ℕ). m ≤ n) c.nets.ensures (subst (λ (m : ℕ). c.nets.result ≤ m) (sym same) c.if-net-nets.true) in
    omega (arith, low, past)

pub returns-then-has_number : goal.returns-then-has_number
returns-then-has_number c =
    let b = c.args.self.now in
    driver-drives (slice_get (equations_of b).nets c.index-units-unit.result.net) c.args.unit (subst (Among c.args.unit) c.drivers.ensures (c.has_number.ensures.yes c.if-has_number.true))

pub returns : goal.returns
returns c = λ n d.
    let b = c.args.self.now in
    let h = holds c.self.invariant b c.self.view_is in
    let r = c.index-units-unit.result in
    let within : c.args.unit < length (units_from 0 b.chips) = let w : c.args.unit < length (equations_of b).units = c.requires in omega (arith, w, units-long b.net b.chips, length-units b.net b.chips) in
    let same : n ≡ r.net = driven-named b.net b.chips n c.args.unit r within (c.index-units-unit.is ∙ ap (λ (us : List NamedUnit). get_or us c.args.unit r) (c.items-units.ensures ∙ h.tables.units)) d in
    let drives : DrivesWire c.args.unit (slice_get (equations_of b).nets r.net) = subst (λ (m : ℕ). DrivesWire c.args.unit (slice_get (equations_of b).nets m)) same d in
    c.has_number.ensures.no c.if-has_number.false (subst (Among c.args.unit) (sym c.drivers.ensures) (drives-driver (slice_get (equations_of b).nets r.net) c.args.unit drives))
