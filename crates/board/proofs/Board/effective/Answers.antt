use Rattle.std.proofs.Common.{◌≡◌, ◌<◌, ℕ, get_or, length, sym, ap, ◌∙◌, arith}
use Rattle.board.specs.Enables.{effective_on, pin_enable}
use Rattle.board.specs.Joined.{Joined, equations_of}
use Rattle.board.proofs.BoardLaws.{holds, units-long, unit-is, chip-within, cells-are, cell-within, cell-is, effective-is, effective-same, pin-other}
use Rattle.board.proofs.GivenLaws.{given-small}
use Rattle.board.proofs.Board.effective.Goals as goal

pub bounds-units-unit : goal.bounds-units-unit
bounds-units-unit c =
    let b = c.args.self.now in
    let h = holds c.self.invariant b c.self.view_is in
    let within : c.args.unit < length (equations_of b).units = c.requires in
    let long : length c.items-units.result.now ≡ length (equations_of b).units = ap length (c.items-units.ensures ∙ h.tables.units) ∙ units-long b.net b.chips in
    omega (arith, within, long)

pub bounds-chips-unit : goal.bounds-chips-unit
bounds-chips-unit c =
    let b = c.args.self.now in
    let h = holds c.self.invariant b c.self.view_is in
    let r = c.index-units-unit.result in
    let n = unit-is b c.self.inside.tables c.items-units.result.now c.args.unit r h.tables c.items-units.ensures c.requires c.index-units-unit.is in
    let long : length c.items-chips.result.now ≡ length b.chips = ap length (c.items-chips.ensures ∙ ap (λ (x : Joined). x.chips) c.self.view_is) in
    omega (arith, chip-within b c.args.unit r n, long)

pub bounds-cells-unit : goal.bounds-cells-unit
bounds-cells-unit c =
    let b = c.args.self.now in
    let h = holds c.self.invariant b c.self.view_is in
    let r = c.index-units-unit.result in
    let n = unit-is b c.self.inside.tables c.items-units.result.now c.args.unit r h.tables c.items-units.ensures c.requires c.index-units-unit.is in
    let chips = c.items-chips.ensures ∙ ap (λ (x : Joined). x.chips) c.self.view_is in
    cell-within b c.args.unit r n c.items-cells.result.now (c.items-cells.ensures ∙ cells-are b c.args.unit r n c.items-chips.result.now c.index-chips-unit.result chips)

pub net_of-net-requires : goal.net_of-net-requires
net_of-net-requires c =
    let b = c.args.self.now in
    let h = holds c.self.invariant b c.self.view_is in
    let r = c.index-units-unit.result in
    let n = unit-is b c.self.inside.tables c.items-units.result.now c.args.unit r h.tables c.items-units.ensures c.requires c.index-units-unit.is in
    omega (arith, chip-within b c.args.unit r n, (given-small b.net b.chips h.given).cells)

pub returns-in_default : goal.returns-in_default
returns-in_default c =
    let b = c.args.self.now in
    let h = holds c.self.invariant b c.self.view_is in
    let r = c.index-units-unit.result in
    let n = unit-is b c.self.inside.tables c.items-units.result.now c.args.unit r h.tables c.items-units.ensures c.requires c.index-units-unit.is in
    let chips = c.items-chips.ensures ∙ ap (λ (x : Joined). x.chips) c.self.view_is in
    let cells = c.items-cells.ensures ∙ cells-are b c.args.unit r n c.items-chips.result.now c.index-chips-unit.result chips in
    let cell = get_or c.items-cells.result.now r.cell c.index-cells-unit.result in
    let is = effective-is b c.args.unit r n cell (cell-is b c.args.unit r n c.items-cells.result.now c.index-cells-unit.result cells) in
    sym (is ∙ effective-same b.net r.chip cell.enable c.in_default.not-LowPin)

pub returns-then-net-eq0 : goal.returns-then-net-eq0
returns-then-net-eq0 c =
    let b = c.args.self.now in
    let h = holds c.self.invariant b c.self.view_is in
    let r = c.index-units-unit.result in
    let n = unit-is b c.self.inside.tables c.items-units.result.now c.args.unit r h.tables c.items-units.ensures c.requires c.index-units-unit.is in
    let chips = c.items-chips.ensures ∙ ap (λ (x : Joined). x.chips) c.self.view_is in
    let cells = c.items-cells.ensures ∙ cells-are b c.args.unit r n c.items-chips.result.now c.index-chips-unit.result chips in
    let cell = get_or c.items-cells.result.now r.cell c.index-cells-unit.result in
    let is = effective-is b c.args.unit r n cell (cell-is b c.args.unit r n c.items-cells.result.now c.index-cells-unit.result cells) in
    h.enabled ∙ sym (is ∙ ap (effective_on b.net r.chip) c.in-LowPin.is ∙ ap (λ (m : ℕ). pin_enable m c.in-LowPin.pin) (sym c.net_of-net.ensures ∙ c.if-net-eq0.true))

pub returns-then-net-eq1 : goal.returns-then-net-eq1
returns-then-net-eq1 c =
    let b = c.args.self.now in
    let h = holds c.self.invariant b c.self.view_is in
    let r = c.index-units-unit.result in
    let n = unit-is b c.self.inside.tables c.items-units.result.now c.args.unit r h.tables c.items-units.ensures c.requires c.index-units-unit.is in
    let chips = c.items-chips.ensures ∙ ap (λ (x : Joined). x.chips) c.self.view_is in
    let cells = c.items-cells.ensures ∙ cells-are b c.args.unit r n c.items-chips.result.now c.index-chips-unit.result chips in
    let cell = get_or c.items-cells.result.now r.cell c.index-cells-unit.result in
    let is = effective-is b c.args.unit r n cell (cell-is b c.args.unit r n c.items-cells.result.now c.index-cells-unit.result cells) in
    h.disabled ∙ sym (is ∙ ap (effective_on b.net r.chip) c.in-LowPin.is ∙ ap (λ (m : ℕ). pin_enable m c.in-LowPin.pin) (sym c.net_of-net.ensures ∙ c.if-net-eq1.true))

pub returns : goal.returns
returns c =
    let b = c.args.self.now in
    let h = holds c.self.invariant b c.self.view_is in
    let r = c.index-units-unit.result in
    let n = unit-is b c.self.inside.tables c.items-units.result.now c.args.unit r h.tables c.items-units.ensures c.requires c.index-units-unit.is in
    let chips = c.items-chips.ensures ∙ ap (λ (x : Joined). x.chips) c.self.view_is in
    let cells = c.items-cells.ensures ∙ cells-are b c.args.unit r n c.items-chips.result.now c.index-chips-unit.result chips in
    let cell = get_or c.items-cells.result.now r.cell c.index-cells-unit.result in
    let is = effective-is b c.args.unit r n cell (cell-is b c.args.unit r n c.items-cells.result.now c.index-cells-unit.result cells) in
    c.in-LowPin.is
    ∙ sym (is ∙ ap (effective_on b.net r.chip) c.in-LowPin.is ∙ ap (λ (m : ℕ). pin_enable m c.in-LowPin.pin) (sym c.net_of-net.ensures)
    ∙ pin-other c.net_of-net.result c.in-LowPin.pin c.if-net-eq0.false c.if-net-eq1.false)
