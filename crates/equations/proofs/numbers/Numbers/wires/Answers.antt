use Rattle.std.proofs.Common.{◌≡◌, ◌<◌, length, zero-add, ap, ◌∙◌, arith}
use Rattle.mig_base.specs.Boards.{wires_from}
use Rattle.equations.proofs.DriverLemmas.{wires-zip, kinds-are}
use Rattle.equations.proofs.numbers.Numbers.wires.Goals as goal

pub returns : goal.returns
returns c =
    let net = c.args.self.now.nets.now in
    let units = c.args.self.now.units.now in
    let kinds = c.in_ok-kinds.kinds.items in
    let many : c.len.result ≡ length kinds = omega (arith, c.in_ok-kinds.kinds.ok.0) in
    c.in_ok-wires.ensures
    ∙ wires-zip net units 0 kinds c.in_ok-lists.lists (c.in_ok-lists.ensures.size ∙ many) (λ k h. let b : k < c.len.result = omega arith in rw (zero-add k) (c.in_ok-lists.ensures.drivers k b))
    ∙ ap (wires_from net units 0) (kinds-are net _ _ kinds c.in_ok-kinds.ensures c.named.ensures c.private_nets.ensures)
