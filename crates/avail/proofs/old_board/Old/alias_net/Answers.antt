use Rattle.std.proofs.Common.{◌≡◌, ◌+◌, ◌-◌, ◌∙◌, ap, length, arith, false}
use Rattle.mig_base.specs.Structure.{alias_of}
use Rattle.new_board.specs.NewChip.{OldBoard, is_register_of}
use Rattle.avail.proofs.CodeSearch.{first-later}
use Rattle.avail.proofs.old_board.Old.alias_net.Goals as goal

pub loop-net-preserved : goal.loop-net-preserved
loop-net-preserved c =
    let b = c.args.self.now in
    let net = c.loop-net.net in
    let other : is_register_of c.args.register (alias_of b.circuit net) ≡ false =
    cc (ap (λ (old : OldBoard). is_register_of c.args.register (alias_of old.circuit net)) c.self.view_is, c.is_alias_of.ensures, c.if-is_alias_of.false) in
    let nets = ap (λ (old : OldBoard). length old.net.nets) c.self.view_is in
    let items = ap length c.items.ensures in
    first-later (λ n. is_register_of c.args.register (alias_of b.circuit n)) net ((2 + length b.net.nets) - net) ((2 + length b.net.nets) - (net + 1)) (omega arith) other
    ∙ c.loop-net.invariant
