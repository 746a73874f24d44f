use Rattle.std.proofs.Common.{◌≡◌, ◌*◌, sym, subst, ◌∙◌, arith}
use Rattle.mig_base.specs.Boards.{net_of}
use Rattle.equations.specs.Tables.{IsTable}
use Rattle.board.proofs.ListSteps.{at_place, made-push, table-made}
use Rattle.board.proofs.pin_nets.pin_nets.Goals as goal

pub loop-place-preserved : goal.loop-place-preserved
loop-place-preserved c = made-push (λ i. net_of c.args.numbers.now (at_place i)) c.loop-place.place c.loop-place.nets.items c.push.new.self.items c.net_of.result c.in_ok-push.ensures.items c.loop-place.invariant c.net_of.ensures

pub returns : goal.returns
returns c =
    let net = c.args.numbers.now in
    let end : c.loop-place.place ≡ 256 * c.args.chips = omega (arith, c.loop-place-test.false, c.loop-place.auto.place-end) in
    subst (IsTable (net_of net) c.args.chips) (sym (c.new.ensures ∙ c.loop-place.invariant)) (table-made (net_of net) c.args.chips c.loop-place.place end)
