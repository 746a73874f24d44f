use Rattle.std.proofs.Common.{◌≡◌, ◌∙◌, length, ap, arith}
use Rattle.mig_base.specs.First.{made_from}
use Rattle.board.specs.Joined.{equations_of}
use Rattle.board.proofs.ListSteps.{made-push}
use Rattle.joiner.specs.Marked.{needed_at}
use Rattle.joiner.proofs.absorbed.needed_nets.Goals as goal

pub loop-net-preserved : goal.loop-net-preserved
loop-net-preserved c =
    made-push (needed_at c.args.nets.now c.args.marks.now) c.loop-net.net c.loop-net.needed.items c.push.new.self.items c.needed_unit.result c.in_ok-push.ensures.items c.loop-net.invariant c.needed_unit.ensures

pub returns : goal.returns
returns c =
    let end : c.loop-net.net ≡ length (equations_of c.args.board.now).nets = omega (arith, c.loop-net-test.false, c.loop-net.auto.net-end, c.nets-net-end.ensures) in
    c.loop-net.invariant ∙ ap (made_from (needed_at c.args.nets.now c.args.marks.now) 0) end
