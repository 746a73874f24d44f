use Rattle.ports.proofs.PortLaws.{difference-lent}
use Rattle.ports.proofs.same_ports.Goals as goal

pub returns : goal.returns
returns c =
    difference-lent c.args.a.now.net c.args.b.now.net c.net-left.result.now c.net-right.result.now c.first_lacking.result c.first_lacking-2.result c.net-left.ensures.net c.net-right.ensures.net
    c.first_lacking.ensures c.first_lacking-2.ensures c.in_default.not-Some
