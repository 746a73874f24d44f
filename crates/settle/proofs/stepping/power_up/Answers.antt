use Rattle.board.specs.Joined.{equations_of}
use Rattle.settle.proofs.PureBoards.{started, started-made}
use Rattle.settle.proofs.stepping.power_up.Goals as goal

pub returns-clause-pure : goal.returns-clause-pure
returns-clause-pure c =
    started c.circuit.result.now (equations_of c.args.b.now) c.at_power_up.result c.circuit.ensures.circuit c.at_power_up.ensures.stored c.at_power_up.ensures.last

pub returns-clause-made : goal.returns-clause-made
returns-clause-made c =
    started-made c.circuit.result.now (equations_of c.args.b.now) c.at_power_up.result c.circuit.ensures.circuit c.at_power_up.ensures.made c.at_power_up.ensures.stored c.at_power_up.ensures.last c.at_power_up.ensures.levels
