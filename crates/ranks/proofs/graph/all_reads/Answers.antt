use Rattle.ranks.proofs.Graphing.{all-read}
use Rattle.ranks.proofs.graph.all_reads.Goals as goal

pub returns : goal.returns
returns c = all-read c.args.circuit.now c.in_ok-nets.nets c.in_ok-registers.registers c.in_ok-nets.ensures c.in_ok-registers.ensures
