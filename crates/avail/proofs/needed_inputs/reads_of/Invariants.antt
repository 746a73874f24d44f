use Rattle.std.proofs.Common.{◌≡◌, map, take}
use Rattle.board.specs.Variables.{read_of}
use Rattle.avail.proofs.needed_inputs.reads_of.Given as goal

abbrev pub invariant-loop-var : goal.invariant-loop-var
invariant-loop-var l = l.reads.items ≡ map (read_of l.board.chips) (take l.var-index l.vars)
