use Rattle.std.proofs.Common.{◌≡◌, map, drop}
use Rattle.std.specs.Option.{option_map}
use Rattle.board.specs.Variables.{read_of, var_of}
use Rattle.avail.specs.ServedVariables.{first_unserved_by}
use Rattle.avail.proofs.needed_inputs.first_left.Given as goal

abbrev pub invariant-loop-var : goal.invariant-loop-var
invariant-loop-var l =
    option_map (var_of l.board.chips) (first_unserved_by l.nets.old.now l.nets.chip.now l.taken (map (read_of l.board.chips) (drop l.var-index l.vars)))
    ≡ option_map (var_of l.board.chips) (first_unserved_by l.nets.old.now l.nets.chip.now l.taken (map (read_of l.board.chips) l.vars))
