use Rattle.std.proofs.Common.{◌≡◌, ◌+◌, ◌-◌, length}
use Rattle.std.specs.Prelude.{filter}
use Rattle.mig_base.specs.First.{made_from}
use Rattle.mig_base.specs.Structure.{alias_of}
use Rattle.new_board.specs.NewChip.{first_of, alias_net, is_register_of}
use Rattle.avail.proofs.old_board.Old.alias_net.Given as goal

abbrev pub invariant-loop-net : goal.invariant-loop-net
invariant-loop-net l =
    first_of (filter (λ n. is_register_of l.register (alias_of l.self.circuit n)) (made_from (λ n. n) l.net ((2 + length l.self.net.nets) - l.net)))
    ≡ alias_net l.self l.register
