use Rattle.std.proofs.Common.{◌≡◌, ◌++◌, filter}
use Rattle.mig_base.specs.First.{made_from}
use Rattle.mig_base.specs.declared.nets.Var.TheVariants.{Net}
use Rattle.joiner.specs.Marked.{is_named}
use Rattle.joiner.proofs.cone.push_nets.Given as goal

abbrev pub invariant-loop-net : goal.invariant-loop-net
invariant-loop-net l = l.variables.items ≡ l.fn.variables.items ++ filter (is_named l.nets l.marks) (made_from Net 0 l.net)
