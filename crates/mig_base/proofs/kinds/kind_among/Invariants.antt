use Rattle.std.proofs.Common.{◌≡◌, drop}
use Rattle.mig_base.specs.DeviceTables.{kind_among as kind_in}
use Rattle.mig_base.proofs.kinds.kind_among.Given as goal

abbrev pub invariant-loop-kind : goal.invariant-loop-kind
invariant-loop-kind l = kind_in (drop l.kind-index l.kinds) l.text ≡ kind_in l.kinds l.text
