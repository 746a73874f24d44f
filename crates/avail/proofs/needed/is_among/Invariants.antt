use Rattle.std.proofs.Common.{◌≡◌, drop}
use Rattle.avail.specs.Needed.{are_read}
use Rattle.avail.proofs.needed.is_among.Given as goal

abbrev pub invariant-loop-read : goal.invariant-loop-read
invariant-loop-read l = are_read (drop l.read-index l.reads) l.variable ≡ are_read l.reads l.variable
