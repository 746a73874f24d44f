use Rattle.std.proofs.Common.{take}
use Rattle.mig_base.proofs.TextLemmas.{name-bytes}
use Rattle.mig_base.proofs.names.Name.text.Goals as goal

pub ascii_text-requires : goal.ascii_text-requires
ascii_text-requires c = name-bytes (take c.self.inside.len c.self.inside.bytes) c.self.invariant.name
