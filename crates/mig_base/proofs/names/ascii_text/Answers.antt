use Rattle.mig_base.proofs.TextLemmas.{name-utf8}
use Rattle.mig_base.proofs.names.ascii_text.Goals as goal

pub unreachable-requires : goal.unreachable-requires
unreachable-requires c = c.in-Err.ensures.cases.0 (name-utf8 c.args.bytes.now c.requires)
