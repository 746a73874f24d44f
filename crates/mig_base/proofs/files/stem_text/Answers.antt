use Rattle.mig_base.proofs.TextLemmas.{stem-utf8}
use Rattle.mig_base.proofs.files.stem_text.Goals as goal

pub unreachable-requires : goal.unreachable-requires
unreachable-requires c = c.in-Err.ensures.cases.0 (stem-utf8 c.args.bytes.now c.requires)
