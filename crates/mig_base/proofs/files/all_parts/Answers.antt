use Rattle.mig_base.proofs.TextLemmas.{goes_on-parts}
use Rattle.mig_base.proofs.files.all_parts.Goals as goal

pub loop-byte-init : goal.loop-byte-init
loop-byte-init c = (goes_on-parts c.args.text.now).0
