use Rattle.avail.proofs.CodeNeeded.{adds-product}
use Rattle.avail.proofs.needed.push_product.Goals as goal

pub returns : goal.returns
returns c = adds-product c.args.lits.now _ _ c.in_ok-push_sources.ensures
