use Rattle.forms.proofs.CoverLaws.{cover-some}
use Rattle.forms.proofs.covers.terms_of.Goals as goal

pub returns-in-Ok-clause-cover : goal.returns-in-Ok-clause-cover
returns-in-Ok-clause-cover c =
    cover-some c.function_covered.new.rails.graph c.graph.result.now _ _ _ c.graph.ensures.graph c.in_ok-f.ensures.covered c.in-Ok.ensures.cover c.in-Ok.ensures.few
