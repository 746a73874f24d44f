use Rattle.std.proofs.Common.{ap, sym, ◌∙◌}
use Rattle.mig_base.specs.FuseText as spec
use Rattle.jed_text.proofs.FieldLemmas.{pieces-some, pieces-none, loose-body}
use Rattle.jed_text.proofs.body.Body.loose.Goals as goal

pub returns-in-Some : goal.returns-in-Some
returns-in-Some c =
    let body = c.args.self in
    c.loose_from.ensures
    ∙ sym (ap (spec.loose_of body.at) (pieces-some body.text.now c.in-Some.design.now c.in-Some.rest.now c.in-Some.ensures.parts) ∙ loose-body body.at c.in-Some.design.now c.in-Some.rest.now)

pub returns-in-None : goal.returns-in-None
returns-in-None c = ap (spec.loose_of c.args.self.at) (sym (pieces-none c.args.self.text.now c.in-None.ensures.parts))
