use Rattle.std.proofs.Common.{refl}
use Rattle.jed_text.proofs.FieldLemmas.{fields-body, fields-whole}
use Rattle.jed_text.proofs.body.Body.fields.Goals as goal

pub returns-in_default : goal.returns-in_default
returns-in_default c = fields-whole c.args.self.at c.args.self.text.now c.in_default.ensures.parts

pub returns : goal.returns
returns c = fields-body c.args.self.at _ c.args.self.text.now c.in-Some.design.now c.in-Some.rest.now c.in-Some.ensures.parts refl
