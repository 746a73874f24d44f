use Rattle.std.proofs.Common.{sym, subst}
use Rattle.mig_base.specs.declared.plans.Part.TheVariants as part
use Rattle.joiner.specs.Joined.{unit_part}
use Rattle.forms.specs.declared.absorbing.Cone.{Cone}
use Rattle.forms.specs.declared.logic.Form.{Form}
use Rattle.forms.specs.Cones.{IsCone}
use Rattle.forms.specs.Outcomes.{IsFormOf}
use Rattle.forms.proofs.CoveredLaws.{form-covered}
use Rattle.forms.proofs.logic.replaced_form.Goals as goal

pub returns-in_ok-covers-in-Narrow : goal.returns-in_ok-covers-in-Narrow
returns-in_ok-covers-in-Narrow c =
    let b = c.args.absorbed.now.board.now in
    let absorbed = c.args.absorbed.now.units.now in
    let narrow = subst (λ (k : Cone). IsCone b absorbed (unit_part b c.args.unit part.Logic) k) c.in-Narrow.is c.in_ok-count.ensures in
    subst (λ (f : Form). IsFormOf b absorbed c.args.unit c.args.room.now f) (sym c.form_by.ensures)
    (form-covered b absorbed c.args.unit c.args.room.now c.in_ok-covers-in-Narrow.covers c.requires.reads (c.in_ok-covers-in-Narrow.ensures absorbed c.args.unit narrow))
