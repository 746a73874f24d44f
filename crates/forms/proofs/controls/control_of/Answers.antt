use Rattle.std.proofs.Common.{sym, ap, ◌∙◌, subst}
use Rattle.board.specs.Joined.{equations_of}
use Rattle.joiner.specs.Joined.{unit_part}
use Rattle.plans.specs.Forms.{Products, read_absorbed}
use Rattle.forms.specs.declared.absorbing.Cone.{Cone}
use Rattle.forms.specs.declared.controls.Control.{Control}
use Rattle.forms.specs.Cones.{IsCone}
use Rattle.forms.specs.Outcomes.{IsControlOf}
use Rattle.forms.proofs.CoveredLaws.{control-covered}
use Rattle.forms.proofs.controls.control_of.Goals as goal

pub returns : goal.returns
returns c =
    let b = c.args.absorbed.now.board.now in
    let absorbed = c.args.absorbed.now.units.now in
    let narrow = subst (λ (k : Cone). IsCone b absorbed (unit_part b c.args.unit c.args.part) k) c.in-Narrow.is c.in_ok-count.ensures in
    let reads = ap (λ (ps : Products). read_absorbed (equations_of b) absorbed ps) (sym (c.items.ensures ∙ c.in_ok-products.ensures)) ∙ sym c.is_read_by.ensures ∙ c.if-not-is_read_by.false in
    subst (λ (k : Control). IsControlOf b absorbed c.args.unit c.args.part k) (sym c.control_by.ensures)
    (control-covered b absorbed c.args.unit c.args.part c.in_ok-cover-in-Narrow.cover reads (c.in_ok-cover-in-Narrow.ensures.covered absorbed (unit_part b c.args.unit c.args.part) narrow))
