use Rattle.std.proofs.Common.{ap, ◌∙◌, Option}
use Rattle.mig_base.specs.declared.kinds.Kind.{Kind}
use Rattle.mig_base.specs.declared.kinds.Mode.{Mode}
use Rattle.plan_text.specs.PlanText.{chip_in, gal_named}
use Rattle.plan_text.proofs.NamedChips.{named-chip}
use Rattle.plan_text.proofs.says.chip_with_mode.Goals as goal

pub returns-in-Some : goal.returns-in-Some
returns-in-Some c =
    c.chip_in.ensures ∙ ap (λ (k : Option Kind). chip_in c.in-Some.name k c.mode_named.result) c.gal_named.ensures
    ∙ ap (λ (m : Option Mode). chip_in c.in-Some.name (gal_named c.args.kind.now) m) c.mode_named.ensures
    ∙ named-chip c.args.name.now c.in-Some.name _ _ c.in-Some.ensures
