use Rattle.std.proofs.Common.{Bool, false, ap, ◌∙◌, take_all}
use Rattle.std.specs.List.{flat_map}
use Rattle.mig_base.specs.declared.nets.Var.{Var}
use Rattle.mig_base.specs.declared.nets.Var.TheVariants.{Net}
use Rattle.structure.proofs.NeededNodes.{among-at}
use Rattle.forms.specs.Cones.{literals_at}
use Rattle.forms.proofs.CoverLaws.{table-made}
use Rattle.forms.proofs.covers.table_of.Goals as goal

abbrev first : Var × Bool
first = (Net 0, false)

pub push_literals-requires : goal.push_literals-requires
push_literals-requires c = c.requires _ (among-at c.args.vars.now c.loop-var.var-index first c.loop-var-test.true)

pub returns : goal.returns
returns c =
    c.loop-var.invariant ∙ ap (flat_map (literals_at c.args.board.now)) (take_all c.loop-var.var-index c.args.vars.now c.loop-var-test.false) ∙ table-made c.args.board.now c.args.vars.now
