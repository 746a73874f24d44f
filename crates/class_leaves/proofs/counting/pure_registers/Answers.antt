use Rattle.std.proofs.Common.{List, Bool, ◌++◌, ◌∙◌, ap, subst, sym}
use Rattle.class_leaves.specs.Pures.{ArePures}
use Rattle.class_leaves.proofs.PureLaws.{both-pures}
use Rattle.class_leaves.proofs.counting.pure_registers.Goals as goal

pub returns : goal.returns
returns c =
    subst (λ (ps : List Bool). ArePures c.args.a.now c.args.b.now ps)
    (sym (c.in_ok-extend_from_slice.ensures.items ∙ ap (λ (ps : List Bool). c.in_ok-pures.pures.items ++ ps) c.as_slice.ensures.value))
    (both-pures c.args.a.now c.args.b.now c.in_ok-pures.pures.items c.in_ok-others.others.items c.in_ok-pures.ensures c.in_ok-others.ensures)
