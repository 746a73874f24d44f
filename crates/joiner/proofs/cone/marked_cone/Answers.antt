use Rattle.std.proofs.Common.{◌∙◌, List, subst}
use Rattle.std.proofs.lemmas.Result.{IfOk-weaker}
use Rattle.mig_base.specs.Among.{Among}
use Rattle.mig_base.specs.declared.nets.Var.{Var}
use Rattle.joiner.specs.Marked.{ArePaired}
use Rattle.joiner.proofs.ConeLaws.{listed-variable}
use Rattle.joiner.proofs.cone.marked_cone.Goals as goal

pub with_purity-requires : goal.with_purity-requires
with_purity-requires c = λ v a.
    listed-variable c.args.board.now c.args.nets.now c.args.marks.now c.in_ok-variables.variables.items c.in_ok-variables.ensures v (subst (Among v) c.as_slice.ensures.value a)

pub returns : goal.returns
returns c =
    let b = c.args.board.now in
    IfOk-weaker c.with_purity.result (λ pairs. ArePaired b c.as_slice.result.now pairs.items) _
    (λ pairs paired. subst (λ (vs : List Var). ArePaired b vs pairs.items) (c.as_slice.ensures.value ∙ c.in_ok-variables.ensures) paired)
    c.with_purity.ensures
