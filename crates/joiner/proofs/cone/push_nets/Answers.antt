use Rattle.std.proofs.Common.{◌∙◌, ◌++◌, List, filter, sym, ap}
use Rattle.mig_base.specs.First.{made_from}
use Rattle.mig_base.specs.declared.nets.Var.{Var}
use Rattle.mig_base.specs.declared.nets.Var.TheVariants.{Net}
use Rattle.joiner.specs.Marked.{is_named}
use Rattle.joiner.proofs.Listing.{passes, fails, one-more_net}
use Rattle.joiner.proofs.cone.push_nets.Goals as goal
use Rattle.joiner.proofs.cone.push_nets.Goals.{then-is_named+in_ok-push, else-is_named}

pub loop-net-preserved : goal.loop-net-preserved
loop-net-preserved c =
    let p = is_named c.args.nets.now c.args.marks.now in
    let n = c.loop-net.net in
    let old = c.args.variables.now.items in
    let more = ap (λ (vs : List Var). old ++ filter p vs) (one-more_net n) in
    elim c.if-is_named.branch [
      | then-is_named+in_ok-push w ↦ ap (λ v. v.items) w.variables-is ∙ w.in_ok-push.ensures.items ∙ passes p old c.loop-net.variables.items (made_from Net 0 n) (Net n) (sym c.is_named.ensures ∙ w.if-is_named.true) c.loop-net.invariant ∙ more
      | else-is_named w ↦ ap (λ v. v.items) w.variables-is ∙ fails p old c.loop-net.variables.items (made_from Net 0 n) (Net n) (sym c.is_named.ensures ∙ w.if-is_named.false) c.loop-net.invariant ∙ more
    ]
