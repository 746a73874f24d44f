use Rattle.std.proofs.Common.{List, sym, subst, arith}
use Rattle.std.proofs.lemmas.List.{length-map}
use Rattle.std.proofs.Math.ListN.{set}
use Rattle.mig_base.specs.declared.circuit.Read.{Read}
use Rattle.ranks.specs.Neighbours.{IsPut}
use Rattle.ranks.proofs.Putting.{contents, contents-push, put-appended}
use Rattle.ranks.proofs.lists.Lists.put.Goals as goal

pub returns-in_ok-push : goal.returns-in_ok-push
returns-in_ok-push c =
    let lists = c.self.inside.lists.items in
    subst (λ (old : List (List Read)). IsPut old c.args.place c.args.node (contents (set lists c.args.place c.push.new.self))) c.self.view_is
    (subst (IsPut (contents lists) c.args.place c.args.node)
    (sym (contents-push lists c.args.place c.args.node c.index_mut.result.now c.push.new.self (omega (arith, c.self.inside.lists.ok.0)) c.index_mut.ensures.value c.in_ok-push.ensures.items))
    (put-appended (contents lists) c.args.place c.args.node (omega (arith, length-map lists (λ list. list.items), c.if-place-len.true, c.self.inside.lists.ok.0))))
