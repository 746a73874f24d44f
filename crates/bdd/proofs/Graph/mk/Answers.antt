use Rattle.bdd.proofs.MarkLemmas.{choice_mark, tree_of-mark}
use Rattle.bdd.proofs.Graph.mk.Goals as goal

pub returns-clause-choice : goal.returns-clause-choice
returns-clause-choice c =
    let old = c.args.self.now in
    let new = c.put.new.self in
    let mark = c.has_mark-mark.result in
    choice_mark mark old new c.args.v c.args.low c.args.high c.with_mark.result c.with_mark-2.result c.in_ok-r.r c.with_mark-3.result
    (tree_of-mark old.trees c.args.low c.with_mark.result mark c.with_mark.ensures.place c.with_mark.ensures.mark)
    (tree_of-mark old.trees c.args.high c.with_mark-2.result mark c.with_mark-2.ensures.place c.with_mark-2.ensures.mark)
    c.with_mark-3.ensures.place
    (tree_of-mark new.trees c.in_ok-r.r c.with_mark-3.result mark c.with_mark-3.ensures.place c.with_mark-3.ensures.mark)
    c.in_ok-r.ensures.choice
