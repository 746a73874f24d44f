use Rattle.std.proofs.Common.{[], ◌∷◌, sym, subst}
use Rattle.ranks.specs.declared.marks.Marks.{Marks}
use Rattle.ranks.specs.Ways.{IsReached}
use Rattle.ranks.proofs.Reaching.{reached-one}
use Rattle.ranks.proofs.distances.reach.Goals as goal

pub returns-in_ok-push : goal.returns-in_ok-push
returns-in_ok-push c =
    subst (λ (m : Marks). IsReached (c.args.node ∷ []) c.args.steps c.args.ways.now c.args.next.now.items m c.push.new.self.items) (sym c.set.ensures)
    (reached-one c.args.node c.args.steps c.args.ways.now c.args.next.now.items c.push.new.self.items (c.waits.ensures.yes c.if-waits.true) c.in_ok-push.ensures.items)
