use Rattle.std.proofs.Common.{◌++◌, ◌∷◌, [], List, ℕ, ap, ◌∙◌, arith}
use Rattle.std.proofs.Math.ListN.{set, get_or}
use Rattle.equations.proofs.DriverLemmas.{contents-push}
use Rattle.equations.proofs.driver_lists.DriverLists.add.Goals as goal

pub returns-in_ok-push : goal.returns-in_ok-push
returns-in_ok-push c =
    contents-push c.self.inside.lists.items c.args.net c.args.unit c.index_mut.result.now c.push.new.self (omega (arith, c.self.inside.lists.ok.0)) c.index_mut.ensures.value c.in_ok-push.ensures.items
    ∙ ap (λ (lists : List (List ℕ)). set lists c.args.net (get_or lists c.args.net [] ++ c.args.unit ∷ [])) c.self.view_is
