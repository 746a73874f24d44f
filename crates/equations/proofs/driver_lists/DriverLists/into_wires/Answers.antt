use Rattle.std.proofs.Common.{map, ap, ◌∙◌, List, ℕ}
use Rattle.std.specs.List.{zip}
use Rattle.equations.specs.Tables.{wire_of}
use Rattle.equations.proofs.DriverLemmas.{contents-zip}
use Rattle.equations.proofs.driver_lists.DriverLists.into_wires.Goals as goal

pub returns : goal.returns
returns c =
    c.in_ok-wires.ensures ∙ contents-zip c.args.kinds.items c.self.inside.lists.items
    ∙ ap (λ (lists : List (List ℕ)). map wire_of (zip c.args.kinds.items lists)) c.self.view_is
