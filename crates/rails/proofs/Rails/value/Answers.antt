use Rattle.std.proofs.Common.{sym, subst, arith, length}
use Rattle.rails.specs.Steps.{AreNumbered}
use Rattle.rails.proofs.RailLemmas.{all_numbered}
use Rattle.rails.proofs.PointLemmas.{levels_length}
use Rattle.rails.proofs.CallLemmas.{rails_seen}
use Rattle.rails.proofs.Rails.value.Goals as goal
use Rattle.rails.proofs.Rails.value.Goals.{After-as_slice-rails}

numbered : (c : After-as_slice-rails) → AreNumbered (length c.args.levels.now) c.as_slice-rails.result.now
numbered c =
    let vs = c.args.self.now.vars in
    let ls = c.args.levels.now in
    subst (AreNumbered (length ls))
    (sym (rails_seen c.self.inside c.args.self.now c.as_slice-rails.result.now c.self.invariant c.self.view_is c.as_slice-rails.ensures.value))
    (all_numbered vs (length ls) (omega (arith, levels_length vs ls c.requires.levels)))

pub holds_under-surely-requires-clause-numbered : goal.holds_under-surely-requires-clause-numbered
holds_under-surely-requires-clause-numbered c = numbered c

pub holds_under-maybe-requires-clause-numbered : goal.holds_under-maybe-requires-clause-numbered
holds_under-maybe-requires-clause-numbered c = numbered (goal.at.holds_under-maybe-requires-clause-numbered c).After-as_slice-rails
