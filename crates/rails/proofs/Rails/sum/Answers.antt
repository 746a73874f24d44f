use Rattle.std.proofs.Common.{◌≡◌, subst, List, IfOk, Bool}
use Rattle.bdd.specs.Tree.{Point}
use Rattle.rails.specs.declared.Rail.{Rail}
use Rattle.rails.specs.Variables.{all_rails}
use Rattle.rails.specs.Points.{Is, sum_holds}
use Rattle.rails.specs.Levels.{sum_level}
use Rattle.rails.proofs.CallLemmas.{ok_from, rails_seen, fit_seen, rows_carried, is_monotone, is_valued}
use Rattle.rails.proofs.ValueLemmas.{sum_monotone, sum_valued}
use Rattle.rails.proofs.Rails.sum.Goals as goal
use Rattle.rails.proofs.Rails.sum.Goals.{After-as_slice, After-or_no_memory}

rails : (c : After-as_slice) → c.as_slice.result.now ≡ all_rails c.args.self.now.vars
rails c = rails_seen c.self.inside c.args.self.now c.as_slice.result.now c.self.invariant c.self.view_is c.as_slice.ensures.value

pub sum-requires-clause-fit : goal.sum-requires-clause-fit
sum-requires-clause-fit c = fit_seen c.self.inside c.args.self.now c.as_slice.result.now c.self.invariant c.self.view_is c.as_slice.ensures.value c.requires.fit

pub sum-requires-clause-carried : goal.sum-requires-clause-carried
sum-requires-clause-carried c = rows_carried c.args.self.now.vars c.as_slice.result.now c.args.rows.now (rails c) c.requires.listed

abbrev means : After-or_no_memory → Point → Bool
means c = sum_holds (all_rails c.args.self.now.vars) c.args.rows.now

made : (c : After-or_no_memory) → IfOk c.or_no_memory.result (Is c.sum.new.graph (means c))
made c =
    ok_from (Is c.sum.new.graph (means c)) c.or_no_memory.result c.sum.result c.or_no_memory.ensures
    (subst (λ (rs : List Rail). IfOk c.sum.result (Is c.sum.new.graph (sum_holds rs c.args.rows.now))) (rails (goal.at-After-or_no_memory c).After-as_slice) c.sum.ensures.sum)

pub returns-clause-sum : goal.returns-clause-sum
returns-clause-sum c = made c

pub returns-clause-monotone : goal.returns-clause-monotone
returns-clause-monotone c =
    is_monotone c.sum.new.graph (all_rails c.args.self.now.vars) (means c) c.or_no_memory.result (sum_monotone c.args.self.now.vars c.args.rows.now c.requires.listed) (made c)

pub returns-clause-level : goal.returns-clause-level
returns-clause-level c =
    is_valued c.sum.new.graph c.args.self.now.vars (means c) (λ levels. sum_level c.args.self.now.vars levels c.args.rows.now) c.or_no_memory.result
    (λ levels lawful. sum_valued c.args.self.now.vars levels lawful c.args.rows.now c.requires.listed) (made c)
