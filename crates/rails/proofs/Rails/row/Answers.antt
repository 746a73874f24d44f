use Rattle.std.proofs.Common.{◌≡◌, subst, List, IfOk, Bool}
use Rattle.bdd.specs.Tree.{Point}
use Rattle.rails.specs.declared.Rail.{Rail}
use Rattle.rails.specs.Variables.{all_rails}
use Rattle.rails.specs.Points.{Is, row_holds}
use Rattle.rails.specs.Levels.{row_level}
use Rattle.rails.proofs.CallLemmas.{ok_from, rails_seen, fit_seen, carried, is_monotone, is_valued}
use Rattle.rails.proofs.ValueLemmas.{row_monotone, row_valued}
use Rattle.rails.proofs.Rails.row.Goals as goal
use Rattle.rails.proofs.Rails.row.Goals.{After-as_slice, After-or_no_memory}

rails : (c : After-as_slice) → c.as_slice.result.now ≡ all_rails c.args.self.now.vars
rails c = rails_seen c.self.inside c.args.self.now c.as_slice.result.now c.self.invariant c.self.view_is c.as_slice.ensures.value

pub row-requires-clause-fit : goal.row-requires-clause-fit
row-requires-clause-fit c = fit_seen c.self.inside c.args.self.now c.as_slice.result.now c.self.invariant c.self.view_is c.as_slice.ensures.value c.requires.fit

pub row-requires-clause-carried : goal.row-requires-clause-carried
row-requires-clause-carried c = carried c.args.self.now.vars c.as_slice.result.now c.args.lits.now (rails c) c.requires.listed

abbrev means : After-or_no_memory → Point → Bool
means c = row_holds (all_rails c.args.self.now.vars) c.args.lits.now

made : (c : After-or_no_memory) → IfOk c.or_no_memory.result (Is c.row.new.graph (means c))
made c =
    ok_from (Is c.row.new.graph (means c)) c.or_no_memory.result c.row.result c.or_no_memory.ensures
    (subst (λ (rs : List Rail). IfOk c.row.result (Is c.row.new.graph (row_holds rs c.args.lits.now))) (rails (goal.at-After-or_no_memory c).After-as_slice) c.row.ensures.row)

pub returns-clause-row : goal.returns-clause-row
returns-clause-row c = made c

pub returns-clause-monotone : goal.returns-clause-monotone
returns-clause-monotone c =
    is_monotone c.row.new.graph (all_rails c.args.self.now.vars) (means c) c.or_no_memory.result (row_monotone c.args.self.now.vars c.args.lits.now c.requires.listed) (made c)

pub returns-clause-level : goal.returns-clause-level
returns-clause-level c =
    is_valued c.row.new.graph c.args.self.now.vars (means c) (λ levels. row_level c.args.self.now.vars levels c.args.lits.now) c.or_no_memory.result
    (λ levels lawful. row_valued c.args.self.now.vars levels lawful c.args.lits.now c.requires.listed) (made c)
