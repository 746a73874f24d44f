use Rattle.std.proofs.Common.{◌≡◌, sym, subst, List, IfOk, Bool}
use Rattle.bdd.specs.Tree.{Point}
use Rattle.bdd.specs.Diagram.{function_of}
use Rattle.rails.specs.declared.Rail.{Rail}
use Rattle.rails.specs.Variables.{Held, all_rails}
use Rattle.rails.specs.Points.{Is, replacement}
use Rattle.rails.specs.Steps.{ArePaired, CanTake}
use Rattle.rails.specs.Levels.{value_under, with_level}
use Rattle.rails.proofs.RailLemmas.{all_paired}
use Rattle.rails.proofs.CallLemmas.{ok_from, rails_seen, fit_seen, is_monotone, is_valued}
use Rattle.rails.proofs.ValueLemmas.{replacement_monotone, replacement_valued, can_take}
use Rattle.rails.proofs.Rails.replace.Goals as goal
use Rattle.rails.proofs.Rails.replace.Goals.{After-as_slice, After-or_no_memory}

rails : (c : After-as_slice) → c.as_slice.result.now ≡ all_rails c.args.self.now.vars
rails c = rails_seen c.self.inside c.args.self.now c.as_slice.result.now c.self.invariant c.self.view_is c.as_slice.ensures.value

pub replaced-requires-clause-fit : goal.replaced-requires-clause-fit
replaced-requires-clause-fit c = fit_seen c.self.inside c.args.self.now c.as_slice.result.now c.self.invariant c.self.view_is c.as_slice.ensures.value c.requires.fit

pub replaced-requires-clause-paired : goal.replaced-requires-clause-paired
replaced-requires-clause-paired c = subst ArePaired (sym (rails c)) (all_paired c.args.self.now.vars)

abbrev before : After-or_no_memory → Point → Bool
before c = function_of c.args.self.now.graph c.args.f

abbrev put : After-or_no_memory → Point → Bool
put c = function_of c.args.self.now.graph c.args.g

abbrev means : After-or_no_memory → Point → Bool
means c = replacement (all_rails c.args.self.now.vars) (before c) c.args.v (put c)

taken : (c : After-or_no_memory) → CanTake (all_rails c.args.self.now.vars) c.args.v (put c)
taken c = can_take c.args.self.now.vars c.args.v (put c) c.requires.pure

made : (c : After-or_no_memory) → IfOk c.or_no_memory.result (Is c.replaced.new.graph (means c))
made c =
    ok_from (Is c.replaced.new.graph (means c)) c.or_no_memory.result c.replaced.result c.or_no_memory.ensures
    (subst (λ (rs : List Rail). IfOk c.replaced.result (Is c.replaced.new.graph (replacement rs (before c) c.args.v (put c)))) (rails (goal.at-After-or_no_memory c).After-as_slice)
    (subst (λ (h : Held). IfOk c.replaced.result (Is c.replaced.new.graph (replacement c.as_slice.result.now (function_of h.graph c.args.f) c.args.v (function_of h.graph c.args.g)))) c.self.view_is c.replaced.ensures.replacement))

pub returns-clause-replacement : goal.returns-clause-replacement
returns-clause-replacement c = made c

pub returns-clause-monotone : goal.returns-clause-monotone
returns-clause-monotone c =
    is_monotone c.replaced.new.graph (all_rails c.args.self.now.vars) (means c) c.or_no_memory.result
    (replacement_monotone (all_rails c.args.self.now.vars) (all_paired c.args.self.now.vars) (before c) c.args.v (put c) c.requires.proper.monotone c.requires.proper_g.monotone (taken c)) (made c)

pub returns-clause-level : goal.returns-clause-level
returns-clause-level c =
    is_valued c.replaced.new.graph c.args.self.now.vars (means c) (λ levels. value_under (all_rails c.args.self.now.vars) (before c) (with_level c.args.self.now.vars levels c.args.v (value_under (all_rails c.args.self.now.vars) (put c) levels))) c.or_no_memory.result
    (λ levels lawful. replacement_valued c.args.self.now.vars levels lawful (before c) c.args.v (put c) c.requires.proper_g.monotone (taken c)) (made c)
