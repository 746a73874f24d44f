use Rattle.std.proofs.Common.{◌≡◌, sym, subst, List, IfOk, Bool}
use Rattle.bdd.specs.Tree.{Point}
use Rattle.bdd.specs.Diagram.{function_of}
use Rattle.mig_base.specs.Levels.{not3}
use Rattle.rails.specs.declared.Rail.{Rail}
use Rattle.rails.specs.Variables.{Held, all_rails}
use Rattle.rails.specs.Points.{Is, inverse}
use Rattle.rails.specs.Steps.{ArePaired}
use Rattle.rails.specs.Levels.{value_under}
use Rattle.rails.proofs.RailLemmas.{all_paired}
use Rattle.rails.proofs.CallLemmas.{ok_from, rails_seen, fit_seen, is_monotone, is_valued}
use Rattle.rails.proofs.ValueLemmas.{inverse_monotone, inverse_valued}
use Rattle.rails.proofs.Rails.invert.Goals as goal
use Rattle.rails.proofs.Rails.invert.Goals.{After-as_slice, After-or_no_memory}

rails : (c : After-as_slice) → c.as_slice.result.now ≡ all_rails c.args.self.now.vars
rails c = rails_seen c.self.inside c.args.self.now c.as_slice.result.now c.self.invariant c.self.view_is c.as_slice.ensures.value

pub inverted-requires-clause-fit : goal.inverted-requires-clause-fit
inverted-requires-clause-fit c = fit_seen c.self.inside c.args.self.now c.as_slice.result.now c.self.invariant c.self.view_is c.as_slice.ensures.value c.requires.fit

pub inverted-requires-clause-paired : goal.inverted-requires-clause-paired
inverted-requires-clause-paired c = subst ArePaired (sym (rails c)) (all_paired c.args.self.now.vars)

abbrev before : After-or_no_memory → Point → Bool
before c = function_of c.args.self.now.graph c.args.f

abbrev means : After-or_no_memory → Point → Bool
means c = inverse (all_rails c.args.self.now.vars) (before c)

made : (c : After-or_no_memory) → IfOk c.or_no_memory.result (Is c.inverted.new.graph (means c))
made c =
    ok_from (Is c.inverted.new.graph (means c)) c.or_no_memory.result c.inverted.result c.or_no_memory.ensures
    (subst (λ (rs : List Rail). IfOk c.inverted.result (Is c.inverted.new.graph (inverse rs (before c)))) (rails (goal.at-After-or_no_memory c).After-as_slice)
    (subst (λ (h : Held). IfOk c.inverted.result (Is c.inverted.new.graph (inverse c.as_slice.result.now (function_of h.graph c.args.f)))) c.self.view_is c.inverted.ensures.inverse))

pub returns-clause-inverse : goal.returns-clause-inverse
returns-clause-inverse c = made c

pub returns-clause-monotone : goal.returns-clause-monotone
returns-clause-monotone c =
    is_monotone c.inverted.new.graph (all_rails c.args.self.now.vars) (means c) c.or_no_memory.result
    (inverse_monotone (all_rails c.args.self.now.vars) (all_paired c.args.self.now.vars) (before c) c.requires.proper.monotone) (made c)

pub returns-clause-level : goal.returns-clause-level
returns-clause-level c =
    is_valued c.inverted.new.graph c.args.self.now.vars (means c) (λ levels. not3 (value_under (all_rails c.args.self.now.vars) (before c) levels)) c.or_no_memory.result
    (λ levels lawful. inverse_valued c.args.self.now.vars levels lawful (before c) c.requires.proper.monotone) (made c)
