use Rattle.std.proofs.Common.{◌≡◌, ◌<◌, List, Bool, length, refl, sym, ap, ◌∙◌, subst}
use Rattle.mig_base.specs.declared.nets.Var.{Var}
use Rattle.mig_base.specs.declared.circuit.Wire.{Wire}
use Rattle.mig_base.specs.declared.circuit.Circuit.{Circuit}
use Rattle.board.specs.Joined.{equations_of}
use Rattle.board.specs.UnitLists.{register_units}
use Rattle.board.proofs.AcceptedLaws.{nets-few}
use Rattle.joiner.proofs.Listing.{pairs-rise}
use Rattle.joiner.proofs.PairLaws.{fit_kept}
use Rattle.reckoned.specs.Variables.{AreVariables, IsExtended, port_variables}
use Rattle.reckoned.specs.Reckoned.{SaySettled}
use Rattle.reckoned.proofs.RegisterLaws.{all-rise, variables-few}
use Rattle.reckoned.proofs.reckon.Goals as goal
use Rattle.reckoned.proofs.reckon.Goals.{After-items, In_ok-push_registers}

pub port_variables-requires : goal.port_variables-requires
port_variables-requires c =
    let b = c.args.b.now in
    let given = c.net-wiring.ensures.given in
    subst (λ (ws : List Wire). length ws < 4294967296) (sym (c.items.ensures ∙ ap (λ (k : Circuit). k.nets) c.circuit.ensures.circuit)) (nets-few b.net b.chips given.wiring.few_nets given.wiring.few_chips)

-- the variables are those of the board
abbrev variables : (c : In_ok-push_registers) → AreVariables c.args.b.now c.push_registers.new.vars.items
variables c = subst (λ (old : List (Var × Bool)). IsExtended c.args.b.now (register_units c.args.b.now.chips) old c.push_registers.new.vars.items)
    (c.in_ok-vars.ensures ∙ ap (port_variables 0) (c.items.ensures ∙ ap (λ (k : Circuit). k.nets) c.circuit.ensures.circuit)) c.in_ok-push_registers.ensures

pub new-requires-clause-rising : goal.new-requires-clause-rising
new-requires-clause-rising c =
    let b = c.args.b.now in
    pairs-rise c.push_registers.new.vars.items (all-rise b (port_variables 0 (equations_of b).nets) c.push_registers.new.vars.items refl (variables c))

pub new-requires-clause-few : goal.new-requires-clause-few
new-requires-clause-few c = variables-few c.args.b.now c.push_registers.new.vars.items c.net-wiring.ensures.given (variables c)

pub returns : goal.returns
returns c =
    let b = c.args.b.now in
    let old = c.in_ok-rails.rails in
    let new = c.over_rails.new.rails in
    let same : new.vars ≡ c.push_registers.new.vars.items = c.in_ok-triples.ensures.vars ∙ c.in_ok-rails.ensures.vars in
    record {
      variables = subst (AreVariables b) (sym same) (variables (goal.at.returns c).In_ok-push_registers);
      fit = fit_kept old new c.in_ok-triples.ensures.vars c.in_ok-triples.ensures.keeps c.in_ok-rails.ensures.fit;
      canonical = c.in_ok-triples.ensures.canonical;
      triples = c.in_ok-triples.ensures.triples;
      says = subst (λ (vs : List (Var × Bool)). SaySettled b vs new.graph c.in_ok-triples.triples) (sym c.in_ok-triples.ensures.vars) c.in_ok-triples.ensures.says;
    }
