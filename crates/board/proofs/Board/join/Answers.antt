use Rattle.std.proofs.Common.{ℕ, List, length, map, sym, ap, subst, ◌∙◌}
use Rattle.mig_base.specs.declared.cells.ChipCells.{ChipCells}
use Rattle.mig_base.specs.declared.cells.Enable.TheVariants.{Always, Never}
use Rattle.mig_base.specs.declared.circuit.Circuit.{Circuit}
use Rattle.mig_base.specs.declared.circuit.Read.{Read}
use Rattle.mig_base.specs.Boards.{circuit}
use Rattle.mig_base.specs.Given.{IsGiven}
use Rattle.structure.specs.Derived.{IsStructure}
use Rattle.board.specs.Built.{IsBuilt, IsTables}
use Rattle.board.specs.UnitLists.{register_units}
use Rattle.structure.specs.Products.{var_by}
use Rattle.board.proofs.AcceptedLaws.{equations-few}
use Rattle.board.proofs.GivenLaws.{given-small}
use Rattle.board.proofs.BoardLaws.{equations-accepted}
use Rattle.std.proofs.Common.{refl}
use Rattle.board.proofs.Board.join.Goals as goal

pub check-requires-clause-nets : goal.check-requires-clause-nets
check-requires-clause-nets c =
    let small = given-small c.args.net c.args.chips.items c.requires in
    equations-few c.args.net c.as_slice.result.now c.in_ok-circuit.circuit c.in_ok-circuit.ensures.circuit small.nets small.lines

pub converted-requires : goal.converted-requires
converted-requires c = subst (IsGiven c.args.net) (sym c.as_slice.ensures.value) c.requires

pub invariant_of-result : goal.invariant_of-result
invariant_of-result c =
    let net = c.args.net in
    let tables = c.in_ok-circuit.tables in
    let ranks = c.in_ok-ranks.ranks in
    let equations = c.in_ok-circuit.ensures.circuit ∙ ap (circuit net) c.as_slice.ensures.value in
    let are : IsTables net c.args.chips.items tables = subst (λ (chips : List ChipCells). IsTables net chips tables) c.as_slice.ensures.value c.in_ok-circuit.ensures.tables in
    subst (λ (chips : List ChipCells). IsBuilt net chips c.in_ok-circuit.circuit ranks tables c.in_ok-by_rank.by_rank c.in_ok-structure.structure Always Never) (sym c.new.ensures) (record {
      given = c.requires;
      equations = equations;
      passed = c.in_ok-ranks.ensures.passed;
      tables = are;
      by_rank = c.in_ok-by_rank.ensures ∙ ap (λ (nodes : List Read). map (var_by c.items-2.result.now) nodes) c.items.ensures ∙ ap (λ (units : List ℕ). map (var_by units) ranks.order) (c.items-2.ensures ∙ are.registers);
      structure = subst (λ (d : Circuit). IsStructure d (register_units c.args.chips.items) c.in_ok-structure.structure) equations
          (subst (λ (units : List ℕ). IsStructure c.in_ok-circuit.circuit units c.in_ok-structure.structure) (c.items-3.ensures ∙ are.registers) c.in_ok-structure.ensures);
      enabled = refl;
      disabled = refl;
    })

pub returns-clause-accepted : goal.returns-clause-accepted
returns-clause-accepted c =
    equations-accepted c.args.net c.args.chips.items c.in_ok-circuit.circuit c.in_ok-ranks.ranks (c.in_ok-circuit.ensures.circuit ∙ ap (circuit c.args.net) c.as_slice.ensures.value) c.in_ok-ranks.ensures.passed
