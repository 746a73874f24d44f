use Rattle.std.proofs.Common.{ℕ, Bool, List, get_or, ap, ◌∙◌}
use Rattle.std.specs.Prelude.{Option, None}
use Rattle.structure.specs.Aliases.{alias_named}
use Rattle.board.specs.UnitLists.{register_units}
use Rattle.board.proofs.BoardLaws.{holds, alias-is}
use Rattle.board.proofs.Board.alias.Goals as goal

pub returns : goal.returns
returns c =
    let b = c.args.self.now in
    let h = holds c.self.invariant b c.self.view_is in
    let n = c.args.net in
    let e = c.by_unit.ensures in
    e
    ∙ ap (λ (xs : List (Option (ℕ × Bool))). alias_named c.items.result.now (get_or xs n None)) c.items-aliases.ensures
    ∙ ap (λ (units : List ℕ). alias_named units (get_or c.self.inside.structure.aliases n None)) (c.items.ensures ∙ h.tables.registers)
    ∙ ap (alias_named (register_units b.chips)) (alias-is b c.self.inside.structure n None h.structure c.requires)
