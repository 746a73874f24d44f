use Rattle.std.proofs.Common.{List, Option, ℕ, sym, subst}
use Rattle.joiner.specs.Joined.{unit_part}
use Rattle.joiner.specs.JoinedPart.{IsJoinRefusal}
use Rattle.joiner.specs.declared.JoinError.{JoinError}
use Rattle.joiner.specs.AbsorbedNets.{IsAbsorbedTable}
use Rattle.forms.proofs.CoverLaws.{cone-variables}
use Rattle.forms.proofs.absorbing.Absorbed.join.Goals as goal

pub returns-in-Ok : goal.returns-in-Ok
returns-in-Ok c =
    let table = subst (λ (ns : List (Option ℕ)). IsAbsorbedTable c.args.self.now.board.now c.args.self.now.units.now ns) (sym c.items.ensures) c.requires.table in
    let joined = c.in-Ok.ensures.joined c.args.self.now.units.now table in
    record {
      joined = joined;
      valid = c.in-Ok.ensures.valid;
      fit = c.in-Ok.ensures.fit;
      known = cone-variables c.args.self.now.board.now c.args.self.now.units.now c.args.unit c.args.part _ joined.cone;
    }

pub returns-in-Err-ConeWide : goal.returns-in-Err-ConeWide
returns-in-Err-ConeWide c =
    let table = subst (λ (ns : List (Option ℕ)). IsAbsorbedTable c.args.self.now.board.now c.args.self.now.units.now ns) (sym c.items.ensures) c.requires.table in
    subst (λ (e : JoinError). IsJoinRefusal c.args.self.now.board.now c.args.self.now.units.now (unit_part c.args.self.now.board.now c.args.unit c.args.part) e) c.in-Err-ConeWide.field-0-is
    (c.in-Err-ConeWide.ensures.refused c.args.self.now.units.now table)
