use Rattle.std.proofs.Common.{refl}
use Rattle.fit.proofs.PlacedLaws.{part-there, first-parts}
use Rattle.fit.proofs.breaks.Reckoned.first_parts.Goals as goal

pub parts_at-requires : goal.parts_at-requires
parts_at-requires c =
    part-there c.args.self.now.placed.now.board.now c.args.self.now.placed.now.plan.now c.args.self.now.placed.now.units.now c.args.self.now.placed.now.units.now c.args.self.now.parts.now c.in_ok-first.first refl
    c.args.self.now.placed.now.are c.requires c.in_ok-first.ensures.within

pub returns : goal.returns
returns c =
    first-parts c.args.self.now.placed.now.board.now c.args.self.now.placed.now.plan.now c.args.unit.now c.args.self.now.placed.now.units.now c.args.self.now.parts.now c.in_ok-first.first c.parts_at.result.now
    c.args.self.now.placed.now.are c.requires c.in_ok-first.ensures.within c.in_ok-first.ensures.first c.parts_at.ensures
