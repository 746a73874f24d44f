use Rattle.std.proofs.Common.{ℕ, ◌≡◌, ◌<◌, length, Option, sym, subst, arith, rules}
use Rattle.std.specs.Option.{IfSome}
use Rattle.mig_base.specs.declared.kinds.Kind.{Kind}
use Rattle.new_board.specs.InputPins.{chip_from}
use Rattle.avail.proofs.CodeInputs.{chip-within}
use Rattle.avail.proofs.taking.Places.stood.Goals as goal

pub stood_on-requires : goal.stood_on-requires
stood_on-requires c =
    let chips = c.args.self.now.old.now.net.chips in
    let former : c.args.self.now.former ≡ chip_from 0 chips c.args.self.now.name.now = search rules in
    subst (λ (f : Option (ℕ × Kind)). IfSome f (λ old. old.0 < length chips)) (sym former) (chip-within 0 (length chips) chips c.args.self.now.name.now (omega arith))
