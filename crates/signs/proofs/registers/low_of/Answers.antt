use Rattle.std.proofs.Common.{ℕ, List, Option, sym, ap, ◌∙◌}
use Rattle.signs.specs.Signs.{waits}
use Rattle.signs.proofs.registers.low_of.Goals as goal

pub returns-in-Some-clause-says : goal.returns-in-Some-clause-says
returns-in-Some-clause-says c = λ p h say. (c.named_triple.ensures.says p h say).zero ∙ ap (λ (o : Option (List ℕ)). waits o h) (sym c.in-Some.is)
