use Rattle.planned_parts.proofs.Owners.{owner, owner-has}
use Rattle.planned_parts.proofs.registers_have_owners.Goals as goal

pub returns : goal.returns
returns c = λ b given. ((λ k. owner b given k), (λ k low. owner-has b given k low))
