use Rattle.std.proofs.Common.{inl, inr}
use Rattle.plans.proofs.a_breach_or_none.Goals as goal

pub returns-clause-one : goal.returns-clause-one
returns-clause-one c b p neither = neither (inr (λ x h. neither (inl (x, h))))

pub returns-clause-not_both : goal.returns-clause-not_both
returns-clause-not_both c b p some none = none some.0 some.1
