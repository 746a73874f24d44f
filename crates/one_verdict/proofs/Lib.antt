pub mod OneRefusal
pub mod OnePlan
pub mod OneOutcome
