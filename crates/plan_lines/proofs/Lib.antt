pub mod FirstSteps
pub mod Names
pub mod RuleSteps
pub mod PlacedSteps
