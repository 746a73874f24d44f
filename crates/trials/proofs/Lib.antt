pub mod NamedLevels
pub mod OnWay
pub mod FirstOnes
pub mod TrialLaws
pub mod Replays
pub mod MoreSteps
pub mod HandedOver
pub mod OneFirst
