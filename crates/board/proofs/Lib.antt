pub mod ListSteps
pub mod GivenLaws
pub mod UnitLaws
pub mod PlaceLaws
pub mod AcceptedLaws
pub mod BoardLaws
pub mod NotRefused
pub mod DrivenLaws
