pub mod OldParts
pub mod Cones
pub mod Attempts
pub mod Outcomes
