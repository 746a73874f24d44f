pub mod Resolving
pub mod Keeping
pub mod Ranks
