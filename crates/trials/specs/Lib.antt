pub mod Trials
pub mod Places
pub mod Differences
pub mod Stepping
