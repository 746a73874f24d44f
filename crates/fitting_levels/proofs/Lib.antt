pub mod ByLevels
pub mod Fitting
