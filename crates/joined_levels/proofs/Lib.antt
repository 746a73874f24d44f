pub mod Wirings
pub mod AbsorbedLevels
pub mod Fitting
pub mod SettledValues
