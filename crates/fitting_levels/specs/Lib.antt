pub mod NodeValues
pub mod Fitting
pub mod Wired
