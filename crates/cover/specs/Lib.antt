pub mod Cover
pub mod Sums
