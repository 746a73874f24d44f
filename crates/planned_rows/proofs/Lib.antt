pub mod CoverPrimes
pub mod CoveredRows
pub mod FormRows
