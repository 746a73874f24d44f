pub mod RowLemmas
pub mod RowLaws
pub mod MacrocellLaws
pub mod ReadRows
pub mod V22Tables
mod OrdinaryPins
