pub mod Naming
pub mod Placing
pub mod RowParts
pub mod LiveSets
pub mod Example
