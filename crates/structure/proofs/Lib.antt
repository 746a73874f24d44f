pub mod Passing
pub mod Purities
pub mod Adding
pub mod NeededNodes
pub mod Wakings
pub mod Absorbings
pub mod Numbered
pub mod Sorting
