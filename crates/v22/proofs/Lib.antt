pub mod V22Cells
pub mod V22Layout
pub mod V22Laws
pub mod ReadingLemmas
pub mod Registers
