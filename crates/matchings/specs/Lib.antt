pub mod Pairs
pub mod Matchings
pub mod Rounds
pub mod Edges
pub mod Clocks
pub mod Views
pub mod ByPort
