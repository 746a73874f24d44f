pub mod Handed
pub mod ClassLevels
pub mod Leaders
pub mod PairLaws
