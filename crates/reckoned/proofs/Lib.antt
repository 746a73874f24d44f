pub mod PortLaws
pub mod RegisterLaws
pub mod LevelLists
pub mod TripleLaws
pub mod BoardReckoned
