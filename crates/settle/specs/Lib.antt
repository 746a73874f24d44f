pub mod Rules
pub mod Edges
pub mod Following
pub mod Configs
pub mod Made
