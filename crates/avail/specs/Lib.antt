pub mod KeptBoard
pub mod Needed
pub mod ServedVariables
pub mod Needs
