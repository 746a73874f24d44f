pub mod Putting
pub mod Adding
pub mod Flags
