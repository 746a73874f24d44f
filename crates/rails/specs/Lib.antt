pub mod Variables
pub mod Points
pub mod Steps
pub mod Levels
pub mod Compose
pub mod Inside
