pub mod Steps
pub mod Reading
pub mod Saving
pub mod Preparing
pub mod Concluding
