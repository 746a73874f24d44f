-- What each command comes to.
pub mod Migrate
pub mod List
pub mod Check
pub mod Sim
