pub mod Exits
pub mod Commands
pub mod Reasons
pub mod BreachLines
pub mod Reports
