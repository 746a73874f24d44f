pub mod Settled
pub mod Runs
pub mod SameBehaviour
pub mod Follows
pub mod PureLevels
pub mod VariableLevels
