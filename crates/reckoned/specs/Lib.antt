pub mod Variables
pub mod VariableTriples
pub mod Reckoned
