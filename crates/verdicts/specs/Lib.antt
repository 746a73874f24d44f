pub mod HeldBoard
pub mod Outcomes
pub mod JudgedBoard
pub mod commands
pub mod Verdict
pub mod Answer
pub mod Clauses
pub mod Laws
