pub mod Columns
pub mod Sources
pub mod GivenNodes
