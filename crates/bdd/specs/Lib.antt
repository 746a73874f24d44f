pub mod Tree
pub mod TreeCode
pub mod Diagram
pub mod Steps
pub mod NodeTable
pub mod Graph
pub mod Moves
