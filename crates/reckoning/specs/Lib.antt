pub mod Triples
pub mod Tables
pub mod Steps
pub mod Reached
pub mod Made
pub mod Whole
