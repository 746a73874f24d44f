pub mod Firsts
pub mod Cones
pub mod FormLaws
pub mod BreachLaws
