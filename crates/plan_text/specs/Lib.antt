pub mod PlanSize
pub mod PlanText
pub mod Statements
