pub mod BuiltTexts
pub mod PlanBuilt
