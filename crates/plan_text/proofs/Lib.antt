pub mod PlanBytes
pub mod JudgedLines
pub mod NamedChips
pub mod GivenPlans
pub mod WrittenWords
pub mod PlanReadBack
