pub mod PlanBuilt
