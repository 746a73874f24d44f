pub mod CarriedPlans
