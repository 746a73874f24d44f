pub mod CarriedClasses
