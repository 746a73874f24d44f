pub mod TableLemmas
pub mod Steps
pub mod PrivatePins
pub mod UnitsWithin
pub mod DriverLemmas
