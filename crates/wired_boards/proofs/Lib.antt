pub mod Wirings
pub mod ApartUnits
pub mod UnitPins
