pub mod PinNets
pub mod NewUnits
pub mod SeenRows
