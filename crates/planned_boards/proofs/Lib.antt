pub mod NewRows
pub mod CombUnits
pub mod RegUnits
pub mod SharedRows
pub mod EnableRows
pub mod EnablePins
pub mod PinUnits
