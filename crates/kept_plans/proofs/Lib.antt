pub mod StayingRows
pub mod PlacedRows
pub mod ControlRows
pub mod FirstUnits
pub mod SharedRules
pub mod SharedChips
pub mod LiveUnits
pub mod KeptChips
