pub mod KeptFew
pub mod KeptLines
pub mod WiredPins
pub mod WrittenWiring
