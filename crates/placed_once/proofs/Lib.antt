pub mod LinesApart
pub mod NeverRows
pub mod PlacedApart
