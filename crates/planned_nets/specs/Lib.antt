pub mod PlacedOnce
