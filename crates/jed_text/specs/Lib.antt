pub mod Digits
pub mod Sayings
pub mod Bodies
pub mod Overalls
pub mod Marks
pub mod ReadAnswer
pub mod Transmissions
