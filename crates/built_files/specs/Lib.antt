pub mod ReadBack
pub mod BoardFiles
