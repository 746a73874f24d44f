pub mod Again
pub mod Gate
pub mod ReadingLemmas
pub mod V8Laws
