pub mod NewNumbers
