pub mod NewWirings
