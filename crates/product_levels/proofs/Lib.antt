pub mod SameProducts
pub mod AliasLevels
pub mod ProductLevels
