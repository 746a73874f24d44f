pub mod Pures
pub mod ClassLeaves
pub mod PairsAt
pub mod LeafTriples
