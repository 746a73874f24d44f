pub mod PureLaws
pub mod PlaceLaws
pub mod LeafLaws
