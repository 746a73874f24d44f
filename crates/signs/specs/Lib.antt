pub mod Named
pub mod Both
pub mod Signs
