pub mod GalFuses
pub mod MoreFiles
