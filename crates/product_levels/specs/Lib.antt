pub mod PartLevels
