pub mod PartLemmas
pub mod FuseTextLaws
pub mod WrittenFusesLaws
pub mod WrittenKinds
pub mod FuseCount
