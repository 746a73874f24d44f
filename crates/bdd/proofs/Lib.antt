pub mod TreeLemmas
pub mod Equality
pub mod TableLemmas
pub mod GraphLemmas
pub mod MarkLemmas
pub mod IteLemmas
pub mod MoveLemmas
pub mod PointLemmas
