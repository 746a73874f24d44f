pub mod NamedLaws
pub mod BothLaws
pub mod SignLaws
pub mod SignLists
pub mod BothTests
pub mod Lent
