pub mod AbsorbedNets
pub mod Joined
pub mod Marked
pub mod JoinedLevels
pub mod JoinedPart
pub mod Pairs
