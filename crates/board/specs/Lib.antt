pub mod Joined
pub mod NodeNames
pub mod UnitLists
pub mod Variables
pub mod Enables
pub mod Refusals
pub mod Built
pub mod Driven
