pub mod CodeNeeded
pub mod CodeSearch
pub mod CodeInputs
pub mod NeedLaws
