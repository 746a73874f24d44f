pub mod Answers
pub mod UnitAnswers
pub mod Parts
pub mod RuleLists
pub mod Rows
pub mod NewChips
pub mod FullRows
pub mod ChipAnswers
