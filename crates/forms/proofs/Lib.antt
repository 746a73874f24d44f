pub mod AttemptLaws
pub mod CoverLaws
pub mod TableLaws
pub mod WideLaws
pub mod CoveredLaws
