pub mod CoverLemmas
pub mod SumLemmas
pub mod StepLemmas
pub mod ResultLemmas
pub mod UniqueLemmas
