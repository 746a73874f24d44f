pub mod PrimeLemmas
pub mod ListLemmas
pub mod ChoiceLemmas
pub mod TermLemmas
pub mod SearchLemmas
pub mod ResultLemmas
pub mod UniqueLemmas
