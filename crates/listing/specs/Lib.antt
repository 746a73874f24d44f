pub mod ListedChip
pub mod SpacedWords
