pub mod SpacedLines
