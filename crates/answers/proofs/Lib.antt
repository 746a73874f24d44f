pub mod Cuts
pub mod CommandWords
pub mod Lines
pub mod Spaced
pub mod OwnReports
