pub mod CellsFit
pub mod MadeCells
