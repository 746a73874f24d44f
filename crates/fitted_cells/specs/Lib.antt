pub mod FittedCells
