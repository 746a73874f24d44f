pub mod CodeColumns
