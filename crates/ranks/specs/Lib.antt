pub mod Order
pub mod RankEquations
pub mod FirstLoop
pub mod Neighbours
pub mod Marked
pub mod Graphs
pub mod Ranking
pub mod Ways
