pub mod Ways
pub mod Measures
pub mod Figures
pub mod Least
pub mod Taken
pub mod Sums
pub mod Paths
pub mod Progress
