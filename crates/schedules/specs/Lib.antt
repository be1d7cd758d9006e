pub mod Timetables
pub mod Dispatch
pub mod Greedy
pub mod Rule
pub mod Theorems
