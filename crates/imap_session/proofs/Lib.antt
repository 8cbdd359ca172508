pub mod Runs
pub mod Fronts
pub mod Answers
pub mod Equality
pub mod Skipping
