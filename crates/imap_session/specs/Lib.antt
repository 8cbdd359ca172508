pub mod Tags
pub mod States
pub mod Machine
pub mod Runs
pub mod Seen
pub mod Answers
