pub mod Messages
pub mod Parts
pub mod Sessions
