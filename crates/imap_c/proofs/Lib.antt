pub mod Moving
pub mod Telling
pub mod Making
