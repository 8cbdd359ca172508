pub mod Numbers
pub mod Answers
pub mod Cursors
pub mod Texts
pub mod Json
pub mod Commands
