pub mod Numbers
pub mod Strings
pub mod Texts
pub mod Sets
pub mod Places
