pub mod Searches
pub mod Logins
pub mod Feeding
