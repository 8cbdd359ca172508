pub mod Report
pub mod Plain
pub mod Devices
pub mod Ending
