pub mod Naming
pub mod FirstBytes
pub mod Gathering
pub mod Keeping
pub mod EnvelopeTexts
