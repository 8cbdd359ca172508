pub mod SectionFirstBytes
pub mod SectionTexts
pub mod Equality
pub mod Visits
pub mod PartNumbers
pub mod Memory
pub mod Dotted
