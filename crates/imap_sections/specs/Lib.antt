pub mod SectionValues
pub mod Sections
pub mod SectionTexts
pub mod Search
pub mod PartNumbers
