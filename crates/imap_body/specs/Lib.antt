pub mod AttributeTexts
pub mod AttributeValues
pub mod Attributes
pub mod Changed
pub mod NoSpelling
pub mod Reading
pub mod SpannedAttributes
pub mod Unescaped
