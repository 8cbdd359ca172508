pub mod Seeing
pub mod Levels
pub mod Reading
pub mod FieldTexts
pub mod ExtensionTexts
pub mod BodyTexts
pub mod FirstBytes
pub mod Choosing
