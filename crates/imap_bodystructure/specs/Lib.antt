pub mod Fields
pub mod Extensions
pub mod Bodies
pub mod Spanned
pub mod Kept
pub mod FieldTexts
pub mod ExtensionTexts
pub mod BodyTexts
