pub mod Codes
pub mod Names
pub mod MailboxData
pub mod CodeTexts
pub mod NameTexts
pub mod AnnotationTexts
pub mod MailboxDataTexts
pub mod Rules
pub mod FirstBytes
mod SecondBytes
pub mod Takes
pub mod ListCodes
pub mod NumberData
pub mod Marks
mod AnyCase
mod Wants
mod NoSpelling
mod NoIdSpelling
pub mod OneText
pub mod Annotations
