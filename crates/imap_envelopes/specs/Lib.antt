pub mod Envelopes
pub mod Spanned
pub mod Keeping
pub mod Reading
pub mod EnvelopeTexts
