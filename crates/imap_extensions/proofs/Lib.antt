pub mod Quotas
pub mod Ids
pub mod Acls
mod AclWants
pub mod QuotaTexts
pub mod IdTexts
pub mod VanishingTexts
pub mod AclTexts
pub mod OptionalRights
pub mod Takes
pub mod IdPairs
pub mod NoParams
pub mod Marks
