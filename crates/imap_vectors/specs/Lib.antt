pub mod CanonicalRows
