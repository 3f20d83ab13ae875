pub mod Audit
pub mod Audited
pub mod Told
pub mod Views
