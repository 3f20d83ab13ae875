pub mod Grammar
pub mod Help
pub mod Laws
