pub mod Asked
pub mod Coming
pub mod Rest
pub mod Talk
pub mod Pages
pub mod Said
