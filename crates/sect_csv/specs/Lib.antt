pub mod Inside
pub mod Intake
pub mod Kept
pub mod Lines
pub mod Rows
pub mod Fields
pub mod Sheet
pub mod Tables
