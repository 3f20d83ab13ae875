pub mod Serving
pub mod Talks
pub mod Working
pub mod Printed
