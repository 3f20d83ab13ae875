pub mod Targets
pub mod RoutePaths
pub mod Routed
pub mod Seek
pub mod Utf8
