pub mod Ranges
pub mod Reading
pub mod Mapping
pub mod Rules
pub mod Validity
pub mod Histories
pub mod SetUps
