pub mod Finding
pub mod Collecting
pub mod Appending
pub mod Tabling
pub mod Answering
pub mod Unique
pub mod Starting
