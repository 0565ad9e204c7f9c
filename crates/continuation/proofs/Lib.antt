pub mod Coding
pub mod Programs
pub mod Rules
pub mod Beating
