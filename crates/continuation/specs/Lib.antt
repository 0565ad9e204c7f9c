pub mod Views
pub mod Decoding
pub mod Programs
pub mod Machines
pub mod Beating
