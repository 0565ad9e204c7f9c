pub mod Playing
pub mod Performing
