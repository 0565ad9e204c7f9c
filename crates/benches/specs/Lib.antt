pub mod Spots
pub mod Laid
pub mod Heads
pub mod Turned
pub mod LaidLemmas
