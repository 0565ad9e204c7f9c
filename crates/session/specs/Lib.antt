pub mod Answering
pub mod Events
pub mod Plays
pub mod Lines
pub mod Performs
pub mod BothPerforms
