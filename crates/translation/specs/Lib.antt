pub mod Addressing
pub mod Layouts
pub mod Buffers
pub mod Numbers
pub mod Answers
