pub mod Links
pub mod Programs
pub mod Views
pub mod Frames
pub mod Machines
pub mod Keeping
pub mod Going
pub mod Stands
