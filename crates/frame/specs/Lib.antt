pub mod Numbers
pub mod Labels
pub mod Stacks
pub mod Frames
pub mod Words
