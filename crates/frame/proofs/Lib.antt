pub mod Down
pub mod Pushing
