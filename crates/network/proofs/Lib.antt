pub mod Citing
pub mod Deals
pub mod Messages
pub mod Arrivals
pub mod Doing
pub mod Polls
pub mod Tells
pub mod Starts
