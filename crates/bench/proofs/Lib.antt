pub mod Walks
pub mod Judging
pub mod Reading
pub mod Acting
pub mod Exchanging
pub mod Climbing
