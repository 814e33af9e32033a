pub mod Tests
pub mod Completion
