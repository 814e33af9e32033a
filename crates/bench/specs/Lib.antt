pub mod Log
pub mod Bench
