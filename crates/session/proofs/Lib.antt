pub mod Printing
pub mod Stepping
pub mod Running
pub mod Filling
pub mod Named
pub mod Single
