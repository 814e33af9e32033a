pub mod Sweeps
pub mod Exchanges
pub mod Book
pub mod Calls
pub mod Runs
pub mod Theorems
