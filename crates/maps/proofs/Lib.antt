pub mod Arrays
pub mod Euclid
