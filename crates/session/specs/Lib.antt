pub mod Played
pub mod Playing
pub mod Worked
