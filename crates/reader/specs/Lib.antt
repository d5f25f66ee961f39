pub mod Transcript
pub mod Standings
