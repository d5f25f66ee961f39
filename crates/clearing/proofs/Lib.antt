pub mod Choices
pub mod Seating
pub mod Drawn
