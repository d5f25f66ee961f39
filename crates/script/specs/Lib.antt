pub mod Reads
pub mod Words
pub mod Commands
pub mod Verbs
pub mod Forms
pub mod Parses
pub mod Answers
pub mod Numbers
