pub mod Replies
pub mod Totals
pub mod Obeyed
pub mod Lines
