pub mod Rounding
pub mod Sets
pub mod Facts
