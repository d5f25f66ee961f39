pub mod Bounds
pub mod Mapped
