pub mod Parts
pub mod Bases
pub mod Piles
pub mod Bounds
pub mod PileClearingLemmas
