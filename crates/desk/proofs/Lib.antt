pub mod Passes
pub mod Tables
pub mod Withdrawals
pub mod Releasing
pub mod Activations
pub mod Clockings
pub mod Closings
pub mod Dues
pub mod Ladders
pub mod BestOffer
pub mod Collecting
pub mod Parting
pub mod Spreading
pub mod Concluding
pub mod RowPlaces
pub mod AddingRows
pub mod Settling
pub mod BestPlaces
pub mod RoundFacts
pub mod Underway
mod Desks
mod Reports
pub mod Placements
