pub mod Tagging
mod Readings
pub mod Stills
pub mod Entries
mod Ties
mod LedgerLaws
mod WayCalls
mod Asking
mod Answering
mod InTurn
mod Batches
mod LookUps
mod Finding
mod Walking
mod Holding
mod Opening
mod Giving
mod Heard
pub mod HeardRows
pub mod HandRows
