pub mod Logs
mod Hinted
mod Bytes
pub mod MarkBits
mod Steps
mod Seats
pub mod Calls
pub mod Through
pub mod Admitting
mod LawProofs
