pub mod Rounds
pub mod Exactly
pub mod Settling
pub mod Shown
pub mod Lines
pub mod ReaderLines
pub mod AfterLine
pub mod Opening
