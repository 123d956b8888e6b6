pub mod Gathering
pub mod Working
pub mod Gaining
pub mod Settling
pub mod Finding
pub mod Flowing
pub mod Turning
pub mod Reporting
