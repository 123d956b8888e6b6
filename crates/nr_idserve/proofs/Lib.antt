pub mod IdWaiting
pub mod IdMade
pub mod IdLedger
pub mod IdClaims
pub mod IdTelling
pub mod IdRoom
