pub mod KeyWords
pub mod SetWords
pub mod Places
pub mod Opening
pub mod Laws
