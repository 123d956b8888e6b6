pub mod Posts
pub mod Views
pub mod Delivers
pub mod Tokens
pub mod Once
