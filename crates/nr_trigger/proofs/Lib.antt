mod Parts
mod Places
mod Passes
mod Moments
mod Once
mod Walks
