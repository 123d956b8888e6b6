-- This crate's own.
mod Lists
mod InOrder
mod WriterCalls
mod Ways
mod Looking
mod Filled
mod Quiets
mod Gone
mod Weighing
mod Placing
mod Seen
mod Opening
mod StoreRuns
