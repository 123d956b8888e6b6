-- For the crates above: the laws of the steps (`src/laws.rt` says each of them), and what they share, of sums,
-- histories, key words, sets read through, calls that end with no slot, slots counted, keys numbered, where words lie,
-- and what holds of reached states.
pub mod ReaderSteps
pub mod WriterSteps
pub mod Learn
pub mod Opening
pub mod Seat
pub mod Choices
pub mod Sums
mod Noted
mod Passed
pub mod Histories
pub mod KeyWords
pub mod Frames
pub mod Settle
pub mod Guards
pub mod ReadThrough
pub mod Without
pub mod Counting
pub mod Numbers
pub mod WordPlaces
pub mod Reach
-- And of what tokens learn of each other.
pub mod ListPlaces
pub mod PutNumbers
pub mod Knowing
pub mod ReaderMarks
pub mod LookMarks
pub mod Different
pub mod ReapMarks
pub mod SearchMarks
pub mod GoMarks
pub mod LearnMarks
pub mod SeatMarks
pub mod ExactPlace
-- This crate's own.

mod Walks
mod Shapes
mod OnKey
mod Stepping
mod Swap
mod StateRoles
mod ReaderEvents
mod Events
mod Sweeps
mod Follows
mod Schedules
mod MarksSince
mod SwapMarks
mod Holders
mod Tidy
mod Strays
mod InTime
