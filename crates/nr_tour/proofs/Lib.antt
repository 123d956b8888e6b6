mod Copies
mod Doing
mod HeardNotes
mod Told
