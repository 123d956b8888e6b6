mod InputLemmas
mod KeptLemmas
mod RunLemmas
