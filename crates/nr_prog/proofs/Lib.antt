mod KnownWords
mod ProgramLemmas
mod ScheduleLemmas
mod TaskLemmas
mod WordLemmas
