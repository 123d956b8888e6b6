-- What the tokens of a map over ids learn of each other.
use Rattle.std.specs.Prelude.{◌≡◌}
use Rattle.nr_board.specs.Meetings.{Gathers, HearsNote, Known, known_to, with_step, with_steps}
use Rattle.nr_ids.specs.Tokens as ids
use Rattle.nr_idmap.specs.Keepers.{IdCaller, IdTable, Keeper}

-- what a note tells of the map, and of the directory
pub record IdKnown : Type 0 where
  pub map : Known
  pub ids : ids.Known

-- of which map over ids it tells
abbrev pub note_table_of : IdKnown → IdTable
note_table_of note = record { map = note.map.table; directory = note.ids.directory }

abbrev pub known_to_reader : IdCaller → IdKnown
known_to_reader reader = record { map = known_to reader.caller; ids = ids.known_to reader.ids }

-- who makes a note makes a step on each table
abbrev pub with_steps_of_note : IdCaller → IdCaller
with_steps_of_note reader = record { caller = with_step reader.caller; ids = ids.with_step reader.ids }

-- who splits one makes three
abbrev pub with_steps_of_split : IdCaller → IdCaller
with_steps_of_split reader = record { caller = with_steps 3 reader.caller; ids = ids.with_steps 3 reader.ids }

-- the token knows all that the note's maker had seen
pub record HearsIdNote (note : IdKnown) (old new : IdCaller) : Type 0 where
  pub map : HearsNote 1 note.map old.caller new.caller
  pub ids : ids.Hears note.ids old.ids new.ids

-- the same of the writer, whose asker stays
pub record WriterHears (note : IdKnown) (old new : Keeper) : Type 0 where
  pub map : HearsNote 1 note.map old.writer new.writer
  pub ids : ids.Hears note.ids old.clerk new.clerk
  pub asker : new.asker ≡ old.asker

-- the writer learnt of the reader's map calls, and the reader of the writer's, and nothing else changed
pub record GathersById (keeper : Keeper) (reader : IdCaller) (keeper' : Keeper) (reader' : IdCaller) : Type 0 where
  pub gathers : Gathers keeper.writer reader.caller keeper'.writer reader'.caller
  pub clerk : keeper'.clerk ≡ keeper.clerk
  pub asker : keeper'.asker ≡ keeper.asker
  pub ids : reader'.ids ≡ reader.ids
