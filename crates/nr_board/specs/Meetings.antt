-- What a token learns of the history by itself, and of another token.
use Rattle.std.specs.Prelude.{◌≡◌, ℕ, ◌+◌, List, ◌++◌}
use mathlib.Core.Option.{some}
use lib.ListN.{get_elem?}
use Rattle.nr_model.specs.Histories.{Entry, IsLegal, entries_of}
use Rattle.nr_model.specs.Maps.{state_of}
use Rattle.nr_board.specs.declared.answers.KeyKind.{KeyKind}
use Rattle.nr_board.specs.declared.answers.KeyKind.TheVariants as kind
use Rattle.nr_board.specs.Callers.{Caller, Table, map_seen, map_at_opening}
use Rattle.nr_board.specs.Kinds.{kind_of}
use Rattle.nr_core.specs.declared.places.Place.TheVariants.{Idle}
use Rattle.nr_core.specs.declared.roles.Desk.{Desk}
use Rattle.nr_core.specs.Exact.{Lists}
use Rattle.nr_core.specs.Marks.{Past}
use Rattle.nr_core.specs.Pasts.{Current}
use Rattle.nr_core.specs.Puts.{put_number}
use Rattle.nr_board.specs.Entries.{AreCallers}
use Rattle.nr_board.specs.Rule.{StartsWith}

-- in that many steps, none of which adds an entry, the token learnt a legal history that begins with all that it had
-- seen
pub record Learns (steps : ℕ) (old new : Caller) : Type 0 where
  pub table : new.table ≡ old.table
  pub number : new.number ≡ old.number
  pub seen : StartsWith new.seen old.seen
  pub mine : new.mine ≡ old.mine
  pub legal : IsLegal (map_at_opening old.table) new.seen
  -- of the caller's calls the history has just those that it made, each once
  pub own : entries_of new.seen new.number ≡ new.mine
  -- and of others' only finds and requests of the map's readers, and calls of its writer, which bring no sets but row
  -- sets of the map
  pub callers : AreCallers old.table.shape new.seen
  pub steps_made : new.steps ≡ old.steps + steps
  -- the writer's slots and its list of numbers, a reader's hold and word, the marks, and what was loaded ahead stay
  pub fresh : new.fresh ≡ old.fresh
  pub retired : new.retired ≡ old.retired
  pub numbers : new.numbers ≡ old.numbers
  pub holds : new.holds ≡ old.holds
  pub says : new.says ≡ old.says
  pub marks : new.marks ≡ old.marks
  pub heard : new.heard ≡ old.heard
  pub loaded_ahead : new.loaded_ahead ≡ old.loaded_ahead
  -- it forgets nothing that it knew of readers
  pub news : List Past
  pub pasts : new.pasts ≡ news ++ old.pasts

-- how a reader is, and the writer's desk between its calls, as their tokens show it
abbrev pub how_is : Caller → Past
how_is reader =
    record { reader = reader.number; count = reader.marks.acts; slot = reader.holds; put = reader.marks.put }

abbrev pub desk_seen : Caller → Desk
desk_seen writer = record { place = Idle; fresh = writer.fresh; retired = writer.retired; numbers = writer.numbers }

-- what a note tells: of which map it is, and what its maker had seen
pub record Known : Type 0 where
  pub table : Table
  pub seen : List Entry

abbrev pub known_to : Caller → Known
known_to caller = record { table = caller.table; seen = caller.seen }

-- who makes a note makes one step, and is else as it was
abbrev pub with_step : Caller → Caller
with_step caller = record caller { steps = caller.steps + 1 }

-- who makes that many steps which tell it nothing is else as it was
abbrev pub with_steps : ℕ → Caller → Caller
with_steps many caller = record caller { steps = caller.steps + many }

-- the history begins with all that the note's maker had seen too
pub record HearsNote (steps : ℕ) (note : Known) (old new : Caller) : Type 0 where
  pub learns : Learns steps old new
  pub seen : StartsWith new.seen note.seen

-- the history begins with all that the other had seen too, so it has all calls that the other had made
pub record Meets (steps : ℕ) (other old new : Caller) : Type 0 where
  pub learns : Learns steps old new
  pub seen : StartsWith new.seen other.seen
  pub calls : StartsWith (entries_of new.seen other.number) other.mine

-- the writer learnt of the reader, and then the reader of the writer, 1 step of each for the note and 1 to hear: of
-- either the writer's history has exactly its calls
pub record Gathers (writer reader writer' reader' : Caller) : Type 0 where
  pub of_reader : Meets 2 reader writer writer'
  pub of_writer : Meets 2 writer' reader reader'
  pub all : entries_of writer'.seen reader.number ≡ reader.mine
  -- the writer knows how the reader is, and has compared it with its lists, which are those of the history
  pub place : ℕ
  pub known : get_elem? writer'.pasts place ≡ some (how_is reader)
  pub current : Current writer'.retired writer'.marks (how_is reader)
  pub lists : Lists (desk_seen writer') writer'.marks writer'.table.shape writer'.seen

-- the key's state after the history so far
pub record StatesKey (at : ℕ) (old new : Caller) (kind : KeyKind) : Type 0 where
  pub learns : Learns 1 old new
  pub state : kind ≡ kind_of (state_of (map_seen new) at)

-- after the history so far the key is filled, by the set of that put number
abbrev pub HasPut : ℕ → ℕ → Caller → Type 0
HasPut at put caller = (kind_of (state_of (map_seen caller) at) ≡ kind.Rows) × (put_number caller.seen at ≡ put)
