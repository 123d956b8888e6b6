-- What contracts see of a token, and what its steps add to it.
use Rattle.std.specs.Prelude.{◌≡◌, ℕ, ◌+◌, List, [], ◌∷◌, ◌++◌, Option}
use Rattle.atomic_table.specs.Seated.{TableId}
use Rattle.atomic_table.specs.declared.shared.Seat.{Seat}
use Rattle.nr_model.specs.declared.calls.Call.{Call}
use Rattle.nr_model.specs.declared.calls.Reply.{Reply}
use Rattle.nr_model.specs.Maps.{PartialMap}
use Rattle.nr_model.specs.Histories.{Entry, IsLegal, after, entries_of}
use Rattle.nr_core.specs.declared.shape.Shape.{Shape}
use Rattle.nr_core.specs.declared.places.Retired.{Retired}
use Rattle.nr_core.specs.Story.{entry, opening_map}
use Rattle.nr_core.specs.Marks.{Marks, Past, gripped}
use Rattle.nr_board.specs.Entries.{AreCallers}
use Rattle.nr_board.specs.Views.{Loaded, View, desk_of, grip_of, caller_number, view_of}

-- which map it is, its sizes, and how many of its readers, the first ones, have a word of their own
pub record Table : Type 0 where
  pub id : TableId
  pub shape : Shape
  pub announcers : ℕ

pub record Caller : Type 0 where
  -- its map
  pub table : Table
  -- 0 is the writer, the others are the readers
  pub number : ℕ
  -- the beginning of the map's history that it knows
  pub seen : List Entry
  -- its own entries, in their order
  pub mine : List Entry
  -- its atomic steps since the opening
  pub steps : ℕ
  -- the writer's slots: how many were ever taken, and those that no key names any more, oldest first
  pub fresh : ℕ
  pub retired : List Retired
  -- the number of each key, by the writer's list
  pub numbers : List ℕ
  -- the slot that a reader holds
  pub holds : Option ℕ
  -- put numbers, a reader's acts, and the polls of the writer's last call that found their slots held
  pub marks : Marks
  -- how readers were when the writer learnt it
  pub pasts : List Past
  -- what a reader's own word says: 0, or one more than the slot that it holds by it
  pub says : ℕ
  -- of each slot how many readers, the first ones, the writer found not to announce it since a key named it last
  pub heard : List ℕ
  -- the words that it loaded ahead of finds, in their order
  pub loaded_ahead : List Loaded

abbrev pub caller_of : TableId → View → Caller
caller_of id view = record {
  table = record { id = id; shape = view.shape; announcers = view.announcers };
  number = caller_number view.role;
  seen = view.seen;
  mine = view.mine;
  steps = view.steps;
  fresh = (desk_of view.role).fresh;
  retired = (desk_of view.role).retired;
  numbers = (desk_of view.role).numbers;
  holds = gripped (grip_of view.role);
  marks = view.marks;
  pasts = view.pasts;
  says = view.says;
  heard = view.heard;
  loaded_ahead = view.loaded_ahead;
}

abbrev pub token : Seat (Unit {0}) View → Caller
token seat = caller_of seat.table_id (view_of seat)

-- the map at opening, and after what the caller has seen
abbrev pub map_at_opening : Table → PartialMap
map_at_opening table = opening_map table.shape

abbrev pub map_seen : Caller → PartialMap
map_seen caller = after (map_at_opening caller.table) caller.seen

-- in that many steps these entries of the caller's became the last ones of one legal history, which begins with all
-- that the caller had seen
pub record Grows (steps : ℕ) (entries : List Entry) (old new : Caller) : Type 0 where
  pub table : new.table ≡ old.table
  pub number : new.number ≡ old.number
  pub between : List Entry
  pub seen : new.seen ≡ (old.seen ++ between) ++ entries
  pub mine : new.mine ≡ old.mine ++ entries
  pub legal : IsLegal (map_at_opening old.table) new.seen
  -- of the caller's calls the history has just those that it made, each once
  pub own : entries_of new.seen new.number ≡ new.mine
  -- and of others' only finds and requests of the map's readers, and calls of its writer, which bring no sets but row
  -- sets of the map
  pub callers : AreCallers old.table.shape new.seen
  pub steps_made : new.steps ≡ old.steps + steps
  -- it learnt nothing of readers, and loaded nothing ahead
  pub pasts : new.pasts ≡ old.pasts
  pub loaded_ahead : new.loaded_ahead ≡ old.loaded_ahead

-- the caller's call was answered so, and is one entry of that history
abbrev pub Gains : ℕ → Call → Caller → Caller → Reply → Type 0
Gains steps call old new reply = Grows steps (entry old.number call reply ∷ []) old new

-- that many steps that add nothing and learn nothing
pub record Rests (steps : ℕ) (old new : Caller) : Type 0 where
  pub table : new.table ≡ old.table
  pub number : new.number ≡ old.number
  pub seen : new.seen ≡ old.seen
  pub mine : new.mine ≡ old.mine
  pub steps_made : new.steps ≡ old.steps + steps
  pub pasts : new.pasts ≡ old.pasts
  pub loaded_ahead : new.loaded_ahead ≡ old.loaded_ahead

-- the caller's own entries are those that it knows of itself
abbrev pub KnowsOwn : Caller → Type 0
KnowsOwn caller = entries_of caller.seen caller.number ≡ caller.mine

-- what the caller has seen is a legal history of its map's callers, which has of its own calls just those that it made
pub record IsSound (caller : Caller) : Type 0 where
  pub legal : IsLegal (map_at_opening caller.table) caller.seen
  pub own : KnowsOwn caller
  pub callers : AreCallers caller.table.shape caller.seen
