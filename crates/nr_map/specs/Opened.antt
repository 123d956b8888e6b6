-- The tokens of a new map.
use Rattle.std.specs.Prelude.{◌≡◌, ℕ, ◌+◌, ◌<◌, List, [], All, length, None, Some, replicate, slice_get}
use Rattle.nr_core.specs.declared.shape.Shape.{Shape}
use Rattle.atomic_table.specs.declared.shared.Seat.{Seat}
use Rattle.nr_core.specs.Marks.{Marks, no_marks, opening_marks}
use Rattle.nr_board.specs.Callers.{Caller, Table}
use Rattle.nr_board.specs.Views.{View, opener, view_of}

-- a token that has made no step and seen nothing
abbrev pub newcomer : Table → ℕ → Marks → Caller
newcomer table number marks =
    record {
      table = table;
      number = number;
      seen = [];
      mine = [];
      steps = 0;
      fresh = 0;
      retired = [];
      numbers = [];
      holds = None;
      marks = marks;
      pasts = [];
      says = 0;
      heard = [];
      loaded_ahead = [];
    }

-- the writer's view after it made that many readers
abbrev pub made_so : Table → ℕ → View
made_so table made = record (opener (record { shape = table.shape; announcers = table.announcers })) { made = made }

-- the writer's seat has made that many readers, each a newcomer with its place's number
pub record Seated (table : Table) (seat : Seat (Unit {0}) View) (readers : List Caller) (made : ℕ) : Type 0 where
  pub own : seat.table_id ≡ table.id
  pub view : view_of seat ≡ made_so table made
  pub count : length readers ≡ made
  pub reads : (place : ℕ) → place < made → slice_get readers place ≡ Some (newcomer table (place + 1) no_marks)

-- how many readers of a map that is opened as a large one have a word of their own
abbrev pub words_of_large : Shape → ℕ
words_of_large shape = shape.readers

-- the map has its sizes, and so many of its readers have a word of their own; the writer and the readers, in the order
-- of their numbers, are its newcomers; each key has the first number
pub record IsOpened (shape : Shape) (words : ℕ) (map : Table) (writer : Caller) (readers : List Caller) : Type 0 where
  pub sizes : map.shape ≡ shape
  pub words_are : map.announcers ≡ words
  pub writes : writer
      ≡ record (newcomer map 0 (opening_marks shape)) {
        numbers = replicate shape.keys shape.first_number;
        heard = replicate shape.slots 0;
      }
  pub count : length readers ≡ shape.readers
  pub reads : (place : ℕ) → place < shape.readers → slice_get readers place ≡ Some (newcomer map (place + 1) no_marks)
  pub own : All (λ reader. reader.table ≡ map) readers
