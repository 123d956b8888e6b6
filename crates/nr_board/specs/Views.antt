-- What a token knows: who its caller is, what it has seen of the history, the caller's own entries, and how many steps
-- it has made.
use Rattle.std.specs.Prelude.{ℕ, ◌+◌, Bool, false, List, [], replicate}
use Rattle.atomic_table.specs.Table.{Me}
use Rattle.atomic_table.specs.declared.shared.Seat.{Seat}
use Rattle.nr_model.specs.declared.rows.Row.{Row}
use Rattle.nr_model.specs.Histories.{Entry}
use Rattle.nr_core.specs.declared.shape.Shape.{Shape}
use Rattle.nr_core.specs.declared.roles.Desk.{Desk}
use Rattle.nr_core.specs.declared.places.Place.TheVariants.{Idle}
use Rattle.nr_core.specs.declared.roles.Role.{Role}
use Rattle.nr_core.specs.declared.roles.Role.TheVariants.{Writer, Reader, Note}
use Rattle.nr_core.specs.declared.roles.Grip.{Grip}
use Rattle.nr_core.specs.declared.roles.Grip.TheVariants.{Nothing, On}
use Rattle.nr_core.specs.States.{opening_desk}
use Rattle.nr_core.specs.Marks.{Marks, Past, no_marks, opening_marks}
use Rattle.nr_board.specs.declared.board.Plan.{Plan}

-- a word that was loaded ahead: its place in the table, and what was found there
pub record Loaded : Type 0 where
  pub place : ℕ
  pub word : ℕ

pub record View : Type 0 where
  pub role : Role
  pub shape : Shape
  -- how many readers, the first ones, have a word of their own
  pub announcers : ℕ
  -- how many readers the writer has made
  pub made : ℕ
  pub seen : List Entry
  -- what a note that it took in had seen
  pub told : List Entry
  pub mine : List Entry
  pub steps : ℕ
  -- put numbers, a reader's acts, the writer's polls
  pub marks : Marks
  -- how readers were when the writer learnt it, and what a note told of that
  pub pasts : List Past
  pub told_pasts : List Past
  -- what a reader's own word says: 0, or one more than the slot that it announces
  pub says : ℕ
  -- of each slot how many readers, the first ones, the writer found not to say it since a key named it last
  pub heard : List ℕ
  -- the words that it loaded ahead, in their order
  pub loaded_ahead : List Loaded

module _ {S V : Type 0} where
  abbrev pub view_in : Me S V → V
  view_in (view, _) = view

  abbrev pub carried_in : Me S V → List (ℕ × S)
  carried_in (_, carried) = carried

  -- what a seat's token knows, and the table's slots that it carries
  abbrev pub view_of : Seat S V → V
  view_of seat = view_in seat.me

  abbrev pub carried_by : Seat S V → List (ℕ × S)
  carried_by seat = carried_in seat.me

-- the number of the caller; the writer's is 0
abbrev pub caller_number : Role → ℕ
caller_number (Reader reader grip) = reader
caller_number other = 0

-- the writer's desk, and that of who has none
abbrev pub no_desk : Desk
no_desk = record { place = Idle; fresh = 0; retired = []; numbers = [] }

abbrev pub desk_of : Role → Desk
desk_of (Writer desk) = desk
desk_of other = no_desk

-- what a reader holds: the slot, the set that it found there, and whether it has read its size
abbrev pub grip_of : Role → Grip
grip_of (Reader reader grip) = grip
grip_of other = Nothing

abbrev pub slot_gripped : Grip → ℕ
slot_gripped Nothing = 0
slot_gripped (On slot rows sized) = slot

abbrev pub rows_gripped : Grip → List Row
rows_gripped Nothing = []
rows_gripped (On slot rows sized) = rows

abbrev pub is_sized : Grip → Bool
is_sized Nothing = false
is_sized (On slot rows sized) = sized

abbrev pub slot_held : Role → ℕ
slot_held role = slot_gripped (grip_of role)

abbrev pub rows_held : Role → List Row
rows_held role = rows_gripped (grip_of role)

-- the shape in a view that nobody has
abbrev pub no_shape : Shape
no_shape = record { keys = 0; slots = 0; readers = 0; first_count = 0; first_number = 0; rows = 0 }

abbrev pub no_plan : Plan
no_plan = record { shape = no_shape; announcers = 0 }

-- the view of a token that is no caller, and of no map
abbrev pub no_view : View
no_view = record {
  role = Note;
  shape = no_shape;
  announcers = 0;
  made = 0;
  seen = [];
  told = [];
  mine = [];
  steps = 0;
  marks = no_marks;
  pasts = [];
  told_pasts = [];
  says = 0;
  heard = [];
  loaded_ahead = [];
}

-- the first token is the writer's
abbrev pub opener : Plan → View
opener plan = record no_view {
  role = Writer (opening_desk plan.shape);
  shape = plan.shape;
  announcers = plan.announcers;
  marks = opening_marks plan.shape;
  heard = replicate plan.shape.slots 0;
}

-- the writer makes the next reader
abbrev pub with_reader : View → View
with_reader view = record view { made = view.made + 1 }

abbrev pub next_reader : View → View
next_reader view =
    record no_view { role = Reader (view.made + 1) Nothing; shape = view.shape; announcers = view.announcers }
