-- A pass of a search: it polls the retired slots of which all readers that have a word were heard, oldest first, up to
-- the first that nobody holds.
use Rattle.std.specs.Prelude.{◌≡◌, ◌≤◌, ℕ, Bool, List, Option, Some, None, length, nat_lt, remove, slice_index, take}
use mathlib.Core.Option.{some}
use lib.ListN.{get_elem?}
use Rattle.nr_model.specs.declared.rows.Row.{Row}
use Rattle.nr_core.specs.SlotLists.{SlotLists}
use Rattle.nr_core.specs.Writer.{taking_retired}
use Rattle.nr_core.specs.declared.calls.WriterCall.{WriterCall}
use Rattle.nr_core.specs.declared.places.Place.TheVariants.{Searching}
use Rattle.nr_core.specs.declared.places.Retired.{Retired}
use Rattle.nr_core.specs.declared.roles.Desk.{Desk}
use Rattle.nr_core.specs.declared.roles.Role.TheVariants.{Writer}
use Rattle.nr_board.specs.declared.publish.Taken.{Taken}
use Rattle.nr_board.specs.Callers.{Table}
use Rattle.nr_board.specs.HeldSlots.{FindsFree, InVain}
use Rattle.nr_board.specs.SearchSeats.{SearchesIn}
use Rattle.nr_board.specs.SlotLists.{heard_all, polls_to}
use Rattle.nr_board.specs.Views.{view_of}
use Rattle.nr_board.specs.WriterSeats.{MapSeat, WritesAt}

-- a slot is passed by of which not all readers that have a word were heard
abbrev pub is_unheard : ℕ → List ℕ → ℕ → Bool
is_unheard announcers heard slot = nat_lt (slice_index heard slot) announcers

-- the pass before that place: each slot that it polled was held
pub record PassedTo (table : Table) (lists : SlotLists) (before now : MapSeat) (place : ℕ) : Type 0 where
  pub own : now.table_id ≡ before.table_id
  pub role : (view_of now).role ≡ (view_of before).role
  pub search : SearchesIn table lists now
  pub polls : InVain (heard_all table.announcers (view_of before).heard (take place lists.retired)) before now

-- the pass took the slot at a place, which nobody held
pub record PassTakes (table : Table) (before : MapSeat) (lists : SlotLists) (now : MapSeat) (after : SlotLists)
    (taken : Taken) : Type 0 where
  pub place : ℕ
  pub entry : Retired
  pub here : get_elem? lists.retired place ≡ some entry
  pub slot : taken.slot ≡ entry.slot
  pub after_is : after ≡ record lists { retired = remove lists.retired place }
  pub writes : (desk : Desk) (call : WriterCall) (rows : List Row) → (view_of before).role ≡ Writer desk
      → desk.place ≡ Searching call rows 0 → WritesAt table (taking_retired desk call rows place taken.departures) now
  pub all_heard : table.announcers ≤ slice_index (view_of before).heard taken.slot
  pub free : FindsFree (polls_to table.announcers (view_of before).heard lists.retired place taken.slot) before now

abbrev pub PassesFor : Table → MapSeat → SlotLists → MapSeat → SlotLists → Option Taken → Type 0
PassesFor table before lists now after (Some taken) = PassTakes table before lists now after taken
PassesFor table before lists now after None =
    (after ≡ lists) × PassedTo table lists before now (length lists.retired)
