-- Where the writer's seat stands when it scans the readers' words and when it searches in any order, and where each
-- step leads it.
use Rattle.std.specs.Prelude.{◌≡◌, ℕ, ◌<◌, ◌≤◌, List, slice_index}
use mathlib.Core.Option.{some}
use lib.ListN.{get_elem?}
use Rattle.nr_model.specs.declared.rows.Row.{Row}
use Rattle.nr_core.specs.declared.calls.WriterCall.{WriterCall}
use Rattle.nr_core.specs.declared.places.Place.TheVariants.{Searching}
use Rattle.nr_core.specs.declared.places.Retired.{Retired}
use Rattle.nr_core.specs.SlotLists.{SlotLists}
use Rattle.nr_core.specs.declared.roles.Desk.{Desk}
use Rattle.nr_core.specs.declared.roles.Role.TheVariants.{Writer}
use Rattle.nr_board.specs.Callers.{Table, token}
use Rattle.nr_board.specs.Plays.{Room}
use Rattle.nr_board.specs.Scans.{ScansTo}
use Rattle.nr_board.specs.SearchPlays.{GaveUp, Scanned, Tried}
use Rattle.nr_board.specs.Views.{View, view_of}
use Rattle.nr_board.specs.WriterSeats.{MapSeat}

-- the writer's seat, about to load the word of a reader that has one
pub record ScansAt (table : Table) (own : ℕ) (seat : MapSeat) : Type 0 where
  pub own_table : (token seat).table ≡ table
  pub desk : Desk
  pub role : (view_of seat).role ≡ Writer desk
  pub within : own < table.announcers

abbrev pub HearsWord : ℕ → ℕ → View → View → Type 0
HearsWord own found old new = (desk : Desk) → old.role ≡ Writer desk → ScansTo desk own found old new

-- in a search
pub record IsSearching (table : Table) (seat : MapSeat) : Type 0 where
  pub own : (token seat).table ≡ table
  pub desk : Desk
  pub role : (view_of seat).role ≡ Writer desk
  pub room : Room table.shape desk
  pub call : WriterCall
  pub rows : List Row
  pub place : desk.place ≡ Searching call rows 0

-- over the retired slots of these lists
pub record SearchesIn (table : Table) (lists : SlotLists) (seat : MapSeat) : Type 0 where
  pub search : IsSearching table seat
  pub retired : search.desk.retired ≡ lists.retired
  pub slots : lists.slots ≡ table.shape.slots

abbrev pub SearchesOn : ℕ → ℕ → View → View → Type 0
SearchesOn own found old new =
    (desk : Desk) (call : WriterCall) (rows : List Row) → old.role ≡ Writer desk → desk.place ≡ Searching call rows 0
    → Scanned desk own found old new

-- about to poll that retired slot, of which all readers that have a word were heard
pub record TriesAt (table : Table) (entry : Retired) (seat : MapSeat) : Type 0 where
  pub search : IsSearching table seat
  pub poll : ℕ
  pub here : get_elem? search.desk.retired poll ≡ some entry
  pub heard : table.announcers ≤ slice_index (view_of seat).heard entry.slot

abbrev pub TriesTo : Retired → ℕ → View → View → Type 0
TriesTo entry found old new =
    (desk : Desk) (call : WriterCall) (rows : List Row) (poll : ℕ) → old.role ≡ Writer desk
    → desk.place ≡ Searching call rows 0 → get_elem? desk.retired poll ≡ some entry
    → Tried desk call rows poll found old new

abbrev pub Ends : View → View → Type 0
Ends old new =
    (desk : Desk) (call : WriterCall) (rows : List Row) → old.role ≡ Writer desk → desk.place ≡ Searching call rows 0
    → GaveUp desk call old new
