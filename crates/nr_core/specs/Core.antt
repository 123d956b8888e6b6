-- What stands between any two steps: the words, the callers' roles and the history agree. It is said of any list of
-- callers, so that it serves schedules and running callers alike.
use Rattle.std.specs.Prelude.{◌≡◌, ℕ, suc, ◌+◌, ◌*◌, ◌%◌, ◌^◌, ◌<◌, ◌≤◌, List, [], length, take, slice_index}
use mathlib.Core.Option.{some}
use lib.ListN.{get_elem?}
use Rattle.nr_model.specs.declared.rows.Row.{Row}
use Rattle.nr_model.specs.declared.states.KeyState.{KeyState}
use Rattle.nr_model.specs.Rows.{IsRowSet}
use Rattle.nr_model.specs.Maps.{PartialMap, state_of, number_of, reply_at, state_after, last_number}
use Rattle.nr_model.specs.Histories.{Entry, IsLegal}
use Rattle.nr_core.specs.declared.shape.Shape.{Shape}
use Rattle.nr_core.specs.declared.calls.WriterCall.{WriterCall}
use Rattle.nr_core.specs.declared.roles.Role.{Role}
use Rattle.nr_core.specs.declared.roles.Role.TheVariants.{Writer, Reader, Note}
use Rattle.nr_core.specs.declared.roles.Grip.{Grip}
use Rattle.nr_core.specs.declared.roles.Grip.TheVariants.{Nothing, On}
use Rattle.nr_core.specs.declared.roles.Desk.{Desk}
use Rattle.nr_core.specs.declared.places.Retired.{Retired}
use Rattle.nr_core.specs.declared.places.Place.{Place}
use Rattle.nr_core.specs.declared.places.Place.TheVariants.{Idle, Reading, Leaving, Withdrawing, Searching, Putting}
use Rattle.nr_core.specs.Sums.{total}
use Rattle.nr_core.specs.Sizes.{IsShape}
use Rattle.nr_core.specs.Roles.{is_writer, is_reader, held, keeps}
use Rattle.nr_words.specs.KeyWords.{slot_of, arrivals_of}
use Rattle.nr_words.specs.SetWords.{encode}
use Rattle.nr_words.specs.Places.{total_of}
use Rattle.nr_core.specs.Slots.{bound_of, layout, departures, content, name_number, named, SlotSpells}
use Rattle.nr_core.specs.States.{key_of}
use Rattle.nr_core.specs.Story.{call_of, map_after, opening_map}
use Rattle.nr_model.specs.declared.calls.Reply.TheVariants as reply
use Rattle.nr_model.specs.declared.states.KeyState.TheVariants as key

-- a count of arrivals is the departures and the callers that hold the slot, as far as counts go
abbrev pub Counts : Shape → List ℕ → (ℕ → ℕ) → ℕ → ℕ → Type 0
Counts shape words holders slot arrivals =
    arrivals % 2 ^ 40 ≡ (slice_index words (departures shape slot) + holders slot) % 2 ^ 40

-- the list has each key's ticket number
pub record AreNumbers (shape : Shape) (map : PartialMap) (numbers : List ℕ) : Type 0 where
  pub each : length numbers ≡ shape.keys
  pub agree : (at : ℕ) → at < shape.keys → slice_index numbers at ≡ number_of (state_of map at)

-- the key is asked, and its ticket number is not the last one
pub record Withdraws (shape : Shape) (map : PartialMap) (at : ℕ) : Type 0 where
  pub near : at < shape.keys
  pub number : ℕ
  pub asked : state_of map at ≡ key.Asked number
  pub early : number < last_number

module _ (shape : Shape) (words : List ℕ) (map : PartialMap) (holders : ℕ → ℕ) where
  -- the call would be done now, and leave the set at its key
  pub record Wants (call : WriterCall) (rows : List Row) : Type 0 where
    pub near : key_of call < shape.keys
    pub row_set : IsRowSet (bound_of shape) rows
    pub no_hole : (number : ℕ) → state_of map (key_of call) ≡ key.Hole number → ⊥
    pub done : reply_at (bound_of shape) (call_of call) (state_of map (key_of call)) ≡ reply.Done
    pub leaves : state_after (bound_of shape) (call_of call) (state_of map (key_of call))
        ≡ key.Rows (number_of (state_of map (key_of call))) rows

  -- the key's slot is being read, and these words are the first of its set
  pub record Reads (at slot : ℕ) (got : List ℕ) : Type 0 where
    pub near : at < shape.keys
    pub names : name_number (slice_index words at) ≡ suc slot
    pub number : ℕ
    pub rows : List Row
    pub full : state_of map at ≡ key.Rows number rows
    pub part : got ≡ take (length got) (encode rows)
    pub more : length got ≤ 2 * length rows

  -- the taken slot is nobody's, and that many words of the set stand in it
  pub record Puts (call : WriterCall) (rows : List Row) (slot departed index : ℕ) : Type 0 where
    pub wants : Wants call rows
    pub inside : slot < shape.slots
    pub nobody : holders slot ≡ 0
    pub counted : slice_index words (departures shape slot) ≡ departed
    pub within : index ≤ length (encode rows)
    pub put : (before : ℕ) → before < index
        → slice_index words (content shape slot before) ≡ slice_index (encode rows) before

  abbrev pub AtPlace : ℕ → List Retired → Place → Type 0
  AtPlace fresh retired Idle = Unit {0}
  AtPlace fresh retired (Reading call slot got) = Reads (key_of call) slot got
  AtPlace fresh retired (Leaving at) = (slot : ℕ) × Reads at slot []
  AtPlace fresh retired (Withdrawing at) = Withdraws shape map at
  AtPlace fresh retired (Searching call rows poll) = Wants call rows × (poll < length retired) × (shape.slots ≤ fresh)
  AtPlace fresh retired (Putting call rows slot departed index) = Puts call rows slot departed index

  -- what the writer knows: its stage, that free slots are untouched and retired ones counted, and the keys' ticket
  -- numbers
  pub record AtDesk (desk : Desk) : Type 0 where
    pub place : AtPlace desk.fresh desk.retired desk.place
    pub room : desk.fresh ≤ shape.slots
    pub free : (slot : ℕ) → desk.fresh ≤ slot → slot < shape.slots
        → (holders slot ≡ 0) × (slice_index words (departures shape slot) ≡ shape.first_count)
    pub retired : (at : ℕ) (entry : Retired) → get_elem? desk.retired at ≡ some entry
        → (entry.slot < shape.slots) × Counts shape words holders entry.slot entry.arrivals
    pub numbers : AreNumbers shape map desk.numbers

  -- what a reader knows: the slot that it holds spells the set that it found
  abbrev pub Grips : Grip → Type 0
  Grips Nothing = Unit {0}
  Grips (On slot rows sized) = (slot < shape.slots) × SlotSpells shape words slot rows

  abbrev pub Knows : Role → Type 0
  Knows (Writer desk) = AtDesk desk
  Knows (Reader reader grip) = Grips grip
  Knows Note = Unit {0}

-- a key's word shows the key's state, and its ticket number where it is not filled
abbrev pub ShowsState : Shape → List ℕ → ℕ → KeyState → Type 0
ShowsState shape words word (key.Hole number) = (name_number word ≡ 0) × (word % 2 ≡ 0) × (slot_of word ≡ number)
ShowsState shape words word (key.Asked number) = (name_number word ≡ 0) × (word % 2 ≡ 1) × (slot_of word ≡ number)
ShowsState shape words word (key.Rows number rows) =
    (slot : ℕ) × (name_number word ≡ suc slot) × (slot < shape.slots) × SlotSpells shape words slot rows

pub record Core (shape : Shape) (words : List ℕ) (roles : List Role) (log : List Entry) : Type 0 where
  pub fits : IsShape shape
  pub wide : length words ≡ total_of (layout shape)
  pub legal : IsLegal (opening_map shape) log
  -- the words show the map after the history
  pub shows : (at : ℕ) → at < shape.keys
      → ShowsState shape words (slice_index words at) (state_of (map_after shape log) at)
  -- each slot is in exactly one state: named by a key, free, retired or taken
  pub places : (slot : ℕ) → slot < shape.slots → named shape words slot + total (keeps slot) roles ≡ 1
  -- a named slot's arrivals, in its key's word, are counted
  pub counts : (at slot : ℕ) → at < shape.keys → name_number (slice_index words at) ≡ suc slot
      → Counts shape words (held roles) slot (arrivals_of (slice_index words at))
  -- each caller knows what its role says
  pub knows : (id : ℕ) (role : Role) → get_elem? roles id ≡ some role
      → Knows shape words (map_after shape log) (held roles) role
  pub one : total is_writer roles ≤ 1
  pub few : total is_reader roles ≤ shape.readers
