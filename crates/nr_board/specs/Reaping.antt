-- A reap: the writer polls the retired slots whose sets wait, oldest first, and gives out the set of the first that no
-- reader holds. The slot stays retired, and its set is reaped.
use Rattle.std.specs.Prelude.{◌≡◌, ℕ, ◌+◌, ◌*◌, ◌<◌, ◌≤◌, ◌⊎◌, ◌||◌, Bool, true, false, List, [], ◌∷◌, ◌++◌, length}
use Rattle.std.specs.Prelude.{nat_lt, slice_index, slice_index_or, take}
use mathlib.Core.Option.{some}
use lib.ListN.{get_elem?}
use Rattle.nr_model.specs.Rows.{IsRowSet}
use Rattle.nr_model.specs.declared.rows.Row.{Row}
use Rattle.nr_words.specs.KeyWords.{same_count}
use Rattle.nr_core.specs.Slots.{departures}
use Rattle.nr_core.specs.SlotLists.{SlotLists}
use Rattle.nr_core.specs.declared.places.Place.TheVariants.{Idle}
use Rattle.nr_core.specs.declared.places.Retired.{Retired}
use Rattle.nr_core.specs.declared.roles.Desk.{Desk}
use Rattle.nr_core.specs.declared.roles.Role.TheVariants.{Writer}
use Rattle.nr_core.specs.declared.shape.Shape.{Shape}
use Rattle.nr_core.specs.Marks.{OfSlot, Past, LoggedLoad, set_in, with_reaped, with_scan}
use Rattle.nr_core.specs.MarkSteps.{ProbeTells}
use Rattle.nr_board.specs.declared.answers.Reaped.{Reaped}
use Rattle.nr_board.specs.declared.answers.Reaped.TheVariants as reaped
use Rattle.nr_board.specs.declared.reaping.Sweep.{Sweep}
use Rattle.nr_board.specs.declared.reaping.Sweep.TheVariants as sweep
use Rattle.nr_board.specs.Callers.{Caller, Table, token}
use Rattle.nr_board.specs.HeldSlots.{HeldEach, HeldTo}
use Rattle.nr_board.specs.Plays.{Room, Then}
use Rattle.nr_board.specs.SlotLists.{held_polls, not_passed}
use Rattle.nr_board.specs.Views.{View, view_of}
use Rattle.nr_board.specs.WholeScans.{scanned_to}
use Rattle.nr_board.specs.WordLoads.{WordsTell}
use Rattle.nr_board.specs.WriterSeats.{MapSeat}

-- THE POLL

-- the token counts the step, and its marks tell what the poll of that retired slot found
abbrev pub ProbesTo : Shape → Retired → ℕ → View → View → Type 0
ProbesTo shape entry found old new =
    (new ≡ record old { steps = old.steps + 1; marks = new.marks })
    × ProbeTells (same_count found entry.arrivals) shape entry.slot old.marks new.marks

-- a load of a retired slot's departures by a writer between two calls
abbrev pub has_probed : Then
has_probed step (before, _) found (after, _) =
    (desk : Desk) (poll : ℕ) (entry : Retired) → before.role ≡ Writer desk → desk.place ≡ Idle → Room before.shape desk
    → get_elem? desk.retired poll ≡ some entry → step.word ≡ departures before.shape entry.slot
    → ProbesTo before.shape entry found before after

-- the writer's seat between two calls, which has that slot retired
pub record ProbesAt (table : Table) (entry : Retired) (seat : MapSeat) : Type 0 where
  pub own : (token seat).table ≡ table
  pub desk : Desk
  pub role : (view_of seat).role ≡ Writer desk
  pub idle : desk.place ≡ Idle
  pub room : Room table.shape desk
  pub poll : ℕ
  pub here : get_elem? desk.retired poll ≡ some entry
  -- all readers that have a word were heard not to say the slot
  pub heard : table.announcers ≤ slice_index (view_of seat).heard entry.slot

-- THE SWEEP

-- the retired slots whose sets wait: they were not reaped
abbrev pub waiting : List Bool → List Retired → List Retired
waiting flags retired = not_passed (λ slot. slice_index_or flags slot false) retired

-- those of them of which all readers that have a word were heard
abbrev pub ready : ℕ → List ℕ → List Bool → List Retired → List Retired
ready announcers heard flags retired =
    not_passed (λ slot. slice_index_or flags slot false || nat_lt (slice_index heard slot) announcers) retired

-- after those polls, with what they noted
abbrev pub probed : List Past → List LoggedLoad → View → View
probed notes polls view =
    record view {
      steps = view.steps + length polls;
      marks = with_scan view.marks (view.marks.polls ++ notes) (view.marks.loads ++ polls);
    }

abbrev pub reaping : ℕ → View → View
reaping slot view = record view { marks = with_reaped view.marks slot }

abbrev pub ready_in : SlotLists → View → List Retired
ready_in lists view = ready view.announcers view.heard lists.reaped lists.retired

abbrev pub SweepsFor : SlotLists → MapSeat → MapSeat → Sweep → Type 0
SweepsFor lists old new (sweep.Free slot) =
    (held later : List Retired) × (entry : Retired) × (notes : List Past)
    × (ready_in lists (view_of old) ≡ held ++ entry ∷ later) × HeldEach (view_of old).shape.readers held notes
    × (slot ≡ entry.slot) × (slot < lists.slots)
    × (view_of new ≡ reaping slot (probed notes (held_polls held ++ OfSlot slot true ∷ []) (view_of old)))
SweepsFor lists old new sweep.Held =
    (notes : List Past) × (0 < length (waiting lists.reaped lists.retired))
    × HeldEach (view_of old).shape.readers (ready_in lists (view_of old)) notes
    × (view_of new ≡ probed notes (held_polls (ready_in lists (view_of old))) (view_of old))
SweepsFor lists old new sweep.Nothing = (waiting lists.reaped lists.retired ≡ []) × (view_of new ≡ view_of old)

-- whether one of those sets waits; else nothing was polled
abbrev pub SomeWait : List Retired → View → View → Bool → Type 0
SomeWait waiting before now true = 0 < length waiting
SomeWait waiting before now false = (waiting ≡ []) × (now ≡ before)

-- the slots before that place that are ready
abbrev pub ready_before : SlotLists → View → ℕ → List Retired
ready_before lists view place = ready view.announcers view.heard lists.reaped (take place lists.retired)

-- a slot is passed by whose set was reaped, or which isn't heard
abbrev pub is_passed : SlotLists → View → ℕ → Bool
is_passed lists view slot =
    slice_index_or lists.reaped slot false || nat_lt (slice_index view.heard slot) view.announcers

-- the sweep so far: each slot that it polled was held
pub record SweptTo (lists : SlotLists) (before now : MapSeat) (place : ℕ) (waits : Bool) : Type 0 where
  pub own : now.table_id ≡ before.table_id
  pub held : HeldTo (ready_before lists (view_of before) place) (view_of before) (view_of now)
  pub view : view_of now
      ≡ record (view_of before) {
        steps = (view_of before).steps + length (ready_before lists (view_of before) place);
        marks = (view_of now).marks;
      }
  pub some_wait : SomeWait (waiting lists.reaped (take place lists.retired)) (view_of before) (view_of now) waits

-- a sweep; or, where readers have words, one that was in vain, a scan, and another sweep
abbrev pub SweepsHeard : SlotLists → MapSeat → MapSeat → Sweep → Type 0
SweepsHeard lists old new found =
    (SweepsFor lists old new found × (found ≡ sweep.Held → (view_of old).announcers ≡ 0))
    ⊎ ((0 < (view_of old).announcers) × (mid last : MapSeat) × SweepsFor lists old mid sweep.Held
    × (loads : List LoggedLoad)
    × WordsTell (view_of old).announcers lists.retired (view_of old).shape.slots loads (view_of last).heard
    × (view_of last ≡ scanned_to loads (view_of last).heard (view_of mid)) × SweepsFor lists last new found)

-- THE CALL

-- the caller after those polls and loads of words, with what they noted and heard, and that many steps more
abbrev pub after_polls : List Past → List LoggedLoad → List ℕ → ℕ → Caller → Caller
after_polls notes loads heard more caller =
    record caller {
      steps = caller.steps + (length loads + more);
      marks = with_scan caller.marks (caller.marks.polls ++ notes) (caller.marks.loads ++ loads);
      heard = heard;
    }

abbrev pub with_reap : ℕ → Caller → Caller
with_reap slot caller = record caller { marks = with_reaped caller.marks slot }

abbrev pub ready_to : Caller → List ℕ → List Retired
ready_to caller heard = ready caller.table.announcers heard caller.marks.reaped caller.retired

-- before its last sweep a reap loads nothing, or, where readers have words, it polls each set that is ready, in vain,
-- and then scans the words
abbrev pub ScansFirst : Caller → List ℕ → List LoggedLoad → List Past → Type 0
ScansFirst old scanned loads earlier =
    ((scanned ≡ old.heard) × (loads ≡ []) × (earlier ≡ []))
    ⊎ ((0 < old.table.announcers) × HeldEach old.table.shape.readers (ready_to old old.heard) earlier
    × (scan : List LoggedLoad) × WordsTell old.table.announcers old.retired old.table.shape.slots scan scanned
    × (loads ≡ held_polls (ready_to old old.heard) ++ scan))

-- a reap that gives out the set of that entry, by a poll of each that is ready up to it
pub record ReapsSet {Room : Type 0} (shows : Room → List Row → Type 0) (old new : Caller) (after : Room) : Type 0 where
  pub held : List Retired
  pub later : List Retired
  pub entry : Retired
  pub notes : List Past
  pub earlier : List Past
  pub scanned : List ℕ
  pub loads : List LoggedLoad
  pub first : ScansFirst old scanned loads earlier
  pub split : ready_to old scanned ≡ held ++ entry ∷ later
  pub each : HeldEach old.table.shape.readers held notes
  pub shown : shows after (set_in old.marks entry.slot)
  pub row_set : IsRowSet old.table.shape.rows (set_in old.marks entry.slot)
  pub new_is : new
      ≡ with_reap entry.slot
      (after_polls (earlier ++ notes) (loads ++ (held_polls held ++ OfSlot entry.slot true ∷ [])) scanned
      (2 * length (set_in old.marks entry.slot) + 1) old)

-- A reap gives out the oldest set that waits, that no reader's word announced and that nobody holds, by a poll of each
-- up to it and a load of each word. Or each that waits is kept back: it was announced when the words were scanned, or
-- held at its poll, each by another reader. Or none waits. Else the token is as it was.
abbrev pub ReapsIn : {Room : Type 0} → (Room → List Row → Type 0) → Caller → Room → Caller → Room → Reaped → Type 0
ReapsIn shows old before new after reaped.Set = ReapsSet shows old new after
ReapsIn shows old before new after reaped.Held =
    (notes earlier : List Past) × (scanned : List ℕ) × (loads : List LoggedLoad) × ScansFirst old scanned loads earlier
    × (0 < old.table.announcers → 0 < length loads)
    × (0 < length (waiting old.marks.reaped old.retired))
    × HeldEach old.table.shape.readers (ready_to old scanned) notes
    × (new ≡ after_polls (earlier ++ notes) (loads ++ held_polls (ready_to old scanned)) scanned 0 old)
    × (after ≡ before)
ReapsIn shows old before new after reaped.Nothing =
    (waiting old.marks.reaped old.retired ≡ []) × (new ≡ old) × (after ≡ before)
