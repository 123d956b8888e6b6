-- A call that reads what its taken slot had stands as if it had made these steps before it looked for the slot: they
-- tell it nothing.
use Rattle.std.proofs.Common.{◌≡◌, ℕ, ◌+◌, ◌∙◌, List, refl, sym, ap, arith}
use Rattle.nr_model.specs.Histories.{Entry}
use Rattle.nr_model.specs.declared.rows.Row.{Row}
use Rattle.nr_core.specs.SlotLists.{SlotLists}
use Rattle.nr_core.specs.declared.calls.WriterCall.{WriterCall}
use Rattle.nr_core.specs.declared.roles.Desk.{Desk}
use Rattle.nr_core.specs.Marks.{Marks, set_in}
use Rattle.nr_board.specs.Begins.{HasSet}
use Rattle.nr_board.specs.Callers.{Caller, Grows, Table, caller_of, token}
use Rattle.nr_board.specs.Meetings.{with_steps}
use Rattle.nr_board.specs.Recalls.{later, waited}
use Rattle.nr_board.specs.Views.{View}
use Rattle.nr_board.specs.WriterSeats.{MapSeat, TakesSlot, WritesAt, RestsAt}
use Rattle.nr_board.specs.declared.answers.Reclaimed.{Reclaimed}
use Rattle.nr_board.specs.Reclaiming.{HandsOut}
use Rattle.nr_board.specs.SlotLists.{lists_of}

-- the slots that a resting token shows
pub lists_shown : (table : Table) (lists : SlotLists) (seat : MapSeat) → RestsAt table lists seat
    → lists_of (token seat) ≡ lists
lists_shown table lists seat rests = grind arith

waited_token : (mid new : MapSeat) (steps : ℕ) → new.table_id ≡ mid.table_id → new.me.0 ≡ waited steps mid.me.0
    → token new ≡ with_steps steps (token mid)
waited_token mid new steps same waits = λ j. caller_of (same j) (waits j)

-- the same growth between tokens that counted otherwise
grows_counted : {made : ℕ} {entries : List Entry} {old new : Caller} → Grows made entries old new
    → (sum before after : ℕ) → after ≡ before + sum
    → Grows sum entries (record old { steps = before }) (record new { steps = after })
grows_counted grows sum before after count = search (grows, count)

-- the steps are its own
pub grows_with : (steps made sum : ℕ) (old : Caller) (entries : List Entry) (new : Caller) → sum ≡ made + steps
    → Grows made entries (with_steps steps old) new → Grows sum entries old new
grows_with steps made sum old entries new is grows =
    grows_counted grows sum old.steps new.steps (omega (arith, grows.steps_made))

writes_later : (table : Table) (desk : Desk) (mid new : MapSeat) (steps : ℕ) → new.table_id ≡ mid.table_id
    → new.me.0 ≡ waited steps mid.me.0 → WritesAt table desk mid → WritesAt table desk new
writes_later table desk mid new steps same waits writes = record {
  own = (λ j. record { id = same j; shape = (waits j).shape; announcers = (waits j).announcers }) ∙ writes.own;
  role = ap (λ (v : View). v.role) waits ∙ writes.role;
  room = writes.room;
  numbers = rw waits writes.numbers;
}

-- the slot is taken still
pub takes_later : (table : Table) (call : WriterCall) (rows : List Row) (slot departed : ℕ) (lists after : SlotLists)
    (old mid new : MapSeat) (steps : ℕ)
    → TakesSlot table call rows old lists mid after slot departed → new.table_id ≡ mid.table_id
    → new.me.0 ≡ waited steps mid.me.0
    → TakesSlot table call rows (later steps old) lists new after slot departed
takes_later table call rows slot departed lists after old mid new steps takes same waits = record {
  steps = takes.steps;
  loads = takes.loads;
  took = rw (ap (λ (v : View). v.heard) waits) takes.took;
  few = takes.few;
  slots = takes.slots;
  numbers = takes.numbers;
  reaped = takes.reaped;
  writes = writes_later table _ mid new steps same waits takes.writes;
  grows =
      rw (waited_token mid new steps same waits)
      (grows_counted takes.grows takes.steps (old.me.0.steps + steps) (mid.me.0.steps + steps)
      (omega (arith, takes.grows.steps_made)));
  marks = rw waits takes.marks;
}

-- what the call gives out, as contracts see it
pub given_out : {Room : Type 0} (shows : Room → List Row
    → Type 0) {table : Table} {lists : SlotLists} {made : ℕ} {call : WriterCall} {rows : List Row}
    {before mid : MapSeat} (slot taken : ℕ) (room then : Room) (steps : ℕ) (given : Reclaimed)
    → HasSet table lists made call rows before mid
    → (token before).table ≡ table → slot ≡ taken
    → HandsOut shows table.shape.rows lists taken (set_in mid.me.0.marks taken) room then steps given
    → HandsOut shows (token before).table.shape.rows (lists_of (token before)) slot (set_in before.me.0.marks slot)
    room then steps given
given_out shows {table = table} {lists = lists} {before = before} {mid = mid} slot taken room then steps given set own
    same out =
    rw (
      ap (λ (t : Table). t.shape.rows) own,
      lists_shown table lists before set.rests,
      same,
      ap (λ (m : Marks). set_in m taken) (sym set.marks),
    ) out

-- a call that has its set has it still
pub set_later : {table : Table} {lists : SlotLists} {made : ℕ} {call : WriterCall} {rows : List Row} {before
    mid : MapSeat} (steps : ℕ)
    → HasSet table lists made call rows before mid
    → HasSet table lists (made + steps) call rows before (later steps mid)
set_later {table = table} {made = made} {before = before} {mid = mid} steps set =
    let settles = set.settles in
    let grows = set.grows in
    record {
      rests = set.rests;
      settles = record {
        slots = settles.slots;
        writes = writes_later table _ mid (later steps mid) steps refl refl settles.writes;
        short = λ counts without. assumption (settles.short counts without);
        knows = assumption settles.knows;
        polls = settles.polls;
      };
      grows =
          grows_counted grows (made + steps) (token before).steps ((token mid).steps + steps)
          (omega (arith, grows.steps_made));
      marks = set.marks;
      heard = set.heard;
    }
