-- The search for a slot: each retired one is polled in order, until one is not held.
use Rattle.std.proofs.Common.{◌≡◌, ℕ, ◌+◌, ◌-◌, ◌<◌, ◌≤◌, List, [], ◌∷◌, ◌++◌, length-append, Bool, true, false, cond}
use Rattle.std.proofs.Common.{length, refl, sym, ap, ◌∙◌, subst, arith, append-nil, ◌⊎◌, inl, inr, get_or, take}
use Rattle.std.proofs.Common.{take_all}
use Rattle.nr_core.proofs.ListPlaces.{inside}
use Rattle.std.proofs.lemmas.Bool.{lt-ltb, le-ltb}
use Rattle.std.specs.Prelude.{nat_lt, remove}
use Rattle.nr_words.specs.KeyWords.{same_count}
use Rattle.nr_core.proofs.Choices.{on_test}
use Rattle.nr_core.specs.States.{retired_at}
use Rattle.nr_model.specs.Histories.{Entry}
use Rattle.nr_model.specs.declared.calls.Call.{Call}
use Rattle.nr_model.specs.declared.rows.Row.{Row}
use Rattle.nr_core.specs.Story.{call_of, ending}
use Rattle.nr_core.specs.Writer.{desk_in, moved_to, no_slot, polled, polls_on, settled, step_in, taking_fresh}
use Rattle.nr_core.specs.Writer.{taking_retired}
use Rattle.nr_core.specs.declared.calls.NoSlot.{NoSlot}
use Rattle.nr_core.specs.declared.calls.Step.{Step}
use Rattle.nr_core.specs.declared.calls.Step.TheVariants.{Ended, Going}
use Rattle.nr_core.specs.declared.calls.WriterCall.{WriterCall}
use Rattle.nr_core.specs.declared.places.Place.TheVariants.{Idle, Putting, Searching}
use Rattle.nr_core.specs.declared.places.Retired.{Retired}
use Rattle.nr_core.specs.declared.roles.Desk.{Desk}
use Rattle.nr_core.specs.declared.shape.Shape.{Shape}
use Rattle.nr_board.proofs.HeldSlots.{held_many, none_passed, polled_before, up_to_polled, misses_probe, note_kept}
use Rattle.nr_board.proofs.HeldSlots.{slot_kept, vain_free, vain_none, vain_on}
use Rattle.nr_board.proofs.Passes.{takes_by}
use Rattle.nr_board.proofs.PollNotes.{StandsAt, at_get, there_is}
use Rattle.nr_board.proofs.Tokens.{grows_none}
use Rattle.nr_board.proofs.WordLoads.{no_loads}
use Rattle.nr_board.specs.Callers.{Grows, Table, token}
use Rattle.nr_board.specs.HeldSlots.{FindsFree, InVain}
use Rattle.nr_board.specs.Plays.{Lacks}
use Rattle.nr_board.specs.SearchSeats.{SearchesIn}
use Rattle.nr_core.specs.SlotLists.{SlotLists, all_taken}
use Rattle.nr_board.specs.SlotLists.{desk_with, heard_all, held_polls, not_passed, polls_to}
use Rattle.nr_core.proofs.ExactPlace.{noted_more, noted_none}
use Rattle.nr_core.specs.MarkSteps.{PollTells}
use Rattle.nr_core.specs.Marks.{Marks, Past, with_scan}
use Rattle.nr_core.specs.PollNotes.{Noted}
use Rattle.nr_board.specs.WriterSeats.{GoesOn, GoesTo, LacksSlot, LeadsIn, MapSeat, Settles, swept, TakesSlot, WritesAt}
use Rattle.nr_core.specs.declared.calls.WReply.TheVariants as writer

-- a search of a counted map passes no slot by
abbrev none_by : ℕ → Bool
none_by slot = false

-- the search so far
pub record Searched (table : Table) (call : WriterCall) (rows : List Row) (lists : SlotLists) (before after : MapSeat)
    (polls : ℕ) : Type 0 where
  pub slots : lists.slots ≡ table.shape.slots
  pub writes : WritesAt table (desk_in (swept table.shape (desk_with lists Idle) call rows polls)) after
  pub short : (counts : NoSlot)
      → step_in (swept table.shape (desk_with lists Idle) call rows polls) ≡ Ended (writer.NoSlot counts)
      → Lacks (call_of call) counts (token after)
  pub noted : Noted table.shape before.me.0.pasts after.me.0.marks.polls
  pub begun : before.me.0.marks.polls ≡ []
  pub many : length after.me.0.marks.polls ≡ polls
  pub vain : InVain (not_passed none_by (take polls lists.retired)) before after

module _ (shape : Shape) (desk : Desk) (call : WriterCall) (rows : List Row) where
  abbrev on_to : ℕ → Desk × Step
  on_to polls = (moved_to desk (Searching call rows polls), Going)

  abbrev none_left : Desk × Step
  none_left = (moved_to desk Idle, no_slot shape desk)

  swept_more : (polls : ℕ) → polls < length desk.retired → swept shape desk call rows polls ≡ on_to polls
  swept_more polls low =
      rw (lt-ltb polls (length desk.retired) low) refl

  pub swept_all : (polls : ℕ) → length desk.retired ≤ polls → swept shape desk call rows polls ≡ none_left
  swept_all polls all =
      rw (le-ltb polls (length desk.retired) all) refl

  swept_quiet : (c : Call) (polls : ℕ) → ending c (swept shape desk call rows polls).1 ≡ []
  swept_quiet c polls =
      on_test (λ (o : Desk × Step). ending c o.1 ≡ []) (nat_lt polls (length desk.retired)) (λ _. refl) (λ _. refl)

  -- a call that finds no slot that was never taken begins to poll, or has none
  settled_swept : shape.slots ≤ desk.fresh → settled shape desk call rows ≡ swept shape desk call rows 0
  settled_swept full = grind arith

-- the search begins
pub searched_none : {table : Table} {call : WriterCall} {rows : List Row} {lists : SlotLists} {seat : MapSeat}
    → Settles table call rows lists seat → lists.slots ≤ lists.fresh → Searched table call rows lists seat seat 0
searched_none {table = table} {call = call} {rows = rows} {lists = lists} {seat = seat} settles full =
    let size = settles.slots in
    let is = settled_swept table.shape (desk_with lists Idle) call rows (omega arith) in record {
      slots = settles.slots;
      writes = subst (λ (o : Desk × Step). WritesAt table o.0 seat) is settles.writes;
      short = λ counts without. settles.short counts (ap (λ (o : Desk × Step). o.1) is ∙ without);
      noted = subst (Noted table.shape seat.me.0.pasts) (sym settles.polls) (noted_none table.shape seat.me.0.pasts);
      begun = settles.polls;
      many = ap length settles.polls;
      vain = vain_none settles.knows;
    }

module
    _ {table : Table} {call : WriterCall} {rows : List Row} {lists : SlotLists} {before mid : MapSeat} {polls : ℕ}
    (so_far : Searched table call rows lists before mid polls) where
  abbrev desk_now : Desk
  desk_now = desk_with lists (Searching call rows polls)

  pub searching_at : polls < length lists.retired → WritesAt table desk_now mid
  searching_at low =
      rw (swept_more table.shape (desk_with lists Idle) call rows polls low) at so_far.writes

  module _ {entry : Retired} (here : StandsAt lists.retired polls entry) {found : ℕ} {after : MapSeat}
      (goes : GoesOn table found mid after) where
    low : polls < length lists.retired
    low = inside lists.retired polls entry here.is

    abbrev this : Retired
    this = retired_at desk_now polls

    entry_is : entry ≡ this
    entry_is = there_is lists.retired polls entry here.is

    told : GoesTo table desk_now found mid after
    told = goes desk_now (searching_at low).role

    -- where the poll leads by its answer
    abbrev Outcome : Bool → Desk × Step
    Outcome answer =
        cond {A = Desk × Step} answer (taking_retired desk_now call rows polls found, Going)
        (polls_on table.shape desk_now call rows polls)

    told_of : (answer : Bool) → same_count found entry.arrivals ≡ answer
        → (polled table.shape desk_now call rows polls found ≡ Outcome answer)
        × LeadsIn 1 table (call_of call) (Outcome answer) mid after
        × PollTells answer table.shape mid.me.0.pasts desk_now call polls after.me.0.seen mid.me.0.marks
        after.me.0.marks
    told_of answer agree =
        let agrees = ap (λ (e : Retired). same_count found e.arrivals) (sym entry_is) ∙ agree in
        let outcome = ap Outcome agrees in (
          outcome,
          rw outcome at told.leads,
          rw agrees at told.marks.1,
        )

    readers_are : table.shape.readers ≡ before.me.0.shape.readers
    readers_are = ap (λ (t : Table). t.shape.readers) (sym (searching_at low).own ∙ so_far.vain.grows.table)

    -- the slot is not held: it is taken
    pub takes_at : table.announcers ≡ 0 → lists.slots ≤ lists.fresh → same_count found entry.arrivals ≡ true
        → TakesSlot table call rows before lists after (record lists { retired = remove lists.retired polls })
        entry.slot found
    takes_at counted full agree =
        let (_, leads, same) = told_of true agree in
        let heard = before.me.0.heard in
        let all : heard_all table.announcers heard (take polls lists.retired)
        ≡ not_passed none_by (take polls lists.retired)
        = λ j. not_passed (λ slot. le-ltb (get_or heard slot 0) table.announcers (omega arith) j)
        (take polls lists.retired) in
        let loads = polls_to table.announcers heard lists.retired polls this.slot in
        let free : FindsFree loads before after
        = rw all (vain_free so_far.vain this leads.grows told.heard same) in
        rw entry_is (takes_by polls loads full (at_get lists.retired polls low) refl refl
        (omega arith, inl (free.heard, refl))
        (omega (arith, free.few, readers_are), λ _. omega (arith, free.few, readers_are))
        leads.writes free.grows free.marks)

    -- the slot is held: the search goes on, or there is none
    pub searched_more : same_count found entry.arrivals ≡ false
        → Searched table call rows lists before after (polls + 1)
    searched_more apart =
        let (outcome, leads, polled_so) = told_of false apart in
        let missed = polled_so.1 in
        let quiet = swept_quiet table.shape (desk_with lists Idle) call rows (call_of call) (polls + 1) in
        let seen_is : after.me.0.seen ≡ told.log
        = told.seen
        ∙ ap (λ (l : List Entry). told.log ++ l)
        (ap (λ (o : Desk × Step). ending (call_of call) o.1) outcome ∙ quiet)
        ∙ append-nil told.log in
        let this_here : StandsAt lists.retired polls this = record { is = at_get lists.retired polls low } in
        record {
          slots = so_far.slots;
          writes = leads.writes;
          short = leads.short;
          noted =
              noted_more table.shape before.me.0.pasts mid.me.0.marks.polls this.slot after.me.0.marks.polls
              so_far.noted
              (rw (sym so_far.vain.grows.pasts) missed);
          begun = so_far.begun;
          many =
              omega (
                arith,
                ap length missed.more,
                length-append mid.me.0.marks.polls (missed.note ∷ []),
                so_far.many,
              );
          vain =
              rw (up_to_polled none_by this_here refl)
              (vain_on so_far.vain this
              (subst (λ (l : List Entry). Grows 1 l (token mid) (token after)) quiet leads.grows)
              told.heard table.shape readers_are (polled_before none_by this_here (searching_at low).room.apart)
              (rw seen_is told.notes)
              (misses_probe table.shape mid.me.0.pasts mid.me.0.marks after.me.0.marks this.slot polled_so.0 missed));
        }

-- every retired slot was found held
pub lacks_slot : {table : Table} {call : WriterCall} {rows : List Row} {lists : SlotLists} {before after : MapSeat}
    {polls : ℕ}
    → Searched table call rows lists before after polls → (table.announcers ≡ 0) ⊎ (lists.retired ≡ [])
    → polls ≡ length lists.retired → LacksSlot table call before lists after lists
    (all_taken lists)
lacks_slot {table = table} {call = call} {rows = rows} {lists = lists} {before = before} {after = after} {polls = polls}
    so_far counted all =
    let is = swept_all table.shape (desk_with lists Idle) call rows polls (omega arith) in
    let each = rw (take_all polls lists.retired (omega arith)) at so_far.vain in
    let whole = none_passed none_by lists.retired (λ _. refl) in
    let polls_are : after.me.0.marks.polls ≡ each.held.notes
    = ap (λ (m : Marks). m.polls) each.held.marks ∙ ap (λ (l : List Past). l ++ each.held.notes) so_far.begun in
    record {
      same = refl;
      writes = subst (λ (o : Desk × Step). WritesAt table o.0 after) is so_far.writes;
      steps = length lists.retired;
      loads = held_polls lists.retired;
      searched = inl (counted, each.heard, refl, sym (held_many lists.retired));
      grows = rw whole at each.grows;
      lacks =
          so_far.short (all_taken lists)
          (ap (λ (o : Desk × Step). o.1) is
          ∙ ap
          (λ (n : ℕ). Ended
          (writer.NoSlot (record { live = n - length lists.retired; held = length lists.retired })))
          (sym so_far.slots));
      noted = λ _. so_far.noted;
      kept = record {
        slots = λ slot waits. let t = slot_kept none_by lists.retired each slot waits refl in
            rw polls_are (t.0, t.1, t.2, inl t.3);
        keepers = λ at note there. let t = note_kept none_by lists.retired each at note (rw polls_are at there) in
            (t.0, t.1, inl t.2);
        range = so_far.noted.range;
      };
      marks =
          each.held.marks
          ∙ (λ j. with_scan before.me.0.marks (ap (λ (m : Marks). m.polls) (sym each.held.marks) j)
          (before.me.0.marks.loads ++ held_polls (whole j)));
    }

-- a slot is taken that was never taken, without a step
pub takes_fresh : (table : Table) (call : WriterCall) (rows : List Row) (lists after : SlotLists) (seat : MapSeat)
    (slot : ℕ)
    → Settles table call rows lists seat
    → lists.fresh < lists.slots → slot ≡ lists.fresh → after ≡ record lists { fresh = lists.fresh + 1 }
    → TakesSlot table call rows seat lists seat after slot table.shape.first_count
takes_fresh table call rows lists after seat slot settles low slot_is after_is =
    let shape = table.shape in
    let desk = desk_with lists Idle in
    let size = settles.slots in
    let outcome : settled shape desk call rows ≡ (taking_fresh shape desk call rows, Going)
    = rw (lt-ltb lists.fresh shape.slots (omega arith)) refl in
    record {
      steps = 0;
      loads = [];
      took =
          inl (
            low,
            slot_is,
            refl,
            ap (λ (s : SlotLists). s.fresh) after_is,
            ap (λ (s : SlotLists). s.retired) after_is,
            refl,
            refl,
          );
      few = (omega arith, λ _. omega arith);
      slots = ap (λ (s : SlotLists). s.slots) after_is;
      numbers = ap (λ (s : SlotLists). s.numbers) after_is;
      reaped = ap (λ (s : SlotLists). s.reaped) after_is;
      writes =
          subst (λ (p : ℕ × SlotLists). WritesAt table (desk_with p.1 (Putting call rows p.0 shape.first_count 0)) seat)
          (λ j. (sym slot_is j, sym after_is j))
          (subst (λ (o : Desk × Step). WritesAt table o.0 seat) outcome settles.writes);
      grows = grows_none settles.knows;
      marks = no_loads seat.me.0.marks seat.me.0.marks.polls;
    }

-- WHERE READERS HAVE WORDS

module _ (table : Table) (call : WriterCall) (rows : List Row) (lists : SlotLists) (before : MapSeat)
    (settles : Settles table call rows lists before) (full : lists.slots ≤ lists.fresh)
    (some_words : 0 < table.announcers) where
  -- where no slot is retired the look was the call's last step
  pub lacks_none : lists.retired ≡ [] → LacksSlot table call before lists before lists (all_taken lists)
  lacks_none none =
      lacks_slot (searched_none settles full) (inr none) (sym (ap length none))

  module _ (waits : 0 < length lists.retired) where
    abbrev desk : Desk
    desk = desk_with lists (Searching call rows 0)

    pub begun : WritesAt table desk before
    begun =
        searching_at (searched_none settles full) waits

    pub searches_in : SearchesIn table lists before
    searches_in =
        record {
          search = record {
            own = begun.own;
            desk = desk;
            role = begun.role;
            room = begun.room;
            call = call;
            rows = rows;
            place = refl;
          };
          retired = refl;
          slots = settles.slots;
        }
