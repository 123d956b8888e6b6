-- A pass of a search, slot by slot.
use Rattle.std.proofs.lemmas.Bool.{ltb-false}
use Rattle.std.proofs.Common.{◌≡◌, ℕ, ◌+◌, ◌<◌, ◌≤◌, inr, List, [], ◌++◌, Bool, true, false, cond, length, refl, sym}
use Rattle.std.proofs.Common.{ap, ◌∙◌, subst}
use Rattle.std.specs.Prelude.{remove}
use mathlib.Core.Option.{some}
use lib.ListN.{get_elem?}
use Rattle.nr_core.specs.SlotLists.{SlotLists}
use Rattle.nr_core.specs.declared.places.Retired.{Retired}
use Rattle.nr_core.specs.MarkSteps.{TryTells}
use Rattle.nr_core.specs.Marks.{LoggedLoad, with_scan}
use Rattle.nr_board.proofs.HeldSlots.{polled_before, up_to_passed, up_to_polled, vain_free, vain_none, vain_on}
use Rattle.nr_board.proofs.PollNotes.{StandsAt, there_is}
use Rattle.nr_board.proofs.Tokens.{seat_grows}
use Rattle.nr_board.proofs.WriterSteps.{same_desk}
use Rattle.nr_board.specs.declared.publish.Taken.{Taken}
use Rattle.nr_board.specs.Callers.{Grows, IsSound, Table, token}
use Rattle.nr_board.specs.Passes.{PassTakes, PassedTo, is_unheard}
use Rattle.nr_board.specs.SearchPlays.{Tried, tried}
use Rattle.nr_board.specs.SearchSeats.{IsSearching, SearchesIn, TriesAt, TriesTo}
use Rattle.nr_board.specs.SlotLists.{AreFewSteps, SearchedTo, desk_with}
use Rattle.nr_board.proofs.WriterSeats.{leads_seat}
use Rattle.nr_board.specs.WriterSeats.{MapSeat, TakesSlot, WritesAt}
use Rattle.nr_core.specs.States.{retired_at}
use Rattle.nr_core.specs.Story.{call_of}
use Rattle.nr_core.specs.Writer.{taking_retired}
use Rattle.nr_core.specs.declared.calls.WriterCall.{WriterCall}
use Rattle.nr_core.specs.declared.places.Place.TheVariants.{Putting, Searching}
use Rattle.nr_core.specs.declared.roles.Desk.{Desk}
use Rattle.nr_core.specs.declared.roles.Role.TheVariants.{Writer}
use Rattle.nr_model.specs.declared.rows.Row.{Row}
use Rattle.nr_words.specs.KeyWords.{same_count}

pub passed_none : {table : Table} {lists : SlotLists} {seat : MapSeat} → SearchesIn table lists seat
    → IsSound (token seat) → PassedTo table lists seat seat 0
passed_none {table = table} {lists = lists} {seat = seat} searches knows = record {
  own = refl;
  role = refl;
  search = searches;
  polls = vain_none knows;
}

-- a search goes on at its desk
pub searches_on : {table : Table} {lists : SlotLists} {now next : MapSeat} → SearchesIn table lists now
    → (token next).table ≡ (token now).table → next.me.0.role ≡ now.me.0.role → SearchesIn table lists next
searches_on searches same role = record {
  search = search (same ∙ searches.search.own, role ∙ searches.search.role);
  retired = searches.retired;
  slots = searches.slots;
}

module
    _ {table : Table} {lists : SlotLists} {before now : MapSeat} {place : ℕ} {entry : Retired}
    (so_far : PassedTo table lists before now place) (here : StandsAt lists.retired place entry) where
  abbrev passes : ℕ → Bool
  passes = is_unheard table.announcers before.me.0.heard

  here_now : get_elem? so_far.search.search.desk.retired place ≡ some entry
  here_now = rw so_far.search.retired here.is

  pub entry_inside : entry.slot < table.shape.slots
  entry_inside = so_far.search.search.room.inside place entry here_now

  pub passed_by : passes entry.slot ≡ true → PassedTo table lists before now (place + 1)
  passed_by gone =
      let polls = rw (← up_to_passed passes here gone) at so_far.polls in assumption

  -- the slot may be polled
  pub tries_at : passes entry.slot ≡ false → TriesAt table entry now
  tries_at free = record {
    search = so_far.search.search;
    poll = place;
    here = here_now;
    heard = rw so_far.polls.heard (ltb-false _ _ free);
  }

  module _ (free : passes entry.slot ≡ false) (found : ℕ) (next : MapSeat)
      (same : next.table_id ≡ now.table_id) (tells : TriesTo entry found now.me.0 next.me.0) where
    abbrev search_now : IsSearching table now
    search_now = so_far.search.search

    -- what the poll tells by its answer, whatever the desk is named
    abbrev Tells : Desk → WriterCall → List Row → Bool → Type 0
    Tells desk call rows answer =
        Tried desk call rows place found now.me.0 next.me.0
        × (tried desk call rows place found ≡ cond {A = Desk} answer (taking_retired desk call rows place found) desk)
        × TryTells answer now.me.0.shape entry.slot now.me.0.marks next.me.0.marks

    told_of : (desk : Desk) (call : WriterCall) (rows : List Row) → now.me.0.role ≡ Writer desk
        → desk.place ≡ Searching call rows 0 → (answer : Bool) → same_count found entry.arrivals ≡ answer
        → Tells desk call rows answer
    told_of desk call rows is is_at answer agree =
        let there : get_elem? desk.retired place ≡ some entry
        = ap (λ (d : Desk). get_elem? d.retired place)
        (sym (same_desk now.me.0.role search_now.desk desk search_now.role is))
        ∙ here_now in
        let entry_is = there_is desk.retired place entry there in
        let agrees : same_count found (retired_at desk place).arrivals ≡ answer
        = ap (λ (e : Retired). same_count found e.arrivals) (sym entry_is) ∙ agree in
        let mine = tells desk call rows place is is_at there in (
          mine,
          ap (λ (b : Bool). cond {A = Desk} b (taking_retired desk call rows place found) desk) agrees,
          rw (agrees, sym entry_is) at mine.marks,
        )

    own_told : (answer : Bool) → same_count found entry.arrivals ≡ answer
        → Tells search_now.desk search_now.call search_now.rows answer
    own_told = told_of search_now.desk search_now.call search_now.rows search_now.role search_now.place

    told : Tells search_now.desk search_now.call search_now.rows (same_count found entry.arrivals)
    told = own_told (same_count found entry.arrivals) refl

    one : Grows 1 [] (token now) (token next)
    one = seat_grows now next [] same told.0.leads.advances

    pub passed_more : same_count found entry.arrivals ≡ false → PassedTo table lists before next (place + 1)
    passed_more apart =
        let (_, stays, noted) = own_told false apart in
        let role = told.0.leads.role ∙ ap Writer stays ∙ sym search_now.role in record {
          own = same ∙ so_far.own;
          role = role ∙ so_far.role;
          search = searches_on so_far.search one.table role;
          polls =
              rw (up_to_polled passes here free)
              (vain_on so_far.polls entry one told.0.heard now.me.0.shape
              (ap (λ (t : Table). t.shape.readers) so_far.polls.grows.table)
              (polled_before passes here (rw so_far.search.retired at search_now.room.apart)) told.0.notes noted);
        }

    pub pass_takes : same_count found entry.arrivals ≡ true → {taken : Taken} → taken.slot ≡ entry.slot
        → taken.departures ≡ found → {after : SlotLists} → after ≡ record lists { retired = remove lists.retired place }
        → PassTakes table before lists next after taken
    pass_takes agree slot_is departed is =
        let (_, _, marked) = own_told true agree in record {
          place = place;
          entry = entry;
          here = here.is;
          slot = slot_is;
          after_is = is;
          writes = λ desk call rows is_desk is_at.
              let (mine, goes, _) = told_of desk call rows (so_far.role ∙ is_desk) is_at true agree in
              let desk_is = goes ∙ ap (taking_retired desk call rows place) (sym departed) in
              subst (λ (d : Desk). WritesAt table d next) desk_is
              (leads_seat table now next same search_now.own (call_of call) _ mine.leads).writes;
          all_heard = rw slot_is (ltb-false _ _ free);
          free = rw slot_is (vain_free so_far.polls entry one told.0.heard marked);
        }

-- a call takes the slot that its search found free
pub takes_by : {table : Table} {call : WriterCall} {rows : List Row} {lists after : SlotLists} {before now : MapSeat}
    (place : ℕ) {slot departed : ℕ} {entry : Retired} (loads : List LoggedLoad)
    → lists.slots ≤ lists.fresh → get_elem? lists.retired place ≡ some entry → slot ≡ entry.slot
    → after ≡ record lists { retired = remove lists.retired place }
    → SearchedTo table before.me.0.heard now.me.0.heard loads lists.retired place slot
    → AreFewSteps table (length loads)
    → WritesAt table (taking_retired (desk_with lists (Searching call rows 0)) call rows place departed) now
    → Grows (length loads) [] (token before) (token now)
    → now.me.0.marks ≡ with_scan before.me.0.marks now.me.0.marks.polls (before.me.0.marks.loads ++ loads)
    → TakesSlot table call rows before lists now after slot departed
takes_by {table = table} {call = call} {rows = rows} {lists = lists} {now = now} place {slot = slot}
    {departed = departed} {entry = entry} loads full here slot_is is searched few writes grows marks =
    let this : (retired_at (desk_with lists (Searching call rows 0)) place).slot ≡ slot
    = ap (λ (e : Retired). e.slot) (sym (there_is lists.retired place entry here)) ∙ sym slot_is in
    record {
      steps = length loads;
      loads = loads;
      took =
          inr (
            full,
            place,
            entry,
            here,
            sym slot_is,
            searched,
            ap (λ (s : SlotLists). s.fresh) is,
            ap (λ (s : SlotLists). s.retired) is,
            refl,
          );
      few = few;
      slots = ap (λ (s : SlotLists). s.slots) is;
      numbers = ap (λ (s : SlotLists). s.numbers) is;
      reaped = ap (λ (s : SlotLists). s.reaped) is;
      writes =
          subst (λ (p : ℕ × SlotLists). WritesAt table (desk_with p.1 (Putting call rows p.0 departed 0)) now)
          (λ j. (this j, sym is j)) writes;
      grows = grows;
      marks = marks;
    }
