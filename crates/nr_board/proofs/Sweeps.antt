-- A reap, poll by poll: the slots whose sets wait are split into those that were found held and those that are still to
-- be polled.
use Rattle.std.proofs.Common.{take, ◌≡◌, ◌∙◌, ℕ, zero, suc, ◌+◌, ◌<◌, ◌≤◌, Bool, true, false, List, [], ◌∷◌, ◌++◌, ap}
use Rattle.std.proofs.Common.{arith, drop, get_or, length, length-append, refl, subst, sym}
use Rattle.std.proofs.lemmas.Bool.{ltb-false}
use Rattle.std.specs.Prelude.{nat_lt, ◌||◌}
use lib.ListN.{get_elem?}
use mathlib.Core.Option.{some, some-injective}
use Rattle.atomic_table.specs.Table.{Allows, Me}
use Rattle.nr_words.specs.KeyWords.{same_count}
use Rattle.nr_core.proofs.Learn.{learns}
use Rattle.nr_core.proofs.WordPlaces.{same_departures}
use Rattle.nr_core.specs.Roles.{holds, is_reader, is_writer}
use Rattle.atomic_table.proofs.Lists.{at_map}
use Rattle.nr_core.specs.Steps.{LoadsWord}
use Rattle.nr_core.specs.Slots.{departures}
use Rattle.nr_core.specs.SlotLists.{AreReaped, SlotLists}
use Rattle.nr_core.specs.States.{no_retired}
use Rattle.nr_core.specs.declared.operation.Operation.TheVariants.{Load}
use Rattle.nr_core.specs.declared.places.Place.TheVariants.{Idle}
use Rattle.nr_core.specs.declared.places.Retired.{Retired}
use Rattle.nr_core.specs.declared.roles.Desk.{Desk}
use Rattle.nr_core.specs.declared.roles.Role.TheVariants.{Writer}
use Rattle.nr_core.specs.declared.shape.Shape.{Shape}
use Rattle.nr_core.proofs.ReapMarks.{probes_marked}
use Rattle.nr_core.specs.Marks.{Marks, OfSlot, with_reaped, with_scan}
use Rattle.nr_core.specs.MarkSteps.{ProbeTells, ProbesMarks}
use Rattle.nr_board.proofs.HeldSlots.{held_many, polled_before, split_here, up_to_passed, up_to_polled, held_free}
use Rattle.nr_board.proofs.HeldSlots.{held_none, held_on}
use Rattle.nr_board.proofs.Lift.{knows_pasts, lends_on, lifts, sees_alone}
use Rattle.nr_board.proofs.Moves.{ActsGo, waited, waiting as learns_nothing}
use Rattle.nr_board.proofs.PollNotes.{StandsAt, at_get}
use Rattle.nr_board.specs.Callers.{Table}
use Rattle.nr_board.specs.Entries.{AreCallers}
use Rattle.nr_board.specs.Plays.{Room}
use Rattle.nr_board.specs.Reaping.{ProbesAt, ProbesTo, SomeWait, SweepsFor, SweptTo, is_passed, ready_before, waiting}
use Rattle.nr_board.specs.Rule.{Kept, marks_of, role_of}
use Rattle.nr_board.specs.SlotLists.{desk_with, held_polls, not_passed}
use Rattle.nr_board.specs.Views.{View, caller_number}
use Rattle.nr_board.specs.WriterSeats.{MapSeat, RestsAt}
use Rattle.nr_board.specs.declared.reaping.Sweep.TheVariants as sweep

-- THE POLL

probe_names : (b : Bool) (shape : Shape) (marks : Marks) (slot : ℕ) (now : Marks) → ProbeTells b shape slot marks now
    → now.names ≡ marks.names
probe_names true shape marks slot now told = ap (λ (m : Marks). m.names) told
probe_names false shape marks slot now told = ap (λ (m : Marks). m.names) told.1

pub probes_so : (shape : Shape) (slots id : ℕ) (me : Me (Unit {0}) View) (desk : Desk) (poll : ℕ) (entry : Retired)
    → me.0.role ≡ Writer desk → desk.place ≡ Idle → get_elem? desk.retired poll ≡ some entry
    → me.0.announcers ≤ get_or me.0.heard entry.slot 0
    → Allows (Kept shape) slots id me (departures shape entry.slot) (λ word. word)
    (λ found after. (other : Desk) (place : ℕ) (named : Retired) → me.0.role ≡ Writer other → other.place ≡ Idle
    → Room me.0.shape other
    → get_elem? other.retired place ≡ some named → departures shape entry.slot ≡ departures me.0.shape named.slot
    → ProbesTo me.0.shape named found me.0 after.0)
probes_so shape slots id me desk poll entry is idle here heard =
    let view = me.0 in
    let at_word : ℕ = departures shape entry.slot in
    let tells = LoadsWord view.role in
    let notes = ProbesMarks shape view.marks entry in
    let then : ℕ → View → Type 0
    = λ found next. (other : Desk) (place : ℕ) (named : Retired) → view.role ≡ Writer other → other.place ≡ Idle
    → Room view.shape other
    → get_elem? other.retired place ≡ some named → at_word ≡ departures view.shape named.slot
    → ProbesTo view.shape named found view next in
    lifts shape id view (Load at_word) tells notes slots me.1 then view.pasts (learns shape id view.role at_word)
    (probes_marked role_of marks_of shape id view view.pasts desk poll entry here idle is)
    (knows_pasts shape id view)
    (sees_alone shape id view (Load at_word) tells notes then entry.slot (ap is_writer is) heard refl (λ _. refl)
    (λ state kept at.
    ((kept.core.knows id (Writer desk) (at_map role_of state.views id view at ∙ ap some is)).retired poll entry
    here).0)
    (λ state kept at step. lends_on view step.after (λ slot. ap (holds slot) step.told.0)))
    (λ state kept there step marked. let found : ℕ = get_or kept.counted at_word 0 in
    let sized : view.shape ≡ shape
    = (kept.fits id view there).sized (let one : is_writer view.role ≡ 1 = ap is_writer is in omega arith) in
    let callers : AreCallers shape step.entries = subst (AreCallers shape) (sym step.told.1) tt in
    let acts : ActsGo view step.after step.entries marked.now
    = λ reads. absurd (let none : is_reader step.after ≡ 0 = ap is_reader (step.told.0 ∙ is) in omega arith) in
    learns_nothing kept there step marked (ap caller_number step.told.0) sized callers acts
    (λ _. probe_names (same_count found entry.arrivals) shape view.marks entry.slot marked.now marked.told.1)
    (then found) marked.told.0 step.told.1
    (λ _ other place named also still room here' at_word'.
    let one_desk : desk ≡ other = cc in
    let one_slot : entry.slot ≡ named.slot
    = same_departures shape entry.slot named.slot (at_word' ∙ ap (λ (s : Shape). departures s named.slot) sized) in
    let there' : get_elem? other.retired poll ≡ some entry
    = ap (λ (d : Desk). get_elem? d.retired poll) (sym one_desk) ∙ here in
    let one_place = room.apart poll place entry named there' here' one_slot in
    let one_entry : entry ≡ named
    = some-injective entry named (sym there' ∙ ap (get_elem? other.retired) one_place ∙ here') in
    subst (λ (p : Shape × Retired). ProbesTo p.0 p.1 found view (waited view step.after marked.now marked.news))
    (λ j. (sym sized j, one_entry j)) (
      λ j.
          record view {
            role = step.told.0 j;
            steps = view.steps + 1;
            marks = marked.now;
            pasts = marked.told.0 j ++ view.pasts;
          },
      marked.told.1,
    )))

-- THE SWEEP

-- the entry that is at a place of the list
pub entry_at : {retired : List Retired} {place end : ℕ} {entry : Retired} → entry ≡ get_or retired place no_retired
    → place < end → end ≡ length retired → StandsAt retired place entry
entry_at {retired = retired} {place = place} is low end_is =
    record { is = at_get retired place (omega arith) ∙ ap some (sym is) }

-- a retired slot is one of the map's
pub retired_near : {table : Table} {lists : SlotLists} {seat : MapSeat} {place : ℕ} {entry : Retired}
    → RestsAt table lists seat → StandsAt lists.retired place entry → entry.slot < lists.slots
retired_near {place = place} {entry = entry} rests here =
    omega (arith, rests.writes.room.inside place entry here.is, rests.slots)

pub swept_none : (lists : SlotLists) (seat : MapSeat) → SweptTo lists seat seat 0 false
swept_none lists seat =
    let steps : seat.me.0.steps ≡ seat.me.0.steps + 0 = omega arith in record {
      own = refl;
      held = held_none seat.me.0;
      view = λ j. record seat.me.0 { steps = steps j };
      some_wait = (refl, refl);
    }

module
    _ {lists : SlotLists} {before mid : MapSeat} {place : ℕ} {waits : Bool} {this : Retired}
    (so_far : SweptTo lists before mid place waits) (here : StandsAt lists.retired place this) where
  -- a slot is passed by whose set was reaped, or which is not heard
  abbrev reaped : ℕ → Bool
  reaped slot = get_or lists.reaped slot false

  abbrev unheard : ℕ → Bool
  unheard slot = nat_lt (get_or before.me.0.heard slot 0) before.me.0.announcers

  abbrev waiting_then : List Retired
  waiting_then = waiting lists.reaped (take (place + 1) lists.retired)

  passed : (now : Bool) → SomeWait waiting_then before.me.0 mid.me.0 now → is_passed lists before.me.0 this.slot ≡ true
      → SweptTo lists before mid (place + 1) now
  passed now some_wait gone =
      record {
        own = so_far.own;
        held = rw (up_to_passed (is_passed lists before.me.0) here gone) so_far.held;
        view = rw (up_to_passed (is_passed lists before.me.0) here gone) so_far.view;
        some_wait = some_wait;
      }

  pub swept_past : reaped this.slot ≡ true → SweptTo lists before mid (place + 1) waits
  swept_past gone =
      passed waits
      (rw (up_to_passed reaped here gone) so_far.some_wait) (ap (λ (b : Bool). b || unheard this.slot) gone)

  this_waits : reaped this.slot ≡ false → 0 < length waiting_then
  this_waits stays =
      omega (
        arith,
        ap length (up_to_polled reaped here stays),
        length-append (waiting lists.reaped (take place lists.retired)) (this ∷ []),
      )

  pub swept_unheard : reaped this.slot ≡ false → unheard this.slot ≡ true → SweptTo lists before mid (place + 1) true
  swept_unheard stays far = passed true (this_waits stays) (λ j. stays j || far j)

  module _ {table : Table} (rests : RestsAt table lists before) (stays : reaped this.slot ≡ false)
      (near : unheard this.slot ≡ false) (found : ℕ) (after : MapSeat) (own : after.table_id ≡ mid.table_id)
      (tells : ProbesTo table.shape this found mid.me.0 after.me.0) where
    polled : is_passed lists before.me.0 this.slot ≡ false
    polled = λ j. stays j || near j

    -- one step more
    view_on : after.me.0
        ≡ record before.me.0 {
          steps = before.me.0.steps + length (ready_before lists before.me.0 place) + 1;
          marks = after.me.0.marks;
        }
    view_on =
        tells.0 ∙ ap (λ (v : View). record v { steps = v.steps + 1; marks = after.me.0.marks }) so_far.view

    pub swept_more : same_count found this.arrivals ≡ false → SweptTo lists before after (place + 1) true
    swept_more apart =
        let passes = is_passed lists before.me.0 in
        let more = up_to_polled passes here polled in
        let steps : before.me.0.steps + length (ready_before lists before.me.0 place) + 1
        ≡ before.me.0.steps + length (ready_before lists before.me.0 (place + 1))
        = omega (arith, ap length more, length-append (ready_before lists before.me.0 place) (this ∷ [])) in record {
          own = own ∙ so_far.own;
          held =
              rw more
              (held_on so_far.held this after.me.0 table.shape
              (sym (ap (λ (t : Table). t.shape.readers) rests.writes.own))
              (polled_before passes here rests.writes.room.apart) (rw apart at tells.1));
          view = view_on ∙ (λ j. record before.me.0 { steps = steps j; marks = after.me.0.marks });
          some_wait = this_waits stays;
        }

    pub sweeps_free : same_count found this.arrivals ≡ true → SweepsFor lists before after (sweep.Free this.slot)
    sweeps_free agree =
        let view = before.me.0 in
        let held = ready_before lists view place in
        let polls = held_polls held ++ OfSlot this.slot true ∷ [] in
        let steps : view.steps + length held + 1 ≡ view.steps + length polls
        = omega (arith, length-append (held_polls held) (OfSlot this.slot true ∷ []), held_many held) in
        let marks : after.me.0.marks
        ≡ with_reaped (with_scan view.marks (view.marks.polls ++ so_far.held.notes) (view.marks.loads ++ polls))
        this.slot
        = rw agree at tells.1 ∙ ap (λ (m : Marks). with_reaped m this.slot) (held_free so_far.held this refl) in (
          held,
          not_passed (is_passed lists view) (drop (place + 1) lists.retired),
          this,
          so_far.held.notes,
          split_here (is_passed lists view) here polled,
          so_far.held.each,
          refl,
          retired_near rests here,
          view_on ∙ (λ j. record view { steps = steps j; marks = marks j }),
        )

-- the first, which were reaped, are passed by
pub swept_first : (lists : SlotLists) (seat : MapSeat) (count : ℕ) → AreReaped count lists.retired lists.reaped
    → SweptTo lists seat seat count false
swept_first lists seat zero known = swept_none lists seat
swept_first lists seat (suc count) known =
    let earlier = swept_first lists seat count (omega (arith, known.0), λ place first. known.1 place (omega arith)) in
    let here : StandsAt lists.retired count (get_or lists.retired count no_retired)
    = record { is = at_get lists.retired count (omega (arith, known.0)) } in
    let next = swept_past earlier here (known.1 count (omega arith)) in
    subst (λ place. SweptTo lists seat seat place false) (omega arith) next

-- a retired slot can be polled
pub probes_at : {table : Table} {lists : SlotLists} {before now : MapSeat} {place : ℕ} {waits : Bool} {entry : Retired}
    → RestsAt table lists before → SweptTo lists before now place waits → StandsAt lists.retired place entry
    → nat_lt (get_or before.me.0.heard entry.slot 0) before.me.0.announcers ≡ false → ProbesAt table entry now
probes_at {lists = lists} {place = place} {entry = entry} rests so_far here near = record {
  own =
      (λ j. record { id = so_far.own j; shape = (so_far.view j).shape; announcers = (so_far.view j).announcers })
      ∙ rests.writes.own;
  desk = desk_with lists Idle;
  role = ap (λ (v : View). v.role) so_far.view ∙ rests.writes.role;
  idle = refl;
  room = rests.writes.room;
  poll = place;
  here = here.is;
  heard =
      let heard = ltb-false _ _ near in
      let is = ap (λ (v : View). get_or v.heard entry.slot 0) so_far.view in
      let same = ap (λ (t : Table). t.announcers) rests.writes.own in
      omega arith;
}
