-- A reap: its sweeps and the scan between them, put together.
use Rattle.std.proofs.Common.{◌≡◌, ℕ, ◌+◌, ◌*◌, ◌<◌, inl, inr, true, List, [], ◌∷◌, ◌++◌, ap, append-nil, append_assoc}
use Rattle.std.proofs.Common.{arith, length, length-append, refl, subst, sym, ◌∙◌}
use Rattle.nr_model.specs.Rows.{IsRowSet}
use Rattle.nr_model.specs.declared.rows.Row.{Row}
use Rattle.nr_core.specs.SlotLists.{SlotLists}
use Rattle.nr_core.specs.declared.places.Place.TheVariants.{Idle}
use Rattle.nr_core.specs.declared.places.Retired.{Retired}
use Rattle.nr_core.specs.Marks.{Marks, OfSlot, Past, LoggedLoad, set_in, with_reaped, with_scan}
use Rattle.nr_board.proofs.WordLoads.{words_many}
use Rattle.nr_board.specs.Callers.{Table, caller_of, token}
use Rattle.nr_board.specs.HeldSlots.{HeldEach}
use Rattle.nr_board.specs.Reaping.{ReapsIn, ReapsSet, ScansFirst, SweepsFor, SweepsHeard, probed, ready_in}
use Rattle.nr_board.specs.Reaping.{ready_to, reaping, waiting}
use Rattle.nr_board.specs.Recalls.{RecallsAt, waited}
use Rattle.nr_board.specs.SlotLists.{desk_with, held_polls}
use Rattle.nr_board.specs.Views.{View, desk_of}
use Rattle.nr_board.specs.WholeScans.{scanned_to}
use Rattle.nr_board.specs.WriterSeats.{MapSeat, RestsAt}
use Rattle.nr_board.specs.declared.answers.Reaped.TheVariants as reaped
use Rattle.nr_board.specs.declared.reaping.Sweep.{Sweep}
use Rattle.nr_board.specs.declared.reaping.Sweep.TheVariants as sweep

-- the view after those polls and loads of words
abbrev after_loads : List Past → List LoggedLoad → List ℕ → View → View
after_loads notes loads heard view =
    record view {
      steps = view.steps + length loads;
      marks = with_scan view.marks (view.marks.polls ++ notes) (view.marks.loads ++ loads);
      heard = heard;
    }

-- the token after steps that leave all but its marks and what it heard
token_after : (before after : MapSeat) {steps : ℕ} {marks : Marks} {heard : List ℕ}
    → after.table_id ≡ before.table_id
    → after.me.0 ≡ record before.me.0 { steps = steps; marks = marks; heard = heard }
    → token after ≡ record (token before) { steps = steps; marks = marks; heard = heard }
token_after before after own view = λ j. caller_of (own j) (view j)

module _ {table : Table} {lists : SlotLists} {before : MapSeat} (rests : RestsAt table lists before) where
  -- the writer's lists are those of its token
  retired_is : (token before).retired ≡ lists.retired
  retired_is = ap (λ r. (desk_of r).retired) rests.writes.role

  ready_is : (heard : List ℕ) → ready_in lists (record before.me.0 { heard = heard }) ≡ ready_to (token before) heard
  ready_is
      heard = λ j. ready_in (record lists { reaped = rests.reaped j; retired = sym retired_is j })
      (record before.me.0 { heard = heard })

  waiting_is : waiting lists.reaped lists.retired ≡ waiting (token before).marks.reaped (token before).retired
  waiting_is = λ j. waiting (rests.reaped j) (sym retired_is j)

  -- the last sweep, and what was loaded before it
  record LastSweep (now : MapSeat) (found : Sweep) : Type 0 where
    last : MapSeat
    earlier : List Past
    loads : List LoggedLoad
    first : ScansFirst (token before) last.me.0.heard loads earlier
    scans : found ≡ sweep.Held → 0 < before.me.0.announcers → 0 < length loads
    view : last.me.0 ≡ after_loads earlier loads last.me.0.heard before.me.0
    sweeps : SweepsFor lists last now found

  last_sweep : (now : MapSeat) (found : Sweep) → SweepsHeard lists before now found → LastSweep now found
  last_sweep now found (inl (sweeps, none)) =
      let view = before.me.0 in let steps : view.steps + 0 ≡ view.steps = omega arith in
      record {
        last = before;
        earlier = [];
        loads = [];
        first = inl (refl, refl, refl);
        scans = λ held some_words. let none_has = none held in absurd (omega arith);
        view = simp (append-nil, steps);
        sweeps = sweeps;
      }
  last_sweep now found (inr (some_words, mid, last, (notes, _, each, swept), scan, words, scans, second)) =
      let view = before.me.0 in
      let polls = held_polls (ready_in lists view) in
      let steps : view.steps + length polls + length scan ≡ view.steps + length (polls ++ scan)
      = omega (arith, length-append polls scan) in
      record {
        last = last;
        earlier = notes;
        loads = polls ++ scan;
        first = inr (
          some_words,
          rw (sym (ready_is view.heard)) each,
          scan,
          rw retired_is words,
          ap (λ (l : List Retired). held_polls l ++ scan) (ready_is view.heard),
        );
        scans = λ _ _. omega (arith, length-append polls scan, words_many words);
        view = scans ∙ ap (scanned_to scan last.me.0.heard) swept ∙ simp (append_assoc, steps);
        sweeps = second;
      }

  module _ {now : MapSeat} {found : Sweep} (made : LastSweep now found) where
    abbrev heard_then : List ℕ
    heard_then = made.last.me.0.heard

    ready_then : ready_in lists made.last.me.0 ≡ ready_to (token before) heard_then
    ready_then = ap (ready_in lists) made.view ∙ ready_is heard_then

    -- after its polls
    after_sweep : (notes : List Past) (polls : List LoggedLoad)
        → probed notes polls made.last.me.0
        ≡ after_loads (made.earlier ++ notes) (made.loads ++ polls) heard_then before.me.0
    after_sweep notes polls = let view = before.me.0 in
        let steps : view.steps + length made.loads + length polls ≡ view.steps + length (made.loads ++ polls)
        = omega (arith, length-append made.loads polls) in
        ap (probed notes polls) made.view ∙ simp (append_assoc, steps)

  -- a set that the sweeps found
  module _ (now : MapSeat) (slot : ℕ) (sweeps : SweepsHeard lists before now (sweep.Free slot))
      (same : now.table_id ≡ before.table_id) where
    abbrev made : LastSweep now (sweep.Free slot)
    made = last_sweep now (sweep.Free slot) sweeps

    abbrev notes_now : List Past
    notes_now = made.earlier ++ made.sweeps.3

    abbrev loads_now : List LoggedLoad
    loads_now = made.loads ++ (held_polls made.sweeps.0 ++ OfSlot slot true ∷ [])

    view_now : now.me.0 ≡ reaping slot (after_loads notes_now loads_now made.last.me.0.heard before.me.0)
    view_now = made.sweeps.8 ∙ ap (reaping slot) (after_sweep made made.sweeps.3 _)

    -- can be read
    pub recalls_found : RecallsAt table slot now
    recalls_found = record {
      own =
          (λ j. record { id = same j; shape = (view_now j).shape; announcers = (view_now j).announcers })
          ∙ rests.writes.own;
      desk = desk_with lists Idle;
      role = ap (λ (v : View). v.role) view_now ∙ rests.writes.role;
      inside = let near = made.sweeps.7 in omega (arith, near, rests.slots);
      untouched = tt;
    }

    -- and is given out
    abbrev marks_now : Marks
    marks_now =
        with_reaped
        (with_scan before.me.0.marks (before.me.0.marks.polls ++ notes_now) (before.me.0.marks.loads ++ loads_now)) slot

    abbrev steps_now : ℕ
    steps_now = before.me.0.steps + (length loads_now + (2 * length (set_in before.me.0.marks slot) + 1))

    module _ (last : MapSeat) (last_same : last.table_id ≡ now.table_id)
        (waits : last.me.0 ≡ waited (2 * length (set_in now.me.0.marks slot) + 1) now.me.0) where
      last_view : last.me.0
          ≡ record before.me.0 { steps = steps_now; marks = marks_now; heard = made.last.me.0.heard }
      last_view =
          waits ∙ ap (λ (v : View). waited (2 * length (set_in v.marks slot) + 1) v) view_now
          ∙ (λ j. record before.me.0 { steps = steps j; marks = marks_now; heard = made.last.me.0.heard })
        where
          steps : before.me.0.steps + length loads_now + (2 * length (set_in before.me.0.marks slot) + 1) ≡ steps_now
          steps = omega arith

      pub reaps_set : {Room : Type 0} (shows : Room → List Row → Type 0) {after : Room}
          → shows after (set_in now.me.0.marks slot) → IsRowSet table.shape.rows (set_in now.me.0.marks slot)
          → ReapsSet shows (token before) (token last) after
      reaps_set shows {after = after} shown row_set =
          let (held, later, entry, notes, split, each, slot_is, _, _) = made.sweeps in
          let set_is = ap (λ (v : View). set_in v.marks slot) view_now in
          record {
            held = held;
            later = later;
            entry = entry;
            notes = notes;
            earlier = made.earlier;
            scanned = made.last.me.0.heard;
            loads = made.loads;
            first = made.first;
            split = sym (ready_then made) ∙ split;
            each = subst (λ (v : View). HeldEach v.shape.readers held notes) made.view each;
            shown = rw (sym slot_is, sym set_is) shown;
            row_set = rw (sym slot_is, sym set_is, ap (λ (t : Table). t.shape.rows) rests.writes.own) row_set;
            new_is = rw (sym slot_is) (token_after before last (last_same ∙ same) last_view);
          }

  -- every set that waits is kept back
  module _ (now : MapSeat) (sweeps : SweepsHeard lists before now sweep.Held)
      (same : now.table_id ≡ before.table_id) where
    abbrev made_held : LastSweep now sweep.Held
    made_held = last_sweep now sweep.Held sweeps

    view_kept : now.me.0
        ≡ after_loads (made_held.earlier ++ made_held.sweeps.0)
        (made_held.loads ++ held_polls (ready_to (token before) made_held.last.me.0.heard))
        made_held.last.me.0.heard before.me.0
    view_kept =
        rw (sym (ready_then made_held)) (made_held.sweeps.3 ∙ after_sweep made_held made_held.sweeps.0 _)

    pub keeps_all : {Room : Type 0} (shows : Room → List Row → Type 0) (room : Room)
        → ReapsIn shows (token before) room (token now) room reaped.Held
    keeps_all shows room = let (notes, some_wait, each, _) = made_held.sweeps in
        let loads = made_held.loads ++ held_polls (ready_to (token before) made_held.last.me.0.heard) in
        let plus : length loads + 0 ≡ length loads = omega arith in (
          notes,
          made_held.earlier,
          made_held.last.me.0.heard,
          made_held.loads,
          made_held.first,
          made_held.scans refl,
          subst (λ (l : List Retired). 0 < length l) waiting_is some_wait,
          subst (λ (p : ℕ × List Retired). HeldEach p.0 p.1 notes)
              (λ j. ((made_held.view j).shape.readers, ready_then made_held j)) each,
          rw plus (token_after before now same view_kept),
          refl,
        )
