-- The writer's calls, put together of their steps.
use Rattle.std.proofs.Common.{Bool, false, List, [], ap, append-nil, arith, get_or, length, refl, slice_index, subst}
use Rattle.std.proofs.Common.{sym, ℕ, ◌*◌, ◌++◌, ◌+◌, ◌<◌, ◌∙◌, ◌∷◌, ◌≡◌}
use Rattle.std.specs.Prelude.{Result, Ok, Err, slice_set}
use Rattle.nr_model.specs.declared.calls.Call.{Call}
use Rattle.nr_model.specs.declared.calls.Call.TheVariants as model
use Rattle.nr_model.specs.declared.calls.Reply.{Reply}
use Rattle.nr_model.specs.declared.calls.Reply.TheVariants as reply
use Rattle.nr_model.specs.declared.batches.Delta.{Delta}
use Rattle.nr_model.specs.declared.rows.Row.{Row}
use Rattle.nr_model.specs.declared.batches.ApplyFault.{ApplyFault}
use Rattle.nr_model.specs.Batches.{applied}
use Rattle.nr_model.specs.Maps.{applied_reply, state_of}
use Rattle.nr_model.specs.declared.states.KeyState.TheVariants as states
use Rattle.nr_model.specs.Histories.{Entry, IsLegal, entries_of}
use Rattle.nr_words.specs.KeyWords.{slot_of}
use Rattle.nr_core.proofs.Without.{not_reply}
use Rattle.nr_core.specs.Story.{call_of, ending, entry, map_after}
use Rattle.nr_core.specs.Writer.{decided, ended, looked, moved_to, renewed, settled, unnamed}
use Rattle.nr_core.specs.declared.calls.NoSlot.{NoSlot}
use Rattle.nr_core.specs.declared.calls.Step.TheVariants.{Going}
use Rattle.nr_core.specs.declared.calls.WriterCall.{WriterCall}
use Rattle.nr_core.specs.declared.calls.WriterCall.TheVariants.{Cancel, Evict, Find, Update}
use Rattle.nr_core.specs.declared.places.Place.{Place}
use Rattle.nr_core.specs.declared.places.Place.TheVariants.{Idle, Leaving, Reading, Withdrawing}
use Rattle.nr_core.specs.declared.roles.Desk.{Desk}
use Rattle.nr_board.proofs.Publishing.{evicted_one, knows_after, retires_so}
use Rattle.nr_board.proofs.Tokens.{grows_both, grows_from}
use Rattle.nr_board.specs.WriterAnswers.{HasNoSlot, KeyHad, Publishes, RetiresOne, SlotsStay}
use Rattle.nr_board.specs.Callers.{Gains, Grows, Table, map_at_opening, token}
use Rattle.nr_core.specs.SlotLists.{SlotLists}
use Rattle.nr_board.specs.SlotLists.{desk_with, lists_of}
use Rattle.nr_core.specs.Marks.{Marks, with_loads, with_name, with_polls, with_scan, without_name}
use Rattle.nr_board.proofs.Looks.{HasLooked, rests_own}
use Rattle.nr_board.proofs.ReadingOn.{settled_quiet}
use Rattle.nr_board.specs.NamedRows.{ReadsAll}
use Rattle.nr_board.proofs.KeySets.{before_last, had_before, none_between}
use Rattle.nr_board.proofs.Waiting.{lists_shown}
use Rattle.nr_board.specs.Kinds.{kind_of}
use Rattle.nr_board.proofs.Keepers.{kept_since}
use Rattle.nr_model.proofs.LawLemmas.{legal_goes_on_lem}
use Rattle.nr_core.proofs.Settle.{key_same}
use Rattle.nr_core.specs.States.{key_of}
use Rattle.nr_board.specs.Views.{desk_of, caller_number}
use Rattle.nr_board.specs.Begins.{HasRead, HasSet}
use Rattle.nr_board.specs.WriterSeats.{GoesOn, LacksSlot, LeadsIn, MapSeat, PublishesSet, RestsAt, WritesAt}
use Rattle.nr_core.specs.Slots.{bound_of}

-- an entry of the writer's is the call's own
gains_so : {table : Table} {lists : SlotLists} {before : MapSeat} {steps : ℕ} {call : Call} {answer : Reply}
    → RestsAt table lists before → (after : MapSeat)
    → Grows steps (entry 0 call answer ∷ []) (token before) (token after)
    → Gains steps call (token before) (token after) answer
gains_so {before = before} {steps = steps} {call = call} {answer = answer} rests after =
    subst (λ (n : ℕ). Grows steps (entry n call answer ∷ []) (token before) (token after))
    (sym (ap caller_number rests.writes.role))

module _ (table : Table) (lists : SlotLists) (before : MapSeat) (rests : RestsAt table lists before) where
  -- a call that ends with a reply
  pub ends : (steps : ℕ) (call : Call) (answer : Reply) (after_lists : SlotLists) (after : MapSeat)
      → after_lists.slots ≡ lists.slots
      → after_lists.reaped ≡ lists.reaped → after.me.0.marks.reaped ≡ before.me.0.marks.reaped
      → LeadsIn steps table call (desk_with after_lists Idle, ended answer) before after
      → RestsAt table after_lists after
      × Gains steps call (token before) (token after) answer
  ends steps call answer after_lists after slots same_reaped same_marks leads = (
    record {
      writes = leads.writes;
      slots = slots ∙ rests.slots;
      reaped = same_reaped ∙ rests.reaped ∙ sym same_marks;
      own = leads.grows.own;
    },
    gains_so rests after leads.grows,
  )

  pub same_slots : (after : MapSeat) → RestsAt table lists after → lists_of (token after) ≡ lists_of (token before)
  same_slots after rests_after = lists_shown table lists after rests_after ∙ sym (lists_shown table lists before rests)

-- the call ends with its look
pub look_ends : {table : Table} {lists : SlotLists} {call : WriterCall} {found : ℕ} {before after : MapSeat}
    → HasLooked table lists call found before after → (answer : Reply)
    → looked table.shape (desk_with lists Idle) call found ≡ (desk_with lists Idle, ended answer)
    → RestsAt (token after).table lists after
    × (Gains 1 (call_of call) (token before) (token after) answer × SlotsStay (token before) (token after))
look_ends {table = table} {lists = lists} {call = call} {before = before} {after = after} looks answer is =
    let ended_so
    = ends table lists before looks.rests 1 (call_of call) answer lists after refl refl
    (ap (λ (m : Marks). m.reaped) looks.marks)
    (rw is at looks.leads) in (
      rests_own table lists after ended_so.0,
      (ended_so.1, (same_slots table lists before looks.rests after ended_so.0, looks.marks, looks.heard)),
    )

-- a call that has its set
pub has_set : {table : Table} {lists : SlotLists} {steps : ℕ} {call : WriterCall} {rows : List Row}
    {before mid : MapSeat}
    → RestsAt table lists before
    → LeadsIn steps table (call_of call) (settled table.shape (desk_with lists Idle) call rows) before mid
    → mid.me.0.marks ≡ with_polls before.me.0.marks [] → mid.me.0.heard ≡ before.me.0.heard
    → HasSet table lists steps call rows before mid
has_set {table} {lists} {steps} {call} {rows} {before} {mid} rests leads marks heard =
    let grows = rw (settled_quiet table.shape (desk_with lists Idle) call rows (call_of call)) at leads.grows in
    record {
      rests = rests;
      settles = record {
        slots = rests.slots;
        writes = leads.writes;
        short = leads.short;
        knows = knows_after steps (token before) [] (token mid) grows;
        polls = ap (λ (m : Marks). m.polls) marks;
      };
      grows = grows;
      marks = marks;
      heard = heard;
    }

-- a fill and a replacement have it at their look
pub look_settles : {table : Table} {lists : SlotLists} {call : WriterCall} {rows : List Row} {found : ℕ} {before
    after : MapSeat}
    → HasLooked table lists call found before after
    → looked table.shape (desk_with lists Idle) call found ≡ settled table.shape
    (desk_with lists Idle) call rows → HasSet table lists 1 call rows before after
look_settles {table = table} {call = call} {before = before} {after = after} looks is =
    has_set looks.rests (rw is at looks.leads)
    looks.marks looks.heard

-- and it had the slot, and put the set there, or found none
module _ {table : Table} {lists : SlotLists} {steps : ℕ} {call : WriterCall} {rows : List Row} {before mid : MapSeat}
    (set : HasSet table lists steps call rows before mid) where
  own_table : table ≡ (token before).table
  own_table = sym set.rests.writes.own

  own_lists : lists ≡ lists_of (token before)
  own_lists = sym (lists_shown table lists before set.rests)

  -- the same of the table and the lists that its token shows
  own_set : HasSet (token before).table (lists_of (token before)) steps call rows before mid
  own_set = rw (own_table, own_lists) at set

  pub has_published : {given : WriterCall} {after_lists : SlotLists} {after : MapSeat} → given ≡ call
      → (put : PublishesSet table given rows mid lists after after_lists)
      → RestsAt (token after).table after_lists after
      × (told : Publishes steps (call_of call) rows (token before) (token after)) × (told.slot ≡ put.slot)
  has_published {after_lists = after_lists} {after = after} is put =
      let here
      = subst
      (λ (p : WriterCall × Table × SlotLists). (q : PublishesSet p.1 p.0 rows mid p.2 after after_lists)
      × (q.slot ≡ put.slot))
      (λ j. (is j, own_table j, own_lists j)) (put, refl) in
      let published = here.0 in
      let all
      = grows_both {sum = steps + 2 * length rows + 2 + published.steps} (omega arith) set.grows published.grows in
      let rests_after : RestsAt (token before).table after_lists after
      = record {
        writes = published.writes;
        slots = published.slots ∙ own_set.rests.slots;
        reaped =
            ap (λ (s : SlotLists). s.reaped) published.retires
            ∙ ap (λ (l : List Bool). slice_set l published.slot false)
            (own_set.rests.reaped ∙ ap (λ (m : Marks). m.reaped) (sym set.marks))
            ∙ ap (λ (m : Marks). m.reaped) (sym published.marks);
        own = all.own;
      } in
      let lists_after = lists_shown (token before).table after_lists after rests_after in
      let log = published.log in
      let done_then
      = (legal_goes_on_lem (map_at_opening (token before).table) log (entry 0 (call_of call) reply.Done)).1.1
      (subst (IsLegal (map_at_opening (token before).table)) published.seen all.legal) in (
        rests_own (token before).table after_lists after rests_after,
        record {
          searched = published.steps;
          slot = published.slot;
          inside = published.inside;
          mid = published.mid;
          scanned = published.scanned;
          loads = published.loads;
          took = rw set.heard at published.took;
          heard = published.heard;
          few = published.few;
          fresh = ap (λ (s : SlotLists). s.fresh) (lists_after ∙ published.retires);
          numbers = ap (λ (s : SlotLists). s.numbers) lists_after ∙ published.numbers;
          retires =
              retires_so published.word (token before) published.mid.retired (token after).retired
              (ap (λ (s : SlotLists). s.retired) (lists_after ∙ published.retires)) (map_after before.me.0.shape log)
              call done_then.1
              published.swaps.state
              (ap (λ (m : Marks). get_or m.names (key_of call) 0) (sym set.marks) ∙ published.swaps.name);
          number = published.number;
          count = published.count;
          put = published.put;
          marks =
              published.marks
              ∙ (λ j. with_name (with_loads (set.marks j) ((set.marks j).loads ++ published.loads))
              (sym (key_same call) j) published.slot published.number rows);
          gains = gains_so set.rests after all;
        },
        here.1,
      )

  pub has_lacked : {given : WriterCall} {after_lists : SlotLists} {after : MapSeat} {counts : NoSlot} → given ≡ call
      → LacksSlot table given mid lists after after_lists counts
      → RestsAt (token after).table after_lists after
      × HasNoSlot steps (call_of call) (token before) (token after) counts
  has_lacked {after_lists = after_lists} {after = after} {counts = counts} is lacked =
      let lacking = rw (is, own_table, own_lists) at lacked in
      let all = grows_both refl set.grows lacking.grows in
      let rests_lists : RestsAt (token before).table (lists_of (token before)) after = record {
        writes = lacking.writes;
        slots = own_set.rests.slots;
        reaped = own_set.rests.reaped
            ∙ ap (λ (m : Marks). m.reaped) (sym set.marks) ∙ ap (λ (m : Marks). m.reaped) (sym lacking.marks);
        own = all.own;
      } in (
        rests_own (token before).table after_lists after (rw lacking.same rests_lists),
        record {
          searched = lacking.steps;
          loads = lacking.loads;
          all = rw set.heard at lacking.searched;
          grows = all;
          readers = none_between (steps + lacking.steps) (token before) [] (token after) set.rests.own refl all;
          lacks = lacking.lacks;
          noted = λ counted. rw set.grows.pasts at (lacking.noted counted);
          kept = kept_since (grows_from set.grows) lacking.kept;
          slots = same_slots (token before).table (lists_of (token before)) before own_set.rests after rests_lists;
          marks =
              lacking.marks
              ∙ ap (λ (m : Marks). with_scan m after.me.0.marks.polls (m.loads ++ lacking.loads)) set.marks;
        },
      )

-- the look led on, to a swap that ends the call or to a read
module
    _ {table : Table} {lists : SlotLists} {call : WriterCall} {word : ℕ} {place : Place} {before mid : MapSeat}
    (looks : HasLooked table lists call word before mid)
    (leads : looked table.shape (desk_with lists Idle) call word ≡ (desk_with lists place, Going)) where
  pub about_to_go : LeadsIn 1 table (call_of call) (desk_with lists place, Going) before mid
  about_to_go = rw leads at looks.leads

  swap_ends : (answer : Reply) (after_lists : SlotLists) (after : MapSeat) → after_lists.slots ≡ lists.slots
      → after_lists.reaped ≡ lists.reaped → after.me.0.marks.reaped ≡ mid.me.0.marks.reaped
      → LeadsIn 1 table (call_of call) (desk_with after_lists Idle, ended answer) mid after
      → RestsAt table after_lists after × Gains 2 (call_of call) (token before) (token after) answer
  swap_ends answer after_lists after slots reaped same_marks then =
      ends table lists before looks.rests 2 (call_of call) answer after_lists after slots reaped
      (same_marks ∙ ap (λ (m : Marks). m.reaped) looks.marks)
      (record {
        writes = then.writes;
        grows = grows_both {sum = 2} (omega arith) about_to_go.grows then.grows;
        short = λ counts without. absurd (not_reply counts answer without);
      })

-- the swap that evicts the key
pub has_evicted : {table : Table} {lists after_lists : SlotLists} {key word found : ℕ} {before mid after : MapSeat}
    → HasLooked table lists (Evict key) word before mid
    → looked table.shape (desk_with lists Idle) (Evict key) word ≡ (desk_with lists (Leaving key), Going)
    → GoesOn table found mid after → after_lists ≡ record lists { retired = lists.retired ++ unnamed found }
    → RestsAt (token after).table after_lists after
    × (Gains 2 (model.Evict key) (token before) (token after) reply.Evicted
    × ((token after).fresh ≡ (token before).fresh) × ((token after).numbers ≡ (token before).numbers)
    × RetiresOne key (token before) (token before).retired (token after).retired
    × (after.me.0.marks ≡ without_name (with_polls before.me.0.marks []) key)
    × (after.me.0.heard ≡ before.me.0.heard))
has_evicted {table} {lists} {after_lists} {key} {word} {found} {before} {mid} {after} looks leaves goes retires =
    let gone = goes (desk_with lists (Leaving key)) (about_to_go looks leaves).writes.role in
    let (rests_after, gains)
    = swap_ends looks leaves reply.Evicted after_lists after (ap (λ (s : SlotLists). s.slots) retires)
    (ap (λ (s : SlotLists). s.reaped) retires) (ap (λ (m : Marks). m.reaped) gone.marks.0)
    (rw retires gone.leads) in
    let slots
    = lists_shown table after_lists after rests_after ∙ retires
    ∙ ap (λ (s : SlotLists). record s { retired = s.retired ++ unnamed found })
    (sym (lists_shown table lists before looks.rests)) in
    let legal
    = (legal_goes_on_lem (map_at_opening (token before).table) gone.log
    (entry 0 (model.Evict key) reply.Evicted)).1.1
    (subst (IsLegal (map_at_opening (token before).table)) gone.seen gains.legal) in (
      rests_own table after_lists after rests_after,
      (
        gains,
        ap (λ (s : SlotLists). s.fresh) slots,
        ap (λ (s : SlotLists). s.numbers) slots,
        evicted_one found (token before) (token before).retired (token after).retired
            (ap (λ (s : SlotLists). s.retired) slots) (map_after before.me.0.shape gone.log) key legal.1
            (gone.finds.state
            ∙ ap (λ (t : Table). kind_of (state_of (map_after t.shape gone.log) key)) (sym looks.own))
            (ap (λ (m : Marks). get_or m.names key 0) (sym looks.marks) ∙ gone.finds.name),
        gone.marks.0 ∙ ap (λ (m : Marks). without_name m key) looks.marks,
        gone.heard ∙ looks.heard,
      ),
    )

-- the swap that takes the key's request back
pub has_cancelled : {table : Table} {lists after_lists : SlotLists} {key word found : ℕ} {before mid after : MapSeat}
    → HasLooked table lists (Cancel key) word before mid
    → looked table.shape (desk_with lists Idle) (Cancel key) word ≡ (desk_with lists (Withdrawing key), Going)
    → GoesOn table found mid after
    → after_lists ≡ record lists { numbers = slice_set lists.numbers key (slice_index lists.numbers key + 1) }
    → RestsAt (token after).table after_lists after
    × (Gains 2 (model.Cancel key) (token before) (token after) reply.Cancelled
    × (lists_of (token after) ≡ record (lists_of (token before))
    { numbers = slice_set (token before).numbers key (slice_index (token before).numbers key + 1) })
    × (after.me.0.marks ≡ with_polls before.me.0.marks []) × (after.me.0.heard ≡ before.me.0.heard))
has_cancelled {table} {lists} {after_lists} {key} {word} {found} {before} {mid} {after} looks withdraws goes renumbers =
    let gone = goes (desk_with lists (Withdrawing key)) (about_to_go looks withdraws).writes.role in
    let (rests_after, gains)
    = swap_ends looks withdraws reply.Cancelled after_lists after (ap (λ (s : SlotLists). s.slots) renumbers)
    (ap (λ (s : SlotLists). s.reaped) renumbers) (ap (λ (m : Marks). m.reaped) gone.marks.0)
    (rw renumbers gone.leads) in (
      rests_own table after_lists after rests_after,
      (
        gains,
        lists_shown table after_lists after rests_after ∙ renumbers
            ∙ ap (λ (s : SlotLists). record s { numbers = slice_set s.numbers key (slice_index s.numbers key + 1) })
            (sym (lists_shown table lists before looks.rests)),
        gone.marks.0 ∙ looks.marks,
        gone.heard ∙ looks.heard,
      ),
    )

-- READS OF THE KEY'S SET

module _ {table : Table} {lists : SlotLists} {call given : WriterCall} {found : ℕ} {before mid : MapSeat}
    (looks : HasLooked table lists call found before mid) (reads : looked table.shape (desk_with lists Idle) call
    found ≡ (desk_with lists (Reading call (slot_of found) []), Going)) (is : given ≡ call) where
  leads_there : LeadsIn 1 table (call_of call) (desk_with lists (Reading call (slot_of found) []), Going) before mid
  leads_there = about_to_go looks reads

  -- the writer is about to read the slot that the word named
  pub about_to_read : {slot : ℕ} → slot ≡ slot_of found
      → WritesAt table (moved_to (desk_of mid.me.0.role) (Reading given slot [])) mid × (slot < table.shape.slots)
  about_to_read {slot = slot} same = (
    rw (ap desk_of leads_there.writes.role, is, same) leads_there.writes,
    omega (arith, leads_there.writes.room.place.0, same),
  )

  pub has_read : {rows : List Row} {after : MapSeat} → ReadsAll table given rows mid after
      → HasRead table lists call (slot_of found) rows before after
  has_read {rows = rows} {after = after} read =
      let outcome = λ (desk : Desk) (c : WriterCall). decided table.shape desk c rows in
      let same = ap desk_of leads_there.writes.role in
      let then = rw is at (rw same at read.leads) in
      record {
        own = looks.own;
        rests = looks.rests;
        row_set = read.row_set;
        leads = record {
          writes = then.writes;
          grows = grows_both {sum = 2 * length rows + 2} (omega arith) leads_there.grows then.grows;
          short = then.short;
        };
        had = rw (sym same, sym is) read.had;
        marks = read.marks ∙ looks.marks;
        heard = read.heard ∙ looks.heard;
      }

-- a find of the writer's own
pub has_found : {table : Table} {lists : SlotLists} {key slot : ℕ} {rows : List Row} {before after : MapSeat}
    → HasRead table lists (Find key) slot rows before after
    → RestsAt (token after).table lists after
    × (Gains (2 * length rows + 2) (model.Find key) (token before) (token after) (reply.Rows rows)
    × SlotsStay (token before) (token after))
has_found {table = table} {lists = lists} {key = key} {rows = rows} {before = before} {after = after} read =
    let ended_so
    = ends table lists before read.rests (2 * length rows + 2) (model.Find key) (reply.Rows rows) lists after refl
    refl (ap (λ (m : Marks). m.reaped) read.marks) read.leads in (
      rests_own table lists after ended_so.0,
      (ended_so.1, (same_slots table lists before read.rests after ended_so.0, read.marks, read.heard)),
    )

-- an update whose batch is refused, or gives a new set
module
    _ {table : Table} {lists : SlotLists} {key slot : ℕ} {batch : List Delta} {rows : List Row} {before
    after : MapSeat} (read : HasRead table lists (Update key batch) slot rows before after) where
  abbrev at_read : Desk
  at_read = desk_with lists (Reading (Update key batch) slot [])

  leads_by : (left : Result (List Row) ApplyFault) → applied (bound_of table.shape) rows batch ≡ left
      → LeadsIn (2 * length rows + 2) table (model.Update key batch)
      (renewed table.shape at_read (Update key batch) left) before after
  leads_by left is = rw (sym is) read.leads

  seen_by : (left : Result (List Row) ApplyFault) → applied (bound_of table.shape) rows batch ≡ left
      → after.me.0.seen
      ≡ read.had.log ++ ending (model.Update key batch) (renewed table.shape at_read (Update key batch) left).1
  seen_by left is = rw (sym is) read.had.seen

  pub has_refused : (why : ApplyFault) → applied (bound_of table.shape) rows batch ≡ Err why
      → RestsAt (token after).table lists after
      × ((gains : Gains (2 * length rows + 2) (model.Update key batch) (token before)
      (token after) (applied_reply (Err why))) × KeyHad key rows (token before) gains.between
      × SlotsStay (token before) (token after))
  has_refused why is =
      let ended_so
      = ends table lists before read.rests (2 * length rows + 2) (model.Update key batch) (applied_reply (Err why))
      lists after refl refl (ap (λ (m : Marks). m.reaped) read.marks) (leads_by (Err why) is) in
      let log_is
      = before_last ((token before).seen ++ ended_so.1.between) read.had.log _ _
      (sym ended_so.1.seen ∙ seen_by (Err why) is) in
      let had
      = ap (λ (l : List Entry). state_of (map_after before.me.0.shape l) key) log_is
      ∙ ap (λ (t : Table). state_of (map_after t.shape read.had.log) key) read.own
      ∙ read.had.state in (
        rests_own table lists after ended_so.0,
        (
          ended_so.1,
          (read.had.number, had),
          (same_slots table lists before read.rests after ended_so.0, read.marks, read.heard),
        ),
      )

  module _ {left : List Row} (is : applied (bound_of table.shape) rows batch ≡ Ok left) where
    pub has_renewed : HasSet table lists (2 * length rows + 2) (Update key batch) left before after
    has_renewed = has_set read.rests (leads_by (Ok left) is) read.marks read.heard

    still_has : state_of (map_after table.shape after.me.0.seen) key ≡ states.Rows read.had.number rows
    still_has =
        let quiet
        = ap (λ (l : List Entry). read.had.log ++ l)
        (settled_quiet table.shape at_read (Update key batch) left (model.Update key batch))
        ∙ append-nil read.had.log in
        ap (λ (l : List Entry). state_of (map_after table.shape l) key) (seen_by (Ok left) is ∙ quiet) ∙ read.had.state

    -- the key had the set until the update's entry, if it was done, or to the end
    had_still : (near : key < table.shape.keys) (last : MapSeat) (steps sum : ℕ) (entries mine : List Entry)
        (then : Grows steps entries (token after) (token last)) (all : Grows sum mine (token before) (token last))
        → entries_of entries 0 ≡ entries
        → (token before).seen ++ all.between ≡ (token after).seen ++ then.between
        → KeyHad key rows (token before) all.between
    had_still near last steps sum entries mine then all ours same = let grows = has_renewed.grows in
        had_before table.shape key read.had.number rows (token before) (token after) (token last) sum steps entries mine
        (ap (λ (t : Table). t.shape) read.own) near (grows.number ∙ ap caller_number read.rests.writes.role) grows.own
        ours then all same
        grows.table still_has

    module _ {given : WriterCall} (given_is : given ≡ Update key batch) (near : key < table.shape.keys) where
      -- where it was at `mid`, after the read or some steps later, when it looked for a slot
      pub has_updated : {made : ℕ} {mid last : MapSeat} {after_lists : SlotLists}
          → HasSet table lists made (Update key batch) left before mid
          → ((steps : ℕ) → Grows steps (entry 0 (model.Update key batch) reply.Done ∷ []) (token mid) (token last)
          → (sum : ℕ) × Grows sum (entry 0 (model.Update key batch) reply.Done ∷ []) (token after) (token last))
          → (put : PublishesSet table given left mid lists last after_lists)
          → RestsAt (token last).table after_lists last
          × ((published : Publishes made (model.Update key batch) left (token before) (token last))
          × KeyHad key rows (token before) published.gains.between × (published.slot ≡ put.slot))
      has_updated {mid = mid} {last = last} {after_lists = after_lists} set grown put =
          let so = has_published set given_is put in
          let here = rw given_is at put in
          let then = (grown _ here.grows).1 in
          let all = so.1.gains in (
            so.0,
            (
              so.1,
              had_still near last _ _ _ _ then all refl
                  (before_last ((token before).seen ++ all.between) ((token after).seen ++ then.between) _ _
                  (sym all.seen ∙ then.seen)),
              so.2,
            ),
          )

      pub has_not_updated : {counts : NoSlot} {last : MapSeat} {after_lists : SlotLists}
          → LacksSlot table given after lists last after_lists counts
          → RestsAt (token last).table after_lists last
          × ((without : HasNoSlot (2 * length rows + 2) (model.Update key batch) (token before) (token last) counts)
          × KeyHad key rows (token before) without.grows.between)
      has_not_updated {last = last} lacking =
          let so = has_lacked has_renewed given_is lacking in
          let then = lacking.grows in
          let all = so.1.grows in (
            so.0,
            (
              so.1,
              had_still near last _ _ []
                  [] then all refl
                  (sym (append-nil ((token before).seen ++ all.between)) ∙ sym all.seen ∙ then.seen
                  ∙ append-nil ((token after).seen ++ then.between)),
            ),
          )
