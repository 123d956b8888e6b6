-- The two passes of a search and the scan between them, put together.
use Rattle.std.proofs.lemmas.Bool.{false≢true}
use Rattle.std.proofs.Common.{◌≡◌, ◌≢◌, ℕ, zero, suc, ◌+◌, ◌<◌, ◌≤◌, ⊎_elim, inl, inr, List, [], ◌∷◌, ◌++◌, Bool}
use Rattle.std.proofs.Common.{ne_eqb, append_assoc, length, length-append, take_all, refl, sym, ap, ◌∙◌, subst, arith}
use Rattle.std.specs.Prelude.{None, Some}
use mathlib.Core.Logic.{dite}
use mathlib.Core.Option.{some}
use native.Mathlib.Decide.{ℕ_discrete}
use lib.ListN.{get_elem?}
use Rattle.nr_core.proofs.Choices.{either}
use Rattle.nr_core.specs.SlotLists.{SlotLists, all_taken}
use Rattle.nr_core.proofs.Different.{few_of}
use Rattle.nr_core.proofs.Sums.{only-is, some_term, total-append}
use Rattle.nr_core.specs.Sums.{only, total}
use Rattle.nr_core.specs.declared.places.Retired.{Retired}
use Rattle.nr_core.proofs.ListPlaces.{at_left, some_is}
use Rattle.nr_core.specs.Marks.{Marks, OfWord, Past, LoggedLoad, with_scan}
use Rattle.nr_core.specs.Roles.{retirements}
use Rattle.nr_board.proofs.Keepers.{at_behind, held_within}
use Rattle.nr_board.proofs.HeldSlots.{held_at, held_few, note_kept, slot_kept, held_many, polled_at}
use Rattle.nr_board.proofs.Passes.{takes_by}
use Rattle.nr_board.proofs.Tokens.{grows_both, grows_from, grows_rests}
use Rattle.nr_board.specs.Callers.{Grows, Rests, Table, map_seen, token}
use Rattle.nr_board.specs.Flags.{Flagged}
use Rattle.nr_board.specs.HeldSlots.{InVain}
use Rattle.nr_board.specs.Passes.{PassTakes, PassedTo, is_unheard}
use Rattle.nr_board.specs.Polls.{KeptThen, SaidThen}
use Rattle.nr_board.specs.SlotLists.{desk_with, heard_all, held_polls, not_passed, polls_to}
use Rattle.nr_board.proofs.Flagging.{flag_is, flags_are}
use Rattle.nr_board.proofs.WriterSeats.{leads_seat}
use Rattle.nr_board.specs.declared.publish.Taken.{Taken}
use Rattle.nr_board.proofs.WholeScans.{retired_once}
use Rattle.nr_board.proofs.Searching.{begun}
use Rattle.nr_core.specs.Story.{call_of}
use Rattle.nr_core.specs.declared.calls.WriterCall.{WriterCall}
use Rattle.nr_core.specs.declared.places.Place.TheVariants.{Idle, Searching}
use Rattle.nr_core.specs.declared.roles.Role.{Role}
use Rattle.nr_core.specs.declared.roles.Role.TheVariants.{Writer}
use Rattle.nr_model.specs.declared.rows.Row.{Row}
use Rattle.nr_core.specs.declared.roles.Desk.{Desk}
use Rattle.nr_core.specs.declared.shape.Shape.{Shape}
use Rattle.nr_model.specs.Maps.{filled_count}
use Rattle.nr_board.specs.SearchSeats.{Ends}
use Rattle.nr_board.proofs.WordLoads.{words_many, words_told}
use Rattle.nr_board.specs.WordLoads.{WordsTell}
use Rattle.nr_board.specs.Views.{View, desk_of}
use Rattle.nr_board.specs.WholeScans.{KeepBack, SaidBehind, ScannedTo, is_flagged, misses}
use Rattle.nr_board.specs.WriterSeats.{LacksSlot, MapSeat, Settles, TakesSlot}

-- each slot has a flag or not
flagged_or_not : (flags : List Bool) (retired : List Retired)
    → total (misses flags) retired + length (not_passed (is_flagged flags) retired) ≡ length retired
flagged_or_not flags [] = refl
flagged_or_not flags (entry ∷ retired) = grind (arith, flagged_or_not flags retired)

-- notes of different readers, and behind them others of other readers
both_apart : (base notes : List Past) → ((reader : ℕ) → total (λ (n : Past). only reader n.reader) base ≤ 1)
    → ((reader : ℕ) → total (λ (n : Past). only reader n.reader) notes ≤ 1)
    → ((at place : ℕ) (old note : Past) → get_elem? base at ≡ some old → get_elem? notes place ≡ some note
    → old.reader ≢ note.reader)
    → (reader : ℕ) → total (λ (n : Past). only reader n.reader) (base ++ notes) ≤ 1
both_apart base notes first second differ reader =
    let count = λ (n : Past). only reader n.reader in
    let both = total-append count base notes in let few = first reader in let others = second reader in
    dite (ℕ_discrete (total count base) 0) (λ none. omega arith)
    (λ some_there. dite (ℕ_discrete (total count notes) 0) (λ none. omega arith)
    (λ more.
    let old = some_term count base (omega arith) in
    let new = some_term count notes (omega arith) in
    absurd (differ old.0 new.0 old.1 new.1 old.2 new.2
    (only-is reader old.1.reader old.3 ∙ sym (only-is reader new.1.reader new.3)))))

each_both : (fits : Past → Type 0) (base notes : List Past)
    → ((at : ℕ) (note : Past) → get_elem? base at ≡ some note → fits note)
    → ((at : ℕ) (note : Past) → get_elem? notes at ≡ some note → fits note)
    → (at : ℕ) (note : Past) → get_elem? (base ++ notes) at ≡ some note → fits note
each_both fits [] notes first second at note there = second at note there
each_both fits (old ∷ base) notes first second zero note there = first 0 note there
each_both fits (old ∷ base) notes first second (suc at) note there =
    each_both fits base notes (λ n. first (suc n)) second at note there

module _ {table : Table} {call : WriterCall} {rows : List Row} {lists : SlotLists} {before : MapSeat}
    (settles : Settles table call rows lists before) (full : lists.slots ≤ lists.fresh)
    (some_words : 0 < table.announcers) (waits : 0 < length lists.retired) where
  abbrev desk : Desk
  desk = desk_with lists (Searching call rows 0)

  begins : before.me.0.role ≡ Writer desk
  begins = (begun table call rows lists before settles full some_words waits).role

  readers_are : before.me.0.shape.readers ≡ table.shape.readers
  readers_are =
      ap (λ (t : Table). t.shape.readers) (begun table call rows lists before settles full some_words waits).own

  -- it was heard before
  pub takes_first : {now : MapSeat} {after : SlotLists} {taken : Taken}
      → PassTakes table before lists now after taken
      → TakesSlot table call rows before lists now after taken.slot taken.departures
  takes_first {taken = taken} takes =
      let free = takes.free in
      takes_by takes.place (polls_to table.announcers before.me.0.heard lists.retired takes.place taken.slot) full
      takes.here takes.slot takes.after_is (rw free.heard takes.all_heard, inl (free.heard, refl))
      (omega (arith, free.few, readers_are), λ none. absurd (omega arith)) (takes.writes desk call rows begins refl)
      free.grows free.marks

  module _ (scanned : List Bool) (mid swept : MapSeat) (first : PassedTo table lists before mid (length lists.retired))
      (same : swept.table_id ≡ mid.table_id) (few : table.announcers ≤ table.shape.readers)
      (scan : ScannedTo lists.retired mid.me.0 swept.me.0 scanned table.announcers)
      (flagged : Flagged table lists.retired swept.me.0.heard scanned) where
    sized : (token mid).table ≡ table
    sized = first.search.search.own

    -- the slots that a pass by this seat polls
    abbrev heard_by : MapSeat → List Retired
    heard_by seat = heard_all table.announcers seat.me.0.heard lists.retired

    abbrev unheard : ℕ → Bool
    unheard = is_unheard table.announcers swept.me.0.heard

    -- a pass that takes none polls them all
    all_polled : {seat now : MapSeat} → PassedTo table lists seat now (length lists.retired)
        → InVain (heard_by seat) seat now
    all_polled {seat = seat} {now = now} pass =
        rw (take_all (length lists.retired) lists.retired (omega arith)) at pass.polls

    first_pass : InVain (heard_by before) before mid
    first_pass = all_polled first

    abbrev polls : ℕ
    polls = length (heard_by before)

    abbrev first_polls : List LoggedLoad
    first_polls = held_polls (heard_by before)

    polls_few : polls ≤ table.shape.readers
    polls_few = omega (arith, held_few first_pass.held, readers_are)

    -- the scan adds nothing
    scanning : Rests table.announcers (token mid) (token swept)
    scanning = rw (same, scan.loaded.rest) assumption

    now_keep : KeepBack lists.retired scanned table.announcers mid.me.0.marks.loads swept.me.0.marks.loads
        swept.me.0.marks.polls
    now_keep = rw (ne_eqb table.announcers 0 (λ e. omega arith)) at scan.keep

    up_to : Grows (polls + table.announcers) [] (token before) (token swept)
    up_to =
        grows_rests polls table.announcers (polls + table.announcers) (token before) [] (token mid) (token swept) refl
        first_pass.grows scanning

    role_is : swept.me.0.role ≡ before.me.0.role
    role_is = ap (λ (v : View). v.role) scan.loaded.rest ∙ first.role

    -- what the scan heard is what the words tell
    words_are : (scan : List LoggedLoad)
        × WordsTell table.announcers lists.retired mid.me.0.shape.slots scan swept.me.0.heard
        × (swept.me.0.marks.loads ≡ mid.me.0.marks.loads ++ scan)
    words_are =
        words_told table.announcers lists.retired mid.me.0.shape.slots mid.me.0.marks.loads swept.me.0.marks.loads
        swept.me.0.heard some_words scan.loaded.words

    abbrev scan_loads : List LoggedLoad
    scan_loads = words_are.0

    tells : WordsTell table.announcers lists.retired table.shape.slots scan_loads swept.me.0.heard
    tells =
        subst (λ (t : Table). WordsTell table.announcers lists.retired t.shape.slots scan_loads swept.me.0.heard) sized
        words_are.1

    -- the loads of the first pass, of the scan and of the second pass
    abbrev all_loads : List LoggedLoad → List LoggedLoad
    all_loads more = first_polls ++ (scan_loads ++ more)

    all_many : (more : List LoggedLoad) → length (all_loads more) ≡ polls + table.announcers + length more
    all_many more =
        omega (
          arith,
          length-append first_polls (scan_loads ++ more),
          length-append scan_loads more,
          held_many (heard_by before),
          words_many words_are.1,
        )

    marks_on : (marks : Marks) (more : List LoggedLoad)
        → marks ≡ with_scan swept.me.0.marks marks.polls (swept.me.0.marks.loads ++ more)
        → marks ≡ with_scan before.me.0.marks marks.polls (before.me.0.marks.loads ++ all_loads more)
    marks_on marks more is =
        is ∙ ap (λ (v : View). with_scan v.marks marks.polls (v.marks.loads ++ more)) scan.loaded.rest
        ∙ (λ j. with_scan mid.me.0.marks marks.polls (words_are.2 j ++ more))
        ∙ ap (λ (m : Marks). with_scan m marks.polls ((m.loads ++ scan_loads) ++ more)) first_pass.held.marks
        ∙ simp append_assoc

    pub takes_second : {now : MapSeat} {after : SlotLists} {taken : Taken} → PassTakes table swept lists now after taken
        → TakesSlot table call rows before lists now after taken.slot taken.departures
    takes_second {taken = taken} takes =
        let more = polls_to table.announcers swept.me.0.heard lists.retired takes.place taken.slot in
        let free = takes.free in
        let sizes : swept.me.0.shape.readers ≡ table.shape.readers
        = ap (λ (t : Table). t.shape.readers) (scanning.table ∙ sized) in
        takes_by takes.place (all_loads more) full takes.here takes.slot takes.after_is
        (rw free.heard (takes.all_heard, inr (some_words, scan_loads, tells, refl)))
        (omega (arith, polls_few, free.few, sizes, all_many more), λ none. absurd (omega arith))
        (takes.writes desk call rows (role_is ∙ begins) refl) (grows_both (all_many more) up_to free.grows)
        (marks_on _ more free.marks)

    module _ {last : MapSeat} (second : PassedTo table lists swept last (length lists.retired)) where
      second_pass : InVain (heard_by swept) swept last
      second_pass = all_polled second

      abbrev notes : List Past
      notes = second_pass.held.notes

      -- the scan noted none of the readers that the second pass did
      differ : (at place : ℕ) (old note : Past) → get_elem? swept.me.0.marks.polls at ≡ some old
          → get_elem? notes place ≡ some note → old.reader ≢ note.reader
      differ at place old note there its one_reader =
          let (entry, among, on) = held_at second_pass.held place note its in
          let slot_is = second_pass.held.elsewhere place note its at old there one_reader ∙ on in
          let (_, _, free)
          = polled_at unheard lists.retired place entry among in
          let (slot, (_, flag), keeps) = now_keep.each at old there in
          ⊎_elim (λ (none : old.slot ≡ None). absurd (cc))
          (λ (mine : old.slot ≡ Some slot). false≢true
          (sym free
          ∙ ap unheard (some_is entry.slot slot (sym slot_is ∙ mine))
          ∙ sym (flag_is table lists.retired swept.me.0.heard scanned flagged slot)
          ∙ flag))
          keeps.holds

      all_apart : (reader : ℕ) → total (λ (n : Past). only reader n.reader) (swept.me.0.marks.polls ++ notes) ≤ 1
      all_apart =
          both_apart swept.me.0.marks.polls notes now_keep.apart second_pass.held.each.held.different differ

      in_range : (at : ℕ) (note : Past) → get_elem? (swept.me.0.marks.polls ++ notes) at ≡ some note
          → (0 < note.reader) × (note.reader ≤ table.shape.readers)
      in_range =
          each_both (λ note. (0 < note.reader) × (note.reader ≤ table.shape.readers)) swept.me.0.marks.polls notes
          (λ at note there. let keeps = (now_keep.each at note there).2 in
          (keeps.made, (let low = keeps.few in omega arith)))
          (λ at note there. let (made, low) = second_pass.held.each.range at note there in
          (made, omega (arith, low, ap (λ (t : Table). t.shape.readers) (scanning.table ∙ sized))))

      all_noted : length (swept.me.0.marks.polls ++ notes) ≡ length lists.retired
      all_noted =
          omega (
            arith,
            length-append swept.me.0.marks.polls notes,
            now_keep.many,
            flagged_or_not scanned lists.retired,
            ap length (flags_are table lists.retired swept.me.0.heard scanned flagged lists.retired),
            second_pass.held.each.held.many,
          )

      -- every retired slot is kept back
      pub lacks_so : {now : MapSeat} → now.table_id ≡ last.table_id → Ends last.me.0 now.me.0
          → LacksSlot table call before lists now lists (all_taken lists)
      lacks_so {now = now} own ends =
          let gave = ends desk call rows (second.role ∙ role_is ∙ begins) refl in
          let leads = leads_seat table last now own second.search.search.own (call_of call) _ gave.leads in
          let writes = leads.writes in
          let one = leads.grows in
          let shapes : last.me.0.shape ≡ now.me.0.shape = ap (λ (t : Table). t.shape) (sym one.table) in
          let sizes : now.me.0.shape ≡ table.shape = ap (λ (t : Table). t.shape) writes.own in
          let held_now : (token now).retired ≡ lists.retired = ap (λ (r : Role). (desk_of r).retired) writes.role in
          let sum : filled_count (map_seen (token now)) + length lists.retired ≡ now.me.0.shape.slots
          = rw shapes at gave.slots in
          let polls_last : last.me.0.marks.polls ≡ swept.me.0.marks.polls ++ notes
          = ap (λ (m : Marks). m.polls) second_pass.held.marks in
          let polls_now : now.me.0.marks.polls ≡ swept.me.0.marks.polls ++ notes
          = ap (λ (m : Marks). m.polls) gave.marks ∙ polls_last in
          let heard_now = gave.heard ∙ second_pass.heard in
          let more : List LoggedLoad = held_polls (heard_by swept) in
          -- what a word said is among the loads
          let said_among : (slot : ℕ) (note : Past)
          → SaidBehind mid.me.0.marks.loads swept.me.0.marks.loads slot note → SaidThen (all_loads more) slot note
          = λ slot note said. (
            length first_polls + said.0,
            at_behind first_polls (scan_loads ++ more) said.0
                ∙ at_left scan_loads more said.0 (OfWord note.reader (suc slot))
                (sym (at_behind mid.me.0.marks.loads scan_loads said.0)
                ∙ ap (λ (l : List LoggedLoad). get_elem? l (length mid.me.0.marks.loads + said.0)) (sym words_are.2)
                ∙ said.1),
          ) in
          record {
            same = refl;
            writes = writes;
            steps = _;
            loads = all_loads more;
            searched =
                inr (
                  some_words,
                  waits,
                  scan_loads,
                  rw heard_now tells,
                  rw heard_now refl,
                  refl,
                );
            grows =
                grows_both {sum = length (all_loads more) + 1}
                (omega (arith, all_many more, held_many (heard_by swept)))
                (grows_both refl up_to second_pass.grows) one;
            lacks = record {
              would_be_done = rw shapes at gave.would_be_done;
              live = omega (arith, sum, settles.slots, ap (λ (s : Shape). s.slots) sizes);
              held = ap length (sym held_now);
              all = omega (arith, sum, settles.slots, ap (λ (s : Shape). s.slots) sizes);
              full =
                  let fresh : (token now).fresh ≡ lists.fresh = ap (λ (r : Role). (desk_of r).fresh) writes.role in
                  omega (arith, settles.slots, ap (λ (s : Shape). s.slots) sizes);
              apart = λ slot. rw held_now (retired_once table.shape (desk_with lists Idle) writes.room slot);
              many = ap length polls_now ∙ all_noted ∙ ap length (sym held_now);
              others = rw polls_now all_apart;
              few =
                  omega (
                    arith,
                    ap length polls_now,
                    few_of (λ (note : Past). note.reader) (swept.me.0.marks.polls ++ notes) table.shape.readers
                        all_apart in_range,
                    ap (λ (s : Shape). s.readers) sizes,
                  );
              polled = λ none. absurd (let same = ap (λ (t : Table). t.announcers) writes.own in omega arith);
            };
            noted = λ none. absurd (omega arith);
            kept = rw polls_now (record {
              slots = λ slot waits.
                  either (is_flagged scanned slot)
                  (λ is.
                  let (at, note, there, said) = now_keep.slots slot (waits, is) in
                  (at, note, at_left swept.me.0.marks.polls notes at note there, inr (said_among slot note said)))
                  (λ is.
                  let (at, note, there, held)
                  = slot_kept unheard lists.retired second_pass slot waits
                  (sym (flag_is table lists.retired swept.me.0.heard scanned flagged slot) ∙ is) in (
                    length swept.me.0.marks.polls + at,
                    note,
                    at_behind swept.me.0.marks.polls notes at ∙ there,
                    inl (held_within (grows_from up_to) (grows_from one) held),
                  ));
              keepers =
                  each_both
                  (λ note. (slot : ℕ) × (0 < retirements slot lists.retired)
                  × KeptThen before.me.0.seen now.me.0.seen (all_loads more) slot note)
                  swept.me.0.marks.polls notes
                  (λ at note there. let (slot, (waits, _), keeps) = now_keep.each at note there in
                  (slot, waits, inr (said_among slot note keeps.said)))
                  (λ at note there.
                  let (slot, waits, held) = note_kept unheard lists.retired second_pass at note there in
                  (slot, waits, inl (held_within (grows_from up_to) (grows_from one) held)));
              range = in_range;
            });
            marks =
                marks_on now.me.0.marks more
                (gave.marks ∙ second_pass.held.marks
                ∙ ap (λ (l : List Past). with_scan swept.me.0.marks l (swept.me.0.marks.loads ++ more))
                (sym polls_now));
          }
