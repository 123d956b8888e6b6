-- A set is put word by word, and published; and what a call that swapped in another word retires, by the word that its
-- key had.
use Rattle.std.proofs.Common.{◌≡◌, ℕ, ◌+◌, ◌*◌, ◌≤◌, List, [], ◌++◌, Bool, false, true, get_or, length, set, refl, sym}
use Rattle.std.proofs.Common.{ap, ◌∙◌, subst, arith, append-nil}
use Rattle.std.specs.Prelude.{slice_set, nat_lt}
use Rattle.std.proofs.lemmas.Bool.{lt-leb}
use Rattle.std.proofs.lemmas.List.{set-set}
use Rattle.nr_model.specs.declared.calls.Reply.TheVariants as reply
use Rattle.nr_model.specs.declared.rows.Row.{Row}
use Rattle.nr_model.specs.Histories.{Entry, IsLegal}
use Rattle.nr_core.specs.Story.{call_of}
use Rattle.nr_core.specs.Writer.{moved_to, unnamed}
use Rattle.nr_core.specs.declared.calls.WriterCall.{WriterCall}
use Rattle.nr_core.specs.declared.places.Place.TheVariants.{Idle, Putting}
use Rattle.nr_core.specs.declared.roles.Desk.{Desk}
use Rattle.nr_board.proofs.Tokens.{grows_both, grows_none}
use Rattle.nr_core.specs.declared.roles.Role.TheVariants.{Writer}
use Rattle.nr_board.specs.Callers.{Caller, Grows, Table, map_at_opening, token, IsSound}
use Rattle.nr_board.proofs.Flagging.{fewer_retired, flags_put}
use Rattle.nr_board.specs.Entries.{AreCallers}
use Rattle.nr_board.specs.Flags.{IsFlagged}
use Rattle.nr_board.specs.Views.{desk_of}
use Rattle.nr_core.specs.SlotLists.{SlotLists}
use Rattle.nr_board.specs.SlotLists.{desk_with}
use Rattle.nr_core.specs.Marks.{Marks, with_name, with_scan}
use Rattle.nr_core.specs.States.{key_of}
use Rattle.nr_board.specs.WriterSeats.{GoesOn, IsPutting, MapSeat, PublishesSet, PutsTo, TakesSlot, WritesAt}
use Rattle.nr_core.specs.Slots.{content, name_number}
use Rattle.nr_words.specs.SetWords.{encode}
use Rattle.nr_model.specs.declared.batches.Delta.{Delta}
use Rattle.nr_model.specs.declared.states.KeyState.{KeyState}
use Rattle.nr_model.specs.declared.states.KeyState.TheVariants as states
use Rattle.nr_model.specs.Maps.{PartialMap, cancel_reply, evict_reply, fill_reply, find_reply, last_number}
use Rattle.nr_model.specs.Maps.{replace_reply, reply_to, state_of, update_reply}
use Rattle.nr_words.specs.KeyWords.{arrivals_of, is_filled, slot_of}
use Rattle.nr_core.proofs.Choices.{on_test}
use Rattle.nr_core.specs.declared.calls.WriterCall.TheVariants.{Cancel, Evict, Fill, Find, Replace, Update}
use Rattle.nr_core.specs.declared.places.Retired.{Retired}
use Rattle.nr_board.proofs.ReaderSeats.{filled_name, shown_filled}
use Rattle.nr_board.specs.WriterAnswers.{Retires, RetiresOne}
use Rattle.nr_board.specs.Kinds.{kind_of, kind_shown}
use Rattle.nr_board.specs.declared.answers.KeyKind.TheVariants as kind
use Rattle.nr_model.specs.declared.calls.Reply.{Reply}

-- what the writer knows after a step is legal
pub knows_after : (steps : ℕ) (old : Caller) (entries : List Entry) (new : Caller) → Grows steps entries old new
    → IsSound new
knows_after steps old entries new grows = record {
  legal = subst (λ (t : Table). IsLegal (map_at_opening t) new.seen) (sym grows.table) grows.legal;
  callers = subst (λ (t : Table). AreCallers t.shape new.seen) (sym grows.table) grows.callers;
  own = grows.own;
}

-- that many words are put
pub record PutSoFar (table : Table) (desk : Desk) (call : WriterCall) (rows : List Row) (slot departed : ℕ)
    (before after : MapSeat) (index : ℕ) : Type 0 where
  pub writes : WritesAt table (moved_to desk (Putting call rows slot departed index)) after
  pub grows : Grows index [] (token before) (token after)
  pub marks : after.me.0.marks ≡ before.me.0.marks
  -- of the slot nothing is heard any more, once a word is put
  pub heard : set after.me.0.heard slot 0 ≡ set before.me.0.heard slot 0

module
    _ {table : Table} {desk : Desk} {call : WriterCall} {rows : List Row} {slot departed index : ℕ}
    {before mid : MapSeat} (so_far : PutSoFar table desk call rows slot departed before mid index) where
  -- the next word of the set can be put
  pub puts_next : {begin word : ℕ} → begin ≡ content table.shape slot 0 → index ≤ 2 * length rows
      → word ≡ get_or (encode rows) index 0 → IsPutting table begin index word mid
  puts_next begin_is more word_is = record {
    desk = _;
    writes = so_far.writes;
    call = call;
    rows = rows;
    slot = slot;
    departed = departed;
    place = refl;
    begin_is = begin_is;
    more = more;
    word_is = word_is;
  }

  -- one word more is put
  pub put_more : {after : MapSeat} → ((at : Desk) → mid.me.0.role ≡ Writer at → PutsTo table at mid after)
      → PutSoFar table desk call rows slot departed before after (index + 1)
  put_more {after = after} puts = let told = puts _ so_far.writes.role in record {
    writes = told.writes;
    grows = grows_both refl so_far.grows told.grows;
    marks = told.marks ∙ so_far.marks;
    heard = ap (λ (l : List ℕ). set l slot 0) told.heard ∙ set-set mid.me.0.heard slot 0 0 ∙ so_far.heard;
  }

pub put_none : {table : Table} {call : WriterCall} {rows : List Row} {slot departed : ℕ} {seat : MapSeat} (desk : Desk)
    → WritesAt table (moved_to desk (Putting call rows slot departed 0)) seat → IsSound (token seat)
    → PutSoFar table desk call rows slot departed seat seat 0
put_none {seat = seat} desk writes knows =
    record { writes = writes; grows = grows_none knows; marks = refl; heard = refl }

-- the slot was taken, and the words of the set were put there
module
    _ {table : Table} {call : WriterCall} {rows : List Row} {lists mid_lists : SlotLists} {slot departed : ℕ}
    {before at mid : MapSeat} (took : TakesSlot table call rows before lists at mid_lists slot departed)
    (writes_at : WritesAt table
    (moved_to (desk_of at.me.0.role) (Putting call rows slot departed (2 * length rows + 1))) mid)
    (puts : Grows (2 * length rows + 1) [] (token at) (token mid)) (marks_stay : mid.me.0.marks ≡ at.me.0.marks)
    (heard : set mid.me.0.heard slot 0 ≡ set at.me.0.heard slot 0) {found : ℕ} {after : MapSeat}
    {after_lists : SlotLists} (goes : GoesOn table found mid after) (retires : after_lists
    ≡ record mid_lists {
      retired = mid_lists.retired ++ unnamed found;
      reaped = slice_set mid_lists.reaped slot false;
    }) where
  writes : WritesAt table (desk_with mid_lists (Putting call rows slot departed (2 * length rows + 1))) mid
  writes = rw (ap desk_of took.writes.role) at writes_at

  -- the swap publishes the set
  pub published : (put : PublishesSet table call rows before lists after after_lists) × (put.slot ≡ slot)
  published =
      let last : ℕ = 2 * length rows + 1 in let desk = desk_with mid_lists (Putting call rows slot departed last) in
      let told = goes desk writes.role in
      let behind = lt-leb last (2 * length rows) (omega arith) in
      let leads = rw behind at told.leads in
      let marks = rw behind at told.marks in
      let swaps = rw behind at told.finds in
      let only_polls = marks_stay ∙ took.marks
      ∙ ap (λ (m : Marks). with_scan before.me.0.marks m.polls (before.me.0.marks.loads ++ took.loads))
      (sym marks_stay) in
      let same_names = ap (λ (m : Marks). get_or m.names (key_of call) 0) (sym only_polls) in (
        record {
          slot = slot;
          inside = writes.room.place.0;
          log = told.log;
          seen = rw behind at told.seen;
          swaps = record { state = swaps.state; name = same_names ∙ swaps.name };
          marks = marks.3 ∙ ap (λ (m : Marks). with_name m (key_of call) slot marks.0 rows) only_polls;
          number = marks.0;
          count = marks.1;
          put = marks.2;
          steps = took.steps;
          mid = mid_lists;
          scanned = at.me.0.heard;
          loads = took.loads;
          took = took.took;
          heard = told.heard ∙ heard;
          few = took.few;
          word = found;
          retires =
              retires
              ∙ ap
              (λ (l : List Bool).
              record mid_lists {
                retired = mid_lists.retired ++ unnamed found;
                reaped = slice_set l slot false;
              })
              took.reaped;
          slots = ap (λ (s : SlotLists). s.slots) retires ∙ took.slots;
          numbers = ap (λ (s : SlotLists). s.numbers) retires ∙ took.numbers;
          writes = subst (λ (s : SlotLists). WritesAt table (desk_with s Idle) after) (sym retires) leads.writes;
          grows =
              grows_both {sum = 2 * length rows + 2 + took.steps} (omega arith)
              (grows_both refl took.grows puts)
              leads.grows;
        },
        refl,
      )

  -- and the slot is flagged
  pub flags_published : {flags : List Bool} → IsFlagged table lists.retired at.me.0.heard flags
      → IsFlagged table after_lists.retired after.me.0.heard (slice_set flags slot true)
  flags_published {flags = flags} flagged =
      rw (ap (λ (s : SlotLists). s.retired) retires)
      (flags_put table lists.retired (mid_lists.retired ++ unnamed found) at.me.0.heard after.me.0.heard flags slot
      flagged ((goes _ writes.role).heard ∙ heard)
      (fewer_retired table before.me.0.heard at.me.0.heard took.loads slot took.steps lists mid_lists (unnamed found)
      took.took))

-- the state that a reply tells
asked_if : (number : ℕ) (state : KeyState) → reply.Done ≡ fill_reply number state → kind_of state ≡ kind.Asked
asked_if number (states.Asked n) is = refl
asked_if number other is = absurd (cc)

full_if_updated : (bound : ℕ) (batch : List Delta) (state : KeyState) → reply.Done ≡ update_reply bound batch state
    → kind_of state ≡ kind.Rows
full_if_updated bound batch (states.Rows n rows) is = refl
full_if_updated bound batch other is = absurd (cc)

full_if_replaced : (state : KeyState) → reply.Done ≡ replace_reply state → kind_of state ≡ kind.Rows
full_if_replaced (states.Rows n rows) is = refl
full_if_replaced other is = absurd (cc)

full_if_evicted : (state : KeyState) → reply.Evicted ≡ evict_reply state → kind_of state ≡ kind.Rows
full_if_evicted (states.Rows n rows) is = refl
full_if_evicted other is = absurd (cc)

no_find : (state : KeyState) (P : Type 0) → reply.Done ≡ find_reply state → P
no_find (states.Hole n) P is = absurd (cc)
no_find other P is = absurd (cc)

no_evict : (state : KeyState) (P : Type 0) → reply.Done ≡ evict_reply state → P
no_evict (states.Hole n) P is = absurd (cc)
no_evict other P is = absurd (cc)

no_cancel : (state : KeyState) (P : Type 0) → reply.Done ≡ cancel_reply state → P
no_cancel (states.Asked n) P is =
    on_test (λ (r : Reply). reply.Done ≡ r → P) (nat_lt n last_number) (λ _ done. absurd (cc))
    (λ _ done. absurd (cc)) is
no_cancel other P is = absurd (cc)

-- the word that shows that state
asked_word : (word : ℕ) → kind_shown word ≡ kind.Asked → is_filled word ≡ false
asked_word word shows = grind arith

module _ (word : ℕ) (old : Caller) (before after : List Retired) (retires : after ≡ before ++ unnamed word) where
  pub one_retired : (key : ℕ) → get_or old.marks.names key 0 ≡ name_number word → kind_shown word ≡ kind.Rows
      → RetiresOne key old before after
  one_retired key named shows = let full = shown_filled word shows in record {
    slot = slot_of word;
    arrivals = arrivals_of word;
    named = named ∙ filled_name word full;
    retires = rw full at retires;
  }

  -- by the call's reply, Done
  pub retires_so : (map : PartialMap) (call : WriterCall) → reply.Done ≡ reply_to map (call_of call)
      → kind_shown word ≡ kind_of (state_of map (key_of call))
      → get_or old.marks.names (key_of call) 0 ≡ name_number word
      → Retires (call_of call) old before after
  retires_so map (Find key) done shows named = no_find (state_of map key) _ done
  retires_so map (Fill key number rows) done shows named =
      let empty = asked_word word (shows ∙ asked_if number (state_of map key) done) in (
        rw empty at named,
        rw (empty, append-nil before) at retires,
      )
  retires_so map (Update key batch) done shows named =
      one_retired key named (shows ∙ full_if_updated map.bound batch (state_of map key) done)
  retires_so map (Replace key rows) done shows named =
      one_retired key named (shows ∙ full_if_replaced (state_of map key) done)
  retires_so map (Evict key) done shows named = no_evict (state_of map key) _ done
  retires_so map (Cancel key) done shows named = no_cancel (state_of map key) _ done

  pub evicted_one : (map : PartialMap) (key : ℕ) → reply.Evicted ≡ evict_reply (state_of map key)
      → kind_shown word ≡ kind_of (state_of map key) → get_or old.marks.names key 0 ≡ name_number word
      → RetiresOne key old before after
  evicted_one map key evicted shows named = one_retired key named (shows ∙ full_if_evicted (state_of map key) evicted)
