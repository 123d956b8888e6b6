-- What one event more does: one operation on one word, never a put into a held slot, and entries of its own caller.
use Rattle.std.proofs.Common.{[], Bool, true, false, sym, List, ap, append-nil, arith, cond, length, nat_eq, refl, ℕ}
use Rattle.std.proofs.Common.{◌*◌, ◌++◌, ◌<◌, ◌∙◌, ◌≡◌, ◌≢◌, ◌≤◌}
use Rattle.std.proofs.lemmas.Bool.{eqb-true, leb-true}
use Rattle.std.specs.Prelude.{None, Option, Some, nat_le}
use Rattle.nr_model.specs.Histories.{Entry, entries_of}
use Rattle.nr_model.specs.Maps.{ask_reply, find_reply}
use Rattle.nr_model.specs.declared.calls.Call.{Call}
use Rattle.nr_model.specs.declared.calls.Reply.{Reply}
use Rattle.nr_model.specs.declared.states.KeyState.{KeyState}
use Rattle.nr_core.proofs.Choices.{on_test}
use Rattle.nr_core.proofs.Frames.{stands_at}
use Rattle.nr_core.proofs.WriterSteps.{own_ending_at}
use Rattle.nr_core.proofs.Guards.{guard, no_some, at_key, at_reader, at_reader_key}
use Rattle.nr_core.proofs.Histories.{of-append}
use Rattle.nr_core.proofs.OnKey.{none_of}
use Rattle.nr_core.proofs.Reach.{hold_room, place_room, holder}
use Rattle.nr_core.proofs.Settle.{own_ending}
use Rattle.nr_core.proofs.StateRoles.{IsCoreState}
use Rattle.nr_core.proofs.WordPlaces.{content_apart, content_inside, departures_inside, same_content}
use Rattle.nr_core.specs.Laws.{EndsWithout, Follows, IsJustified, caller_of_event}
use Rattle.nr_core.specs.Machine.{found_by, moved, names_held, unless}
use Rattle.nr_core.specs.Operations.{going, operation, target_of}
use Rattle.nr_core.specs.declared.operation.Operation.{Operation}
use Rattle.nr_core.specs.declared.operation.Operation.TheVariants.{Load}
use Rattle.nr_core.specs.Room.{RoomForStep, RoomOf}
use Rattle.nr_core.specs.Refusals.{if_not_busy, if_not_holding, if_unreadable, refusal}
use Rattle.nr_core.specs.Roles.{held}
use Rattle.nr_core.specs.Slots.{content, slot_room}
use Rattle.nr_core.specs.States.{retired_at, Arrive, Ask, Depart, Event, FindAgain, Go, Read, Start, State, hold_of}
use Rattle.nr_core.specs.States.{key_of, slot_in}
use Rattle.nr_core.specs.Story.{Story, answering, call_of, polls_after, shown, told}
use Rattle.nr_core.specs.Writer.{looked, went}
use Rattle.nr_core.specs.declared.calls.NoSlot.{NoSlot}
use Rattle.nr_core.specs.declared.calls.Refusal.{Refusal}
use Rattle.nr_core.specs.declared.places.Hold.{Hold}
use Rattle.nr_core.specs.declared.places.Place.{Place}
use Rattle.nr_core.specs.declared.places.Place.TheVariants.{Idle, Leaving, Putting, Reading, Searching, Withdrawing}
use Rattle.nr_core.specs.declared.shape.Shape.{Shape}
use Rattle.nr_core.specs.declared.places.Hold.TheVariants as hold
use Rattle.nr_core.specs.declared.calls.Refusal.TheVariants as refuse
use Rattle.nr_model.specs.declared.calls.Call.TheVariants as model

own_answering : (caller : ℕ) (call : Call) (reply : KeyState → Reply) (shows : Option KeyState) (c : ℕ)
    → entries_of (answering caller call reply shows) c ≡ cond (nat_eq caller c) (answering caller call reply shows) []
own_answering caller call reply None c = none_of (nat_eq caller c)
own_answering caller call reply (Some state) c = refl

own_if : (caller : ℕ) (call : Call) (reply : KeyState → Reply) (shows : Option KeyState) (made : Bool) (c : ℕ)
    → entries_of (cond made (answering caller call reply shows) []) c
    ≡ cond (nat_eq caller c) (cond made (answering caller call reply shows) []) []
own_if caller call reply shows true c = own_answering caller call reply shows c
own_if caller call reply shows false c = none_of (nat_eq caller c)

pub told_by_caller : (state : State) (event : Event) (c : ℕ)
    → entries_of (told state event) c ≡ cond (nat_eq (caller_of_event event) c) (told state event) []
told_by_caller state (Arrive r k) c = own_answering r (model.Find k) find_reply (shown state k) c
told_by_caller state (Ask r k) c = own_answering r (model.Ask k) ask_reply (shown state k) c
told_by_caller state (FindAgain r k) c =
    own_if r (model.Find k) find_reply (shown state k) (names_held (hold_of state r) (found_by state (FindAgain r k))) c
told_by_caller state (Start call) c =
    own_ending (call_of call) (looked state.shape state.desk call (found_by state (Start call))).1 c
told_by_caller state Go c =
    own_ending_at state.desk.place (went state.shape state.desk state.desk.place (found_by state Go)).1 c
told_by_caller state other c = none_of (nat_eq _ c)

-- the word of a read that is not refused is a slot's, and so is that of a departure
readable_room : (shape : Shape) (index : ℕ) (held : Hold) → if_unreadable index held ≡ None → RoomOf shape held
    → (slot_in held < shape.slots) × (index < slot_room shape)
readable_room shape index hold.Nothing ok room = absurd (no_some (Some refuse.NotHolding) refuse.NotHolding refl ok)
readable_room shape index (hold.On slot None) ok room = search (arith, guard, eqb-true)
readable_room shape index (hold.On slot (Some size)) ok room =
    let g = guard (nat_le index (2 * size)) None refuse.OutOfRange ok in
    (room.0, omega (arith, leb-true index (2 * size) g.0))

departs_room : (shape : Shape) (held : Hold) → if_not_holding held ≡ None → RoomOf shape held
    → slot_in held < shape.slots
departs_room shape hold.Nothing ok room = absurd (no_some (Some refuse.NotHolding) refuse.NotHolding refl ok)
departs_room shape (hold.On slot None) ok room = room
departs_room shape (hold.On slot (Some size)) ok room = room.0

-- an operation on a content word of a held slot is a load
held_untouched : (state : State) (log : List Entry) (event : Event) (is_core : IsCoreState state log)
    → refusal state event ≡ None → (s i : ℕ)
    → (0 < held is_core.roles s) × (s < state.shape.slots) → i < slot_room state.shape
    → target_of (operation state event) ≡ content state.shape s i
    → operation state event ≡ Load (content state.shape s i)
held_untouched state log (Arrive r k) is_core ok s i held_so low here =
    let near = (at_reader_key state.shape r k _ ok).2 in
    absurd (omega arith)
held_untouched state log (Ask r k) is_core ok s i held_so low here =
    absurd (omega (arith, (at_reader_key state.shape r k _ ok).2))
held_untouched state log (Depart r) is_core ok s i held_so low here =
    absurd (content_apart state.shape s i (slot_in (hold_of state r)) low (sym here))
held_untouched state log Go is_core ok s i held_so low here = go state.desk.place refl here
  where
    go : (p : Place) → state.desk.place ≡ p → target_of (going state.shape state.desk p) ≡ content state.shape s i
        → going state.shape state.desk p ≡ Load (content state.shape s i)
    go (Leaving k) is e =
        let near = (stands_at is_core.core 0 is_core.fit.writer is).1.near in absurd (omega arith)
    go (Withdrawing k) is e = let near = (stands_at is_core.core 0 is_core.fit.writer is).near in absurd (omega arith)
    go (Putting call rows t departed j) is e =
        let p = stands_at is_core.core 0 is_core.fit.writer is in
        let free = p.nobody in
        on_test (λ (o : Operation). target_of o ≡ content state.shape s i → o ≡ Load (content state.shape s i))
        (nat_le j (2 * length rows))
        (λ yes e. let l : j ≤ 2 * length rows = leb-true j (2 * length rows) yes in
        let same_slot : s ≡ t = same_content state.shape s i t j low (omega arith) (sym e) in
        let zero_there : held is_core.roles s ≡ 0 = ap (held is_core.roles) same_slot ∙ free in absurd (omega arith))
        (λ no e. absurd (omega arith)) e
    go other is e = ap Load e
held_untouched state log other is_core ok s i held_so low here = ap Load here

key_inside : {state : State} {log : List Entry} (is_core : IsCoreState state log) {k : ℕ} → k < state.shape.keys
    → k < length state.words
key_inside is_core near = let wide = is_core.core.wide in omega arith

-- an operation is on one of the words
inside_words : (state : State) (log : List Entry) (event : Event) → IsCoreState state log → refusal state event ≡ None
    → target_of (operation state event) < length state.words
inside_words state log (Start call) is_core ok = key_inside is_core (at_key state.shape (key_of call) _ ok).0
inside_words state log (Read r index) is_core ok = let wide = is_core.core.wide in
    let at = at_reader state.shape r _ ok in
    let t = readable_room state.shape index (hold_of state r) at.2 (hold_room state log is_core r at.0) in
    omega (arith, content_inside state.shape (slot_in (hold_of state r)) index t.0 t.1)
inside_words state log (Depart r) is_core ok = let wide = is_core.core.wide in
    let at = at_reader state.shape r _ ok in
    omega (
      arith,
      departures_inside state.shape (slot_in (hold_of state r))
          (departs_room state.shape (hold_of state r) at.2 (hold_room state log is_core r at.0)),
    )
inside_words state log Go is_core ok = go state.desk.place refl (place_room state log is_core state.desk.place refl)
  where
    go : (place : Place) → state.desk.place ≡ place → RoomForStep state place
        → target_of (going state.shape state.desk place) < length state.words
    go Idle is room = absurd (no_some (if_not_busy state.desk.place) refuse.NotBusy (ap if_not_busy is) ok)
    go (Reading call slot got) is room =
        let wide = is_core.core.wide in
        omega (arith, content_inside state.shape slot (length got) room.0 room.1)
    go (Searching call rows poll) is room =
        let wide = is_core.core.wide in
        omega (arith, departures_inside state.shape (retired_at state.desk poll).slot room.1)
    go (Putting call rows slot departed index) is room =
        on_test (λ (o : Operation). target_of o < length state.words) (nat_le index (2 * length rows))
        (λ yes.
        let l : index ≤ 2 * length rows = leb-true index (2 * length rows) yes in
        omega (arith, content_inside state.shape slot index room.2 (omega arith)))
        (λ _. omega arith)
    go other is room = let wide = is_core.core.wide in let near = room.0 in omega arith
inside_words state log other is_core ok = key_inside is_core (at_reader_key state.shape _ _ _ ok).2

pub follows : (story : Story) (event : Event) → IsCoreState story.state story.history
    → ((counts : NoSlot) → EndsWithout story.state event counts → IsJustified story event counts) → Follows story event
follows story event is_core justified = record {
  one_operation = λ ok. (
    inside_words story.state story.history event is_core ok,
    ap (λ (o : Option Refusal). (unless o story.state (moved story.state event)).words) ok,
    ap (λ (o : Option Refusal). (unless o story.state (moved story.state event)).made) ok,
  );
  refused = λ why. stays (refusal story.state event) why;
  untouched = λ ok r s i n low is low_i here. held_untouched story.state story.history event is_core ok s i
      (holder story is_core r s n low is) low_i here;
  own = λ c. of-append c story.history (unless (refusal story.state event) [] (told story.state event))
      ∙ ap (λ (l : List Entry). entries_of story.history c ++ l) (mine (refusal story.state event) c);
  justified = justified;
}
  where
    stays : (o : Option Refusal) → o ≢ None → record {
      state = unless o story.state (moved story.state event);
      history = story.history ++ unless o []
          (told story.state event);
      polls = unless o story.polls (polls_after story.state story.polls event);
    } ≡ story
    stays None ne = absurd (ne refl)
    stays (Some why) ne = ap (λ (l : List Entry). record story { history = l }) (append-nil story.history)

    mine : (o : Option Refusal) (c : ℕ)
        → entries_of (unless o [] (told story.state event)) c
        ≡ cond (nat_eq (caller_of_event event) c) (unless o [] (told story.state event)) []
    mine None c = told_by_caller story.state event c
    mine (Some why) c = none_of (nat_eq (caller_of_event event) c)
