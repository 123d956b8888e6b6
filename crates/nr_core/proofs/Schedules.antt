-- The laws over all lists of events: what stands between any two steps, and the bound on slots.
-- Each kind of step keeps the core state (ReaderSteps, WriterSteps, Settle, Swap), so each event does (ReaderEvents,
-- Events), from the opening on (Opening).
-- Reach and Follows read the law off a core state; Sweeps keeps what the polls of a call tell, and both justify a call
-- that ends with no slot (no_slot_is_justified).
use Rattle.std.proofs.Common.{List, [], ap, arith, length, refl, subst, sym, ◌+◌, ◌<◌, ◌∙◌, ◌∷◌, ◌≡◌, ◌≤◌, cond, get_or}
use Rattle.std.proofs.Common.{map, ℕ, ◌*◌, ◌++◌, ◌-◌}
use Rattle.std.proofs.lemmas.List.{length-map, take_all}
use Rattle.std.proofs.lemmas.List.Sums.{count_by-le-length}
use Rattle.std.specs.Prelude.{None, Option, Some, fold, Ok, nat_le}
use Rattle.nr_model.specs.Histories.{after, Entry}
use Rattle.nr_model.specs.Maps.{PartialMap, filled_count, is_filled_key, reply_at, state_of}
use Rattle.nr_core.proofs.Events.{after_tell, story_core}
use Rattle.nr_core.proofs.Follows.{follows}
use Rattle.nr_core.proofs.Histories.{length-now, replies_so}
use Rattle.nr_core.proofs.Opening.{opening_core}
use Rattle.nr_core.proofs.Reach.{story_state, stands}
use Rattle.nr_core.proofs.Settle.{ends, key_same}
use Rattle.nr_core.proofs.StateRoles.{IsCoreState}
use Rattle.nr_core.proofs.Sweeps.{Swept, swept_event, AtSweep, Sweep, polled_slots}
use Rattle.nr_core.specs.Laws.{AllGiven, EndsWithout, EverySchedule, IsGiven, SlotBound, map_of, IsJustified}
use Rattle.nr_core.specs.Laws.{call_of_event, call_in}
use Rattle.nr_core.specs.Machine.{moved, unless, or_refusal, found_by}
use Rattle.nr_core.specs.Refusals.{refusal}
use Rattle.nr_core.specs.Sizes.{IsShape}
use Rattle.nr_core.specs.Slots.{bound_of, departures}
use Rattle.nr_core.specs.States.{Event, State, Go, Start, key_of, retired_at}
use Rattle.nr_core.specs.Story.{Poll, Story, beginning, polls_after, story_of, tell, call_of, ending, map_after}
use Rattle.nr_core.specs.Story.{poll_at, polls_at}
use Rattle.nr_core.specs.declared.calls.NoSlot.{NoSlot}
use Rattle.nr_core.specs.declared.calls.Refusal.{Refusal}
use Rattle.nr_core.specs.declared.places.Retired.{Retired}
use Rattle.nr_core.specs.declared.shape.Shape.{Shape}
use Rattle.nr_words.specs.KeyWords.{same_count}
use Rattle.nr_core.proofs.Choices.{on_test}
use Rattle.nr_core.proofs.Counting.{slots_are}
use Rattle.nr_core.proofs.Guards.{is_idle, at_key}
use Rattle.nr_core.proofs.Without.{IsWithout, NoneLeft, look_none, not_going, not_reply, polled_none, read_none}
use Rattle.nr_core.specs.Operations.{going, target_of}
use Rattle.nr_core.specs.Roles.{taken}
use Rattle.nr_core.specs.Writer.{looked, put_on, went}
use Rattle.nr_core.specs.declared.calls.Step.{Step}
use Rattle.nr_core.specs.declared.calls.Step.TheVariants.{Ended}
use Rattle.nr_core.specs.declared.calls.WriterCall.{WriterCall}
use Rattle.nr_core.specs.declared.places.Place.{Place}
use Rattle.nr_core.specs.declared.places.Place.TheVariants.{Idle, Leaving, Putting, Reading, Searching, Withdrawing}
use Rattle.nr_core.specs.declared.roles.Desk.{Desk}
use Rattle.nr_core.proofs.Frames.{stands_at}
use Rattle.nr_model.specs.declared.calls.Reply.TheVariants as reply
use Rattle.nr_core.specs.declared.calls.WReply.TheVariants as writer

-- A no-slot is justified.

-- an answer that is no refusal
answered : (o : Option Refusal) (given step : Step) → or_refusal o given ≡ Ok step → (o ≡ None) × (given ≡ step)
answered None given step e = (refl, cc)
answered (Some why) given step e = absurd (cc)

none_in : {A : Type 0} (l : List A) → length l ≡ 0 → l ≡ []
none_in [] e = refl
none_in (x ∷ l) e = absurd (omega arith)

-- what is known of a call that ends with no slot by such an outcome of its step from a place
record Ending (state : State) (log : List Entry) (place : Place) (polls : List Poll) (call : WriterCall)
    (outcome : Desk × Step) (counts : NoSlot) : Type 0 where
  pub none : NoneLeft state.shape state.desk outcome counts
  pub full : state.shape.slots ≤ state.desk.fresh
  pub free : (s : ℕ) → taken s place ≡ 0
  pub done : reply_at (bound_of state.shape) (call_of call) (state_of (map_after state.shape log) (key_of call))
      ≡ reply.Done
  pub polled : map (λ (poll : Poll). poll.slot) polls ≡ map (λ (entry : Retired). entry.slot) state.desk.retired

justify : (story : Story) (event : Event) (is_core : IsCoreState story.state story.history)
    → refusal story.state event ≡ None
    → Swept (tell story event).state (tell story event).polls → (counts : NoSlot) (call : WriterCall)
    → call_of_event story.state event ≡ call ∷ []
    → (outcome : Desk × Step) → (moved story.state event).desk ≡ outcome.0
    → Ending story.state story.history story.state.desk.place (polls_after story.state story.polls event) call
    outcome counts
    → IsJustified story event counts
justify story event is_core ok swept counts call is_call outcome desk_is ending =
    let state = story.state in
    let shape = state.shape in
    let desk = state.desk in
    let core = is_core.core in
    let writer_there = is_core.fit.writer in
    let all_slots
    = slots_are shape state.words is_core.roles story.history core 0 desk writer_there ending.full ending.free in
    let live_is : counts.live ≡ shape.slots - length desk.retired = ap (λ (n : NoSlot). n.live) ending.none.counted in
    let held_is : counts.held ≡ length desk.retired = ap (λ (n : NoSlot). n.held) ending.none.counted in
    let retired_is = ap (λ (o : Option Refusal). (unless o state (moved state event)).desk.retired) ok
    ∙ ap (λ (d : Desk). d.retired) (desk_is ∙ ending.none.same) in
    record {
      call = call;
      is_call = is_call;
      would_be_done =
          replies_so shape story.history (call_of call)
          ∙ ap (λ (k : ℕ). reply_at (bound_of shape) (call_of call) (state_of (map_after shape story.history) k))
          (key_same call)
          ∙ ending.done;
      live = omega (arith, live_is, all_slots);
      all = omega (arith, live_is, held_is, all_slots);
      held = held_is ∙ ap length (sym retired_is);
      polled =
          ap (λ (o : Option Refusal). map (λ (poll : Poll). poll.slot)
          (unless o story.polls (polls_after state story.polls event))) ok ∙ ending.polled
          ∙ ap (map (λ (entry : Retired). entry.slot)) (sym retired_is);
      were_held = swept.held;
    }

no_polls : (l : List Retired) → length l ≡ 0
    → map (λ (poll : Poll). poll.slot) [] ≡ map (λ (entry : Retired). entry.slot) l
no_polls l e = ap (map (λ (entry : Retired). entry.slot)) (sym (none_in l e))

-- the step after the look, from each place
go_ending : (state : State) (log : List Entry) (polls : List Poll) → IsCoreState state log → Swept state polls
    → (place : Place) → state.desk.place ≡ place → (counts : NoSlot)
    → let outcome
    = went state.shape state.desk place (get_or state.words (target_of (going state.shape state.desk place)) 0) in
    IsWithout counts outcome
    → (call : WriterCall) × (call_in place ≡ call ∷ [])
    × Ending state log place (polls_at state polls place) call outcome counts
go_ending state log polls is_core swept Idle is counts e = absurd (not_going counts e)
go_ending state log polls is_core swept (Leaving k) is counts e = absurd (not_reply counts reply.Evicted e)
go_ending state log polls is_core swept (Withdrawing k) is counts e = absurd (not_reply counts reply.Cancelled e)
go_ending state log polls is_core swept (Putting call rows slot departed index) is counts e =
    let found
    = get_or state.words (target_of (going state.shape state.desk (Putting call rows slot departed index))) 0 in
    let Goal : Type 0
    = (q : WriterCall) × (call ∷ [] ≡ q ∷ [])
    × Ending state log (Putting call rows slot departed index) polls q
    (put_on state.desk call rows slot departed index found) counts in
    on_test (λ (o : Desk × Step). IsWithout counts o → Goal) (nat_le index (2 * length rows))
    (λ _ e'. absurd (not_going counts e')) (λ _ e'. absurd (not_reply counts reply.Done e')) e
go_ending state log polls is_core swept (Reading call s got) is counts e =
    let none_polled : polls ≡ [] = subst (AtSweep state.desk.retired state.holds polls) is swept.sweep in
    let n = read_none is_core.core state.desk counts call s got (stands_at is_core.core 0 is_core.fit.writer is) e in (
      call,
      refl,
      search (n, ap (map (λ (poll : Poll). poll.slot)) none_polled ∙ no_polls state.desk.retired n.2),
    )
go_ending state log polls is_core swept (Searching call rows q) is counts e =
    let shape = state.shape in let words = state.words in let desk = state.desk in let map_now = map_after shape log in
    let at_p = stands_at is_core.core 0 is_core.fit.writer is in
    let sweep : Sweep desk.retired state.holds polls q
    = subst (AtSweep desk.retired state.holds polls) is swept.sweep in
    let found = get_or words (departures shape (retired_at desk q).slot) 0 in let within = at_p.1 in
    let n = polled_none shape desk counts call rows q found e in
    let found_is : found_by state Go ≡ found = ap (λ (p : Place). get_or words (target_of (going shape desk p)) 0) is in
    let miss = ap (λ (w : ℕ). same_count w (retired_at desk q).arrivals) found_is ∙ n.2 in
    let polled = ap (λ b. map (λ (poll : Poll). poll.slot) (cond b polls (polls ++ poll_at state q ∷ []))) miss
    ∙ polled_slots state polls q within sweep.slots
    ∙ ap (map (λ (entry : Retired). entry.slot)) (take_all (q + 1) desk.retired (omega (arith, n.1))) in
    (call, refl, search (n, at_p, polled))

pub no_slot_is_justified : (story : Story) (event : Event) → IsCoreState story.state story.history
    → Swept story.state story.polls
    → Swept (tell story event).state (tell story event).polls → (counts : NoSlot) → EndsWithout story.state event counts
    → IsJustified story event counts
no_slot_is_justified story (Start call) is_core swept after counts e =
    let state = story.state in
    let shape = state.shape in
    let desk = state.desk in
    let w = get_or state.words (key_of call) 0 in
    let outcome = looked shape desk call w in
    let a = answered (refusal state (Start call)) outcome.1 (Ended (writer.NoSlot counts)) e in
    let at = at_key shape (key_of call) _ a.0 in
    let idle = is_idle desk.place at.1 in
    let n = look_none shape desk counts call w a.1 in
    let done = n.3 (state_of (map_after shape story.history) (key_of call)) state.words
    (is_core.core.shows (key_of call) at.0) in
    justify story (Start call) is_core a.0 after counts call refl outcome refl
    (search (n, λ (s : ℕ). ap (taken s) idle, done, no_polls desk.retired n.2))
no_slot_is_justified story Go is_core swept after counts e =
    let state = story.state in
    let desk = state.desk in
    let outcome = went state.shape desk desk.place (found_by state Go) in
    let a = answered (refusal state Go) outcome.1 (Ended (writer.NoSlot counts)) e in
    let n = go_ending state story.history story.polls is_core swept desk.place refl counts a.1 in
    justify story Go is_core a.0 after counts n.0 n.1 outcome refl n.2
no_slot_is_justified story other is_core swept after counts e = absurd e

swept_tell : (story : Story) (event : Event) → IsCoreState story.state story.history → Swept story.state story.polls
    → Swept (tell story event).state (tell story event).polls
swept_tell story event is_core swept =
    let As : Option Refusal → Type 0
    = λ o. Swept (unless o story.state (moved story.state event))
    (unless o story.polls (polls_after story.state story.polls event)) in
    let go : (o : Option Refusal) → refusal story.state event ≡ o → As o
    = λ o. elim o as (λ v. refusal story.state event ≡ v → As v) [
      | None ↦ λ ok. swept_event story.state story.history story.polls event is_core swept ok
      | Some why ↦ λ _. swept
    ] in go (refusal story.state event) refl

all_swept : (events : List Event) (story : Story) → AllGiven (bound_of story.state.shape) events
    → IsCoreState story.state story.history → Swept story.state story.polls
    → Swept (fold tell story events).state (fold tell story events).polls
all_swept [] story given is_core swept = swept
all_swept (event ∷ events) story given is_core swept = let t = after_tell story event given.0 is_core in
    all_swept events (tell story event) (subst (λ s. AllGiven (bound_of s) events) (sym t.1) given.1) t.0
    (swept_tell story event is_core swept)

swept_story : (shape : Shape) (events : List Event) → IsShape shape → AllGiven (bound_of shape) events
    → Swept (story_of shape events).state (story_of shape events).polls
swept_story shape events fits given =
    all_swept events (beginning shape) given (opening_core shape fits)
    (record { few = omega arith; sweep = tt; held = λ i low. absurd (omega arith) })

pub every_schedule_lem : EverySchedule
every_schedule_lem shape events fits given =
    let t = story_core shape events fits given in
    let swept = swept_story shape events fits given in
    let story = story_of shape events in (
      stands story t.0,
      λ event one. follows story event t.0
          (no_slot_is_justified story event t.0 swept (swept_tell story event t.0 swept)),
    )

filled_le : (m : PartialMap) → filled_count m ≤ length m.states
filled_le m = count_by-le-length is_filled_key m.states

-- a call that ends with no slot polled every retired slot while a reader held it
few_held : (story : Story) (event : Event) → IsCoreState story.state story.history → Swept story.state story.polls
    → Swept (tell story event).state (tell story event).polls → (tell story event).state.shape ≡ story.state.shape
    → (counts : NoSlot) → EndsWithout story.state event counts
    → (counts.held ≤ story.state.shape.readers)
    × (story.state.shape.slots < story.state.shape.keys + story.state.shape.readers + 1)
few_held story event is_core swept after kept counts ends =
    let j = no_slot_is_justified story event is_core swept after counts ends in
    let at_most = filled_le (map_of story) in
    let size : length (map_of story).states ≡ story.state.shape.keys = length-now story.state.shape story.history in
    let few : length (tell story event).polls ≤ story.state.shape.readers
    = subst (λ (s : Shape). length (tell story event).polls ≤ s.readers) kept after.few in
    let same = sym (length-map (tell story event).polls (λ (x : Poll). x.slot)) ∙ ap length j.polled
    ∙ length-map (tell story event).state.desk.retired (λ (x : Retired). x.slot) in
    (omega arith, omega arith)

pub slot_bound_lem : SlotBound
slot_bound_lem shape events fits given =
    let t = story_core shape events fits given in
    let swept = swept_story shape events fits given in
    let story = story_of shape events in (
      subst (λ (s : Shape). length story.polls ≤ s.readers) t.1 swept.few,
      λ event counts one ends.
          rw (sym t.1) (few_held story event t.0 swept (swept_tell story event t.0 swept)
          (after_tell story event (subst (λ (s : Shape). IsGiven (bound_of s) event) (sym t.1) one) t.0).1 counts
          (subst (λ (s : State). EndsWithout s event counts) (sym (story_state shape events)) ends)),
    )
