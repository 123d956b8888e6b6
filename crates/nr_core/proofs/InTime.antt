-- Each entry is told between its call's first step and its last.
use Rattle.std.proofs.Common.{[], List, ap, append-nil, append_assoc, arith, fold, inl, inr, length, map, refl, subst}
use Rattle.std.proofs.Common.{sym, ℕ, ⊎_elim, ◌++◌, ◌*◌, ◌<◌, ◌∙◌, ◌∷◌, ◌≡◌, ◌⊎◌}
use Rattle.std.proofs.lemmas.List.Sums.{fold-append}
use Rattle.std.proofs.lemmas.Bool.{ne_eqb}
use Rattle.std.specs.Prelude.{None, Option, Some, nat_le}
use Rattle.nr_model.specs.Histories.{Entry, entries_of}
use Rattle.nr_model.specs.Maps.{ask_reply, find_reply}
use Rattle.nr_model.specs.declared.calls.Call.{Call}
use Rattle.nr_model.specs.declared.calls.Reply.{Reply}
use Rattle.nr_model.specs.declared.states.KeyState.{KeyState}
use Rattle.nr_core.proofs.Choices.{on_test}
use Rattle.nr_core.proofs.Follows.{told_by_caller}
use Rattle.nr_core.proofs.Histories.{of-append}
use Rattle.nr_core.specs.InTime.{BeganAmong, EntriesInTime, TellsOne, TellsOwn, told_by, told_since, under_way}
use Rattle.nr_core.specs.Laws.{call_in, caller_of_event}
use Rattle.nr_core.specs.Machine.{found_by, moved, unless}
use Rattle.nr_core.specs.Refusals.{refusal}
use Rattle.nr_core.specs.States.{Arrive, Ask, Depart, Event, FindAgain, Go, Read, Start, State}
use Rattle.nr_core.specs.Story.{Story, answering, beginning, call_of, ending, ending_at, shown, story_of, tell, told}
use Rattle.nr_core.specs.Writer.{looked, went}
use Rattle.nr_core.specs.declared.calls.Refusal.{Refusal}
use Rattle.nr_core.specs.declared.calls.Step.{Step}
use Rattle.nr_core.specs.declared.calls.Step.TheVariants.{Ended, Going}
use Rattle.nr_core.specs.declared.calls.WriterCall.{WriterCall}
use Rattle.nr_core.specs.declared.places.Place.{Place}
use Rattle.nr_core.specs.declared.places.Place.TheVariants.{Idle, Putting, Reading, Searching}
use Rattle.nr_core.specs.declared.roles.Desk.{Desk}
use Rattle.nr_core.specs.declared.shape.Shape.{Shape}
use Rattle.nr_core.proofs.Guards.{at_reader_key}
use Rattle.nr_core.proofs.Without.{OfOutcomes, ShownBy, looked_has, read_has}
use Rattle.nr_model.specs.declared.calls.Call.TheVariants as model
use Rattle.nr_core.specs.declared.calls.WReply.TheVariants as writer

-- After a step of the writer no call is under way, or the same one is, and the step told nothing.
abbrev GoesOn : List WriterCall → Desk × Step → Type 0
GoesOn calls outcome = (call_in outcome.0.place ≡ []) ⊎ ((call_in outcome.0.place ≡ calls) × (outcome.1 ≡ Going))

module _ (shape : Shape) (desk : Desk) where
  on_now : (shown : KeyState → Type 0) → OfOutcomes shape desk shown (λ call. GoesOn (call ∷ []))
  on_now shown = search (inl, inr)

  went_on : (place : Place) (found : ℕ) → GoesOn (call_in place) (went shape desk place found)
      ⊎ (place ≡ Idle)
  went_on Idle found = inr refl
  went_on (Reading call slot got) found =
      inl (read_has shape desk (λ call. GoesOn (call ∷ [])) on_now call slot (got ++ found ∷ []))
  went_on (Searching call rows poll) found = search (arith, on_test)
  went_on (Putting call rows slot departed index) found = inl
      (on_test (GoesOn (call ∷ [])) (nat_le index (2 * length rows)) (λ _. inr (refl, refl)) (λ _. inl refl))
  went_on other found = inl (inl refl)

-- an event tells nothing, or an entry of its own caller and call
abbrev Tells : ℕ → List Call → List Entry → Type 0
Tells caller calls entries = (entries ≡ []) ⊎ TellsOne caller calls entries

tells_answer : (caller : ℕ) (call : Call) (reply : KeyState → Reply) (shows : Option KeyState)
    → Tells caller (call ∷ []) (answering caller call reply shows)
tells_answer caller call reply None = inl refl
tells_answer caller call reply (Some state) = inr (record { call = call; reply = reply state; own = refl; one = refl })

tells_ending : (call : Call) (step : Step) → Tells 0 (call ∷ []) (ending call step)
tells_ending call (Ended (writer.Reply answer)) = inr (record { call = call; reply = answer; own = refl; one = refl })
tells_ending call other = inl refl

tells_ending_at : (place : Place) (step : Step) → Tells 0 (map call_of (call_in place)) (ending_at place step)
tells_ending_at Idle step = inl refl
tells_ending_at other step = tells_ending _ step

tells_own : (state : State) (event : Event) → TellsOwn state event
tells_own state (Arrive reader at) = tells_answer reader (model.Find at) find_reply (shown state at)
tells_own state (Ask reader at) = tells_answer reader (model.Ask at) ask_reply (shown state at)
tells_own state (FindAgain reader at) = search (arith, on_test, tells_answer)
tells_own state (Start call) =
    tells_ending (call_of call) (looked state.shape state.desk call (found_by state (Start call))).1
tells_own state Go =
    tells_ending_at state.desk.place (went state.shape state.desk state.desk.place (found_by state Go)).1
tells_own state other = inl refl

-- What an event leaves of the writer's call, where it is refused so: the call, and the writer told nothing; or none; or
-- the call that it began.
abbrev LeavesIf : Story → Event → Option Refusal → Type 0
LeavesIf story event o =
    let after = unless o story.state (moved story.state event) in
    let tells = unless o [] (told story.state event) in
    ((call_in after.desk.place ≡ under_way story) × (entries_of tells 0 ≡ []))
    ⊎ (call_in after.desk.place ≡ [])
    ⊎ ((call : WriterCall) × (event ≡ Start call) × (o ≡ None) × (call_in after.desk.place ≡ call ∷ [])
    × (entries_of tells 0 ≡ []))

abbrev Leaves : Story → Event → Type 0
Leaves story event = LeavesIf story event (refusal story.state event)

no_ending_at : (place : Place) (step : Step) → step ≡ Going → ending_at place step ≡ []
no_ending_at Idle step e = refl
no_ending_at other step e = ap (ending _) e

-- an event that is refused leaves all as it was; of one that isn't it is enough to know what it does
leaves_if : (story : Story) (event : Event) → (refusal story.state event ≡ None → LeavesIf story event None)
    → Leaves story event
leaves_if story event does = go (refusal story.state event) refl
  where
    go : (o : Option Refusal) → refusal story.state event ≡ o → LeavesIf story event o
    go (Some why) _ = inl (refl, refl)
    go None ok = does ok

-- what a reader's event tells isn't the writer's
of_reader : (story : Story) (event : Event) → 0 < caller_of_event event → entries_of (told story.state event) 0 ≡ []
of_reader story event reader = search (arith, told_by_caller, ne_eqb)

leaves : (story : Story) (event : Event) → Leaves story event
leaves story (Read reader index) = leaves_if story (Read reader index) (λ _. inl (refl, refl))
leaves story (Depart reader) = leaves_if story (Depart reader) (λ _. inl (refl, refl))
leaves story (Start call) = leaves_if story (Start call) (λ _.
    let state = story.state in
    let outcome = looked state.shape state.desk call (found_by state (Start call)) in
    ⊎_elim (λ none. inr (inl none))
    (λ on. inr (inr
    (call, refl, refl, on.0, ap (λ entries. entries_of entries 0) (ap (ending (call_of call)) on.1))))
    (looked_has state.shape state.desk (λ call. GoesOn (call ∷ [])) (found_by state (Start call))
    (on_now state.shape state.desk (ShownBy state.shape (found_by state (Start call)))) call))
leaves story Go = leaves_if story Go (λ _.
    let state = story.state in
    let outcome = went state.shape state.desk state.desk.place (found_by state Go) in
    ⊎_elim
    (⊎_elim (λ none. inr (inl none))
    (λ on. inl (on.0, ap (λ entries. entries_of entries 0) (no_ending_at state.desk.place outcome.1 on.1))))
    (λ idle. inr (inl (cc)))
    (went_on state.shape state.desk state.desk.place (found_by state Go)))
leaves story other =
    leaves_if story other (λ ok. inl (refl, of_reader story other (at_reader_key story.state.shape _ _ _ ok).0))

-- the story of events that go on
goes_on : (shape : Shape) (earlier later : List Event)
    → story_of shape (earlier ++ later) ≡ fold tell (story_of shape earlier) later
goes_on shape earlier later = fold-append tell (beginning shape) earlier later

behind_from : (later : List Event) (story : Story)
    → (fold tell story later).history ≡ story.history ++ told_since story later
behind_from [] story = sym (append-nil story.history)
behind_from (event ∷ later) story =
    behind_from later (tell story event)
    ∙ append_assoc story.history (told_by story event) (told_since (tell story event) later)

since_more : (events : List Event) (event : Event) (story : Story)
    → told_since story (events ++ event ∷ []) ≡ told_since story events ++ told_by (fold tell story events) event
since_more [] event story = append-nil (told_by story event)
since_more (first ∷ events) event story = search (arith, since_more events event (tell story first), append_assoc)

abbrev Began : Shape → List Event → Type 0
Began shape events = (call : WriterCall) → under_way (story_of shape events) ≡ call ∷ [] → BeganAmong shape events call

not_both : {A : Type 0} (x : A) (list : List A) → list ≡ [] → list ≡ x ∷ [] → ⊥
not_both x list none one = cc

began_more : (shape : Shape) (events : List Event) (event : Event) → Began shape events
    → Began shape (events ++ event ∷ [])
began_more shape events event began call is =
    let story = story_of shape events in
    let more = goes_on shape events (event ∷ []) in
    let now : under_way (tell story event) ≡ call ∷ [] = sym (ap under_way more) ∙ is in
    ⊎_elim
    (λ kept.
    let b = began call (sym kept.0 ∙ now) in
    let there = sym (goes_on shape b.before (Start call ∷ b.since)) ∙ ap (story_of shape) (sym b.split) in
    record {
      before = b.before;
      since = b.since ++ event ∷ [];
      split = ap (λ list. list ++ event ∷ []) b.split ∙ append_assoc b.before (Start call ∷ b.since) (event ∷ []);
      taken = b.taken;
      none =
          ap (λ entries. entries_of entries 0) (since_more (Start call ∷ b.since) event (story_of shape b.before))
          ∙ of-append 0 (told_since (story_of shape b.before) (Start call ∷ b.since))
          (told_by (fold tell (story_of shape b.before) (Start call ∷ b.since)) event)
          ∙ ap (λ entries. entries
          ++ entries_of (told_by (fold tell (story_of shape b.before) (Start call ∷ b.since)) event) 0) b.none
          ∙ ap (λ s. entries_of (told_by s event) 0) there
          ∙ kept.1;
    })
    (⊎_elim (λ none. absurd (not_both call (under_way (tell story event)) none now))
    (λ starts.
    let same : starts.0 ≡ call = cc (starts.3) in
    let is_start : event ≡ Start call = starts.1 ∙ ap Start same in
    record {
      before = events;
      since = [];
      split = ap (λ e. events ++ e ∷ []) is_start;
      taken = subst (λ e. refusal story.state e ≡ None) is_start starts.2;
      none =
          ap (λ entries. entries_of entries 0) (append-nil (told_by story (Start call)))
          ∙ subst (λ e. entries_of (told_by story e) 0 ≡ []) is_start starts.4;
    }))
    (leaves story event)

began_since : (later events : List Event) (shape : Shape) → Began shape events → Began shape (events ++ later)
began_since [] events shape began = subst (Began shape) (sym (append-nil events)) began
began_since (event ∷ later) events shape began =
    subst (Began shape) (append_assoc events (event ∷ []) later)
    (began_since later (events ++ event ∷ []) shape (began_more shape events event began))

pub entries_in_time_lem : EntriesInTime
entries_in_time_lem shape earlier later = record {
  behind = ap (λ (s : Story). s.history) (goes_on shape earlier later) ∙ behind_from later (story_of shape earlier);
  own = λ event. tells_own (story_of shape earlier).state event;
  began = began_since earlier [] shape (λ call one. absurd (not_both call [] refl one));
  ends = λ event. ⊎_elim (λ kept. inl kept.1) (⊎_elim (λ none. inr none) (λ starts. inl starts.4))
      (leaves (story_of shape earlier) event);
}
