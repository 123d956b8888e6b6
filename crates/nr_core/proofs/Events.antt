-- Every event keeps the core state of a story, the readers' (ReaderEvents) and the writer's, and so does a list of
-- events.
use Rattle.std.proofs.Common.{List, [], append-nil, refl, subst, sym, ◌++◌, ◌∙◌, ◌∷◌, ◌≡◌, get_or}
use Rattle.std.specs.Prelude.{None, Option, Some, fold}
use Rattle.nr_model.specs.Histories.{Entry}
use Rattle.nr_core.proofs.Opening.{opening_core}
use Rattle.nr_core.proofs.ReaderEvents.{after_arrive, after_ask, after_depart, after_find_again, after_read}
use Rattle.nr_core.proofs.StateRoles.{IsCoreState, fit_writer, found_writer}
use Rattle.nr_core.specs.Laws.{AllGiven, IsGiven}
use Rattle.nr_core.specs.Machine.{moved, unless}
use Rattle.nr_core.specs.Refusals.{refusal}
use Rattle.nr_core.specs.Sizes.{IsShape}
use Rattle.nr_core.specs.Slots.{bound_of}
use Rattle.nr_core.specs.States.{Arrive, Ask, Depart, Event, FindAgain, Go, Read, Start, State, key_of}
use Rattle.nr_core.specs.Story.{Story, beginning, story_of, tell, told, call_of, ending, ending_at}
use Rattle.nr_core.specs.declared.calls.Refusal.{Refusal}
use Rattle.nr_core.specs.declared.shape.Shape.{Shape}
use Rattle.nr_core.proofs.Stepping.{core_after}
use Rattle.nr_core.proofs.WriterSteps.{goes, own_ending_at, looks}
use Rattle.nr_core.proofs.Guards.{is_idle, at_key}
use Rattle.nr_core.specs.Given.{IsGivenCall}
use Rattle.nr_core.specs.Operations.{going, target_of}
use Rattle.nr_core.specs.Writer.{looked, went}
use Rattle.nr_core.specs.declared.calls.WriterCall.{WriterCall}
use Rattle.nr_core.proofs.Settle.{own_ending}

pub after_start : (state : State) (log : List Entry) (call : WriterCall) → IsGivenCall (bound_of state.shape) call
    → IsCoreState state log
    → refusal state (Start call) ≡ None → IsCoreState (moved state (Start call)) (log ++ told state (Start call))
after_start state log call given is_core ok =
    let shape = state.shape in
    let words = state.words in
    let roles = is_core.roles in
    let f = is_core.fit in
    let at = at_key shape (key_of call) _ ok in
    let o = looked shape state.desk call (get_or words (key_of call) 0) in
    let step
    = looks shape 0 state.desk call (is_idle state.desk.place at.1) given at.0
    words roles log is_core.core f.writer in
    let found = found_writer roles log (ending (call_of call) o.1) o.0 is_core.found (own_ending (call_of call) o.1) in
    search (core_after step step.told.0 step.told.1, fit_writer shape.readers roles state.holds state.desk o.0 f, found)

pub after_go : (state : State) (log : List Entry) → IsCoreState state log → refusal state Go ≡ None
    → IsCoreState (moved state Go) (log ++ told state Go)
after_go state log is_core ok =
    let shape = state.shape in
    let words = state.words in
    let roles = is_core.roles in
    let f = is_core.fit in
    let desk = state.desk in
    let o = went shape desk desk.place (get_or words (target_of (going shape desk desk.place)) 0) in
    let step = goes shape 0 desk ok words roles log is_core.core f.writer in
    let found = found_writer roles log (ending_at desk.place o.1) o.0 is_core.found (own_ending_at desk.place o.1) in
    search (core_after step step.told.0 step.told.1, fit_writer shape.readers roles state.holds desk o.0 f, found)

pub after_event : (state : State) (log : List Entry) (event : Event) → IsGiven (bound_of state.shape) event
    → IsCoreState state log → refusal state event ≡ None → IsCoreState (moved state event) (log ++ told state event)
after_event state log (Arrive r k) given is_core ok = after_arrive state log r k is_core ok
after_event state log (Read r i) given is_core ok = after_read state log r i is_core ok
after_event state log (Depart r) given is_core ok = after_depart state log r is_core ok
after_event state log (Ask r k) given is_core ok = after_ask state log r k is_core ok
after_event state log (FindAgain r k) given is_core ok = after_find_again state log r k is_core ok
after_event state log (Start call) given is_core ok = after_start state log call given is_core ok
after_event state log Go given is_core ok = after_go state log is_core ok

pub after_tell : (story : Story) (event : Event) → IsGiven (bound_of story.state.shape) event
    → IsCoreState story.state story.history
    → IsCoreState (tell story event).state (tell story event).history
    × ((tell story event).state.shape ≡ story.state.shape)
after_tell story event given is_core =
    let As : Option Refusal → Type 0 = λ o. IsCoreState (unless o story.state (moved story.state event))
    (story.history ++ unless o [] (told story.state event))
    × ((unless o story.state (moved story.state event)).shape ≡ story.state.shape) in
    let go : (o : Option Refusal) → refusal story.state event ≡ o → As o
    = λ o. elim o as (λ v. refusal story.state event ≡ v → As v) [
      | None ↦ λ ok. (after_event story.state story.history event given is_core ok, refl)
      | Some w ↦ λ _. (subst (IsCoreState story.state) (sym (append-nil story.history)) is_core, refl)
    ] in go (refusal story.state event) refl

pub all_told : (events : List Event) (story : Story) → AllGiven (bound_of story.state.shape) events
    → IsCoreState story.state story.history
    → IsCoreState (fold tell story events).state (fold tell story events).history
    × ((fold tell story events).state.shape ≡ story.state.shape)
all_told [] story given is_core = (is_core, refl)
all_told (event ∷ events) story given is_core =
    let t = after_tell story event given.0 is_core in
    let u = all_told events (tell story event) (subst (λ s. AllGiven (bound_of s) events) (sym t.1) given.1) t.0 in
    (u.0, u.1 ∙ t.1)

pub story_core : (shape : Shape) (events : List Event) → IsShape shape → AllGiven (bound_of shape) events
    → IsCoreState (story_of shape events).state (story_of shape events).history
    × ((story_of shape events).state.shape ≡ shape)
story_core shape events fits given = all_told events (beginning shape) given (opening_core shape fits)
