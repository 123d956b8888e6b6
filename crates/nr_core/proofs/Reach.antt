-- What holds of a state that events lead to: what stands between any two steps, in the words of the law; the next event
-- leads on, and the writer's next step has room.
use Rattle.std.proofs.Common.{List, [], ap, arith, false, get_or, length, map, refl, subst, suc, sym, true, ℕ, ◌++◌}
use Rattle.std.proofs.Common.{◌+◌, ◌-◌, ◌<◌, ◌∙◌, ◌∷◌, ◌≡◌, Bool, cond, inl, inr, ◌⊎◌}
use Rattle.std.proofs.Math.Logic.{∥∥₁_map}
use Rattle.std.proofs.Props.{props}
use Rattle.std.specs.Prelude.{None, Option, Some, fold, option_map, Ok}
use mathlib.Core.Logic.{dite, ∥∥₁_elim}
use native.Mathlib.Decide.{dec_le}
use Rattle.nr_model.specs.Histories.{Entry}
use Rattle.nr_model.specs.Maps.{PartialMap, number_of}
use Rattle.nr_core.proofs.ReadThrough.{shown_is}
use Rattle.nr_core.proofs.Numbers.{number_within}
use Rattle.nr_core.proofs.Counting.{few_retired, fewer_retired, named_inside, names_it}
use Rattle.nr_core.proofs.Events.{story_core}
use Rattle.nr_core.proofs.Frames.{stands_at}
use Rattle.nr_core.proofs.StateRoles.{IsCoreState, erased, state_sums, found_of, reader_of}
use Rattle.nr_core.proofs.ReaderEvents.{within_set}
use Rattle.nr_core.proofs.Choices.{by_cases}
use Rattle.nr_core.proofs.Sums.{got_at, only-same, only-is, term_le}
use Rattle.nr_core.specs.Core.{AtDesk, AtPlace, Grips, ShowsState}
use Rattle.nr_core.specs.Laws.{AllGiven, IsGiven, HoldsFound, Stands, map_of}
use Rattle.nr_core.specs.Machine.{moved, next_state, run, unless, read_answer}
use Rattle.nr_core.specs.Room.{HasRoom, RoomForStep, RoomOf}
use Rattle.nr_core.specs.Reach.{Reached}
use Rattle.nr_core.specs.Refusals.{refusal}
use Rattle.nr_core.specs.Roles.{held, taken, holds}
use Rattle.nr_core.specs.Sizes.{IsShape}
use Rattle.nr_core.specs.Slots.{bound_of, name_number, named, content}
use Rattle.nr_core.specs.States.{Event, State, hold_of, key_of, no_retired, number_at, opening_state, retired_at, Read}
use Rattle.nr_core.specs.Story.{holders, map_after, shown, story_of, Story, beginning, tell}
use Rattle.nr_core.specs.declared.calls.Refusal.{Refusal}
use Rattle.nr_core.specs.declared.places.Hold.{Hold}
use Rattle.nr_core.specs.declared.places.Place.{Place}
use Rattle.nr_core.specs.declared.places.Place.TheVariants.{Idle, Leaving, Putting, Reading, Searching, Withdrawing}
use Rattle.nr_core.specs.declared.roles.Grip.{Grip}
use Rattle.nr_core.specs.declared.roles.Grip.TheVariants.{Nothing, On}
use Rattle.nr_core.specs.declared.roles.Role.TheVariants.{Reader, Writer}
use Rattle.nr_core.specs.declared.shape.Shape.{Shape}
use Rattle.nr_model.specs.declared.states.KeyState.{KeyState}
use Rattle.std.proofs.lemmas.List.{get_or_past}
use Rattle.std.proofs.lemmas.Bool.{lt-leb}
use lib.ListN.{get_elem?}
use mathlib.Core.Option.{some}
use Rattle.nr_model.proofs.HistoryLemmas.{sends_are_answered_lem}
use Rattle.nr_model.specs.declared.rows.Row.{Row}
use Rattle.nr_words.specs.SetWords.{encode}
use Rattle.nr_core.proofs.Guards.{guard}
use Rattle.nr_core.specs.declared.places.Retired.{Retired}
use Rattle.std.proofs.lemmas.List.Sums.{fold-append}
use Rattle.nr_core.specs.declared.places.Hold.TheVariants as hold
use Rattle.nr_model.specs.declared.states.KeyState.TheVariants as key

-- What the core state of a story says in the words of the law: what stands between any two steps.

-- a slot that is taken is nobody's
pub taken_nobody : (shape : Shape) (words : List ℕ) (map : PartialMap) (hold : ℕ → ℕ) (fresh : ℕ) (l : List Retired)
    (s : ℕ) (p : Place)
    → AtPlace shape words map hold fresh l p → 0 < taken s p → hold s ≡ 0
taken_nobody shape words map hold fresh l s (Putting call rows u departed i) t mine =
    ap hold (sym (only-is s u mine)) ∙ t.nobody
taken_nobody shape words map hold fresh l s other t mine = absurd (omega arith)

erased_is : (x : Grip) (s : ℕ) (n : Option ℕ) → erased x ≡ hold.On s n
    → (rows : List Row) × (b : Bool) × (x ≡ On s rows b) × (n ≡ cond b (Some (length rows)) None)
erased_is Nothing s n e = absurd (cc)
erased_is (On t rows b) s n e = let same : t ≡ s = cc in (rows, b, ap (λ (u : ℕ). On u rows b) same, cc)

-- a read that is not refused gives the word of the set at the index
reads_word : (state : State) (reader slot : ℕ) (size : Option ℕ) (rows : List Row) (b : Bool) (index : ℕ)
    → hold_of state reader ≡ hold.On slot size → size ≡ cond b (Some (length rows)) None
    → ((i : ℕ) → i < length (encode rows)
    → get_or state.words (content state.shape slot i) 0 ≡ get_or (encode rows) i 0)
    → refusal state (Read reader index) ≡ None → read_answer state reader index ≡ Ok (get_or (encode rows) index 0)
reads_word state reader slot size rows b index holds_it known spelt ok = search (arith, guard, state.shape, within_set)

-- a reader that holds a slot, by its role
module _ (story : Story) (is_core : IsCoreState story.state story.history) (r s : ℕ) (n : Option ℕ) (low : 0 < r)
    (holds_it : hold_of story.state r ≡ hold.On s n) where
  holder_role : (rows : List Row) × (b : Bool) × (get_elem? is_core.roles r ≡ some (Reader r (On s rows b)))
      × (n ≡ cond b (Some (length rows)) None)
  holder_role =
      let high = dite (dec_le r story.state.shape.readers) (λ l. l)
      (λ l.
      let none = get_or_past story.state.holds (r - 1) hold.Nothing (omega arith) in
      absurd (cc)) in
      let o = reader_of is_core.fit r low high in
      let x = erased_is o.0 s n (sym o.2 ∙ holds_it) in
      (x.0, x.1, o.1 ∙ ap (λ (g : Grip). some (Reader r g)) x.2, x.3)

  pub holding : HoldsFound story r s n
  holding =
      let state = story.state in
      let role = holder_role in
      let knows = is_core.core.knows r (Reader r (On s role.0 role.1)) role.2 in
      let found_it = found_of state story.history is_core r low s role.0 role.1 role.2 in
      let known = by_cases (λ b. n ≡ cond b (Some (length role.0)) None → (n ≡ None) ⊎ (n ≡ Some (length role.0)))
      role.1 (λ _. inr) (λ _. inl) role.3 in
      search (found_it, knows, known, reads_word state r s n role.0 role.1, role)

  -- is counted, and its slot is in range
  pub holder : (0 < held is_core.roles s) × (s < story.state.shape.slots)
  holder =
      let role = holder_role in
      let part = term_le (holds s) is_core.roles r (Reader r (On s role.0 role.1)) role.2 in
      (omega (arith, only-same s), (is_core.core.knows r (Reader r (On s role.0 role.1)) role.2).0)

pub stands : (story : Story) → IsCoreState story.state story.history → Stands story
stands story is_core =
    let state = story.state in
    let shape = state.shape in
    let core = is_core.core in
    let roles = is_core.roles in
    let sums = state_sums state roles is_core.fit in
    let desk = core.knows 0 (Writer state.desk) is_core.fit.writer in
    record {
      legal = core.legal;
      shows = shown_is state roles story.history core is_core.fit.writer;
      numbered = desk.numbers.agree;
      accounted = record {
        placed = λ s near. omega (arith, core.places s near, (sums s).1);
        named_in = named_inside state.shape state.words roles story.history core;
        retired_in = λ i low.
            (desk.retired i (get_or state.desk.retired i no_retired) (got_at state.desk.retired i no_retired low)).0;
        named_count = λ k s near e. cc (core.counts k s near e, (sums s).0);
        retired_count = λ i low. let x = get_or state.desk.retired i no_retired in
            cc ((desk.retired i x (got_at state.desk.retired i no_retired low)).1, (sums x.slot).0);
        unheld = λ s near mine. sym (sums s).0 ∙ dite (dec_le state.desk.fresh s) (λ l. (desk.free s l near).0)
            (λ l.
            taken_nobody shape state.words (map_of story) (held roles) state.desk.fresh state.desk.retired s
            state.desk.place desk.place
            (omega (arith, ap (λ b. cond {A = ℕ} b 1 0) (lt-leb state.desk.fresh s (omega arith)))));
      };
      held = holding story is_core;
      sent = λ k near. sends_are_answered_lem shape.keys (bound_of shape) shape.first_number k story.history core.legal
          near;
    }

-- A run goes on by one event, and the states that a story tells are the run's.

told_state : (events : List Event) (story : Story) → (fold tell story events).state ≡ fold next_state story.state events
told_state [] story = refl
told_state (event ∷ events) story = told_state events (tell story event)

pub story_state : (shape : Shape) (events : List Event) → (story_of shape events).state ≡ run shape events
story_state shape events = told_state events (beginning shape)

pub run_more : (shape : Shape) (events : List Event) (event : Event)
    → run shape (events ++ event ∷ []) ≡ next_state (run shape events) event
run_more shape events event = fold-append next_state (opening_state shape) events (event ∷ [])

-- What holds of a state that events lead to: the next event leads on, and the writer's next step has room.

all_given : (bound : ℕ) (events : List Event) (event : Event) → AllGiven bound events → IsGiven bound event
    → AllGiven bound (events ++ event ∷ [])
all_given bound [] event all one = (one, tt)
all_given bound (first ∷ events) event all one = (all.0, all_given bound events event all.1 one)

pub shape_kept : (state : State) (event : Event) → (next_state state event).shape ≡ state.shape
shape_kept state event = go (refusal state event)
  where
    go : (o : Option Refusal) → (unless o state (moved state event)).shape ≡ state.shape
    go None = refl
    go (Some why) = refl

pub all_keep_shape : (events : List Event) (state : State) → (fold next_state state events).shape ≡ state.shape
all_keep_shape [] state = refl
all_keep_shape (event ∷ events) state = all_keep_shape events (next_state state event) ∙ shape_kept state event

pub run_keeps_shape : (shape : Shape) (events : List Event) → (run shape events).shape ≡ shape
run_keeps_shape shape events = all_keep_shape events (opening_state shape)

reached_next : (state : State) (event : Event) → IsGiven (bound_of state.shape) event → Reached state
    → Reached (next_state state event)
reached_next state event given reached = let kept = shape_kept state event in record {
  events = reached.events ++ event ∷ [];
  shape = subst IsShape (sym kept) reached.shape;
  given =
      rw kept (all_given (bound_of state.shape) reached.events event reached.given given);
  leads =
      cc (reached.leads, run_more state.shape reached.events event);
}

-- an event leads on
pub leads_on : {state : State} (event : Event) → IsGiven (bound_of state.shape) event → ∥ Reached state ∥₁
    → ∥ Reached (next_state state event) ∥₁
leads_on {state} event given reached = ∥∥₁_map reached (reached_next state event given)

reached_core : (state : State) (reached : Reached state)
    → IsCoreState state (story_of state.shape reached.events).history
reached_core state reached = let t = story_core state.shape reached.events reached.shape reached.given in
    subst (λ s. IsCoreState s (story_of state.shape reached.events).history)
    (story_state state.shape reached.events ∙ sym reached.leads) t.0

-- THE ROOM OF THE NEXT STEP

grip_room : (shape : Shape) (words : List ℕ) (map : PartialMap) (holders : ℕ → ℕ) → (grip : Grip)
    → Grips shape words map holders grip → RoomOf shape (erased grip)
grip_room shape words map holders Nothing t = tt
grip_room shape words map holders (On slot rows true) t = let short = t.1.0.1 in (t.0, omega arith)
grip_room shape words map holders (On slot rows false) t = t.0

pub hold_room : (state : State) (log : List Entry) → IsCoreState state log → (reader : ℕ) → 0 < reader
    → RoomOf state.shape (hold_of state reader)
hold_room state log is_core reader low =
    let i : ℕ = reader - 1 in
    dite (dec_le state.shape.readers i)
    (λ out. subst (RoomOf state.shape) (sym (get_or_past state.holds i hold.Nothing (omega arith))) tt)
    (λ inside. let o = is_core.fit.readers i (omega arith) in
    subst (RoomOf state.shape) (sym o.2)
    (grip_room state.shape state.words (map_after state.shape log) (held is_core.roles) o.0
    (is_core.core.knows (suc i) (Reader (suc i) o.0) o.1)))

pub place_room : (state : State) (log : List Entry) → IsCoreState state log → (place : Place) → state.desk.place ≡ place
    → RoomForStep state place
place_room state log is_core place is =
    go place is (stands_at is_core.core 0 is_core.fit.writer is)
  where
    desk : AtDesk state.shape state.words (map_after state.shape log) (held is_core.roles) state.desk
    desk = is_core.core.knows 0 (Writer state.desk) is_core.fit.writer

    fewer : (slot : ℕ) → slot < state.shape.slots → 0 < named state.shape state.words slot + taken slot state.desk.place
        → length state.desk.retired < state.shape.slots
    fewer = fewer_retired state.shape state.words is_core.roles log is_core.core 0 state.desk is_core.fit.writer

    inside : (k slot : ℕ) → k < state.shape.keys → name_number (get_or state.words k 0) ≡ suc slot
        → slot < state.shape.slots
    inside = named_inside state.shape state.words is_core.roles log is_core.core

    go : (p : Place) → state.desk.place ≡ p
        → AtPlace state.shape state.words (map_after state.shape log) (held is_core.roles) state.desk.fresh
        state.desk.retired p
        → RoomForStep state p
    go Idle e t = tt
    go (Reading call slot got) e t =
        let shown : ShowsState state.shape state.words (get_or state.words (key_of call) 0)
        (key.Rows t.number t.rows) = subst (ShowsState state.shape state.words (get_or state.words (key_of call) 0))
        t.full
        (is_core.core.shows (key_of call) t.near) in
        (inside (key_of call) slot t.near t.names, omega arith)
    go (Leaving k) e t =
        let named_so = names_it state.shape state.words is_core.roles log is_core.core k t.0 t.1.near t.1.names in
        (t.1.near, fewer t.0 (inside k t.0 t.1.near t.1.names) (omega arith))
    go (Withdrawing k) e t =
        (t.near, omega (arith, desk.numbers.agree k t.near, ap number_of t.asked))
    go (Searching call rows poll) e t =
        (t.1, (desk.retired poll (retired_at state.desk poll) (got_at state.desk.retired poll no_retired t.1)).0)
    go (Putting call rows slot departed index) e t =
        let mine : taken slot state.desk.place ≡ 1 = ap (taken slot) e ∙ only-same slot in
        (t.wants.near, fewer slot t.inside (omega arith), t.inside, t.wants.row_set.1)

room_of : (state : State) → Reached state → HasRoom state
room_of state reached =
    let log = (story_of state.shape reached.events).history in
    let is_core = reached_core state reached in
    let numbers = (is_core.core.knows 0 (Writer state.desk) is_core.fit.writer).numbers in
    record {
      shape = reached.shape;
      words = is_core.core.wide;
      holds = is_core.fit.size;
      held = hold_room state log is_core;
      few = few_retired state.shape state.words is_core.roles log is_core.core 0 state.desk is_core.fit.writer;
      numbers = numbers.each;
      within = number_within state.shape log state.desk.numbers is_core.core.fits is_core.core.legal numbers;
      place = place_room state log is_core state.desk.place refl;
    }

-- room is one fact
hold_prop : (shape : Shape) (held : Hold) → IsProp (RoomOf shape held)
hold_prop shape hold.Nothing = hlevel props
hold_prop shape (hold.On slot None) = hlevel props
hold_prop shape (hold.On slot (Some size)) = hlevel props

place_prop : (state : State) (place : Place) → IsProp (RoomForStep state place)
place_prop state Idle = hlevel props
place_prop state other = hlevel props

room_prop : (state : State) → IsProp (HasRoom state)
room_prop state = hlevel (props, hold_prop, place_prop)

pub has_room : {state : State} → ∥ Reached state ∥₁ → HasRoom state
has_room {state} reached = ∥∥₁_elim reached (room_prop state) (room_of state)

-- THE NUMBER OF A KEY

number_shown_of : (state : State) → Reached state → (k : ℕ) → k < state.shape.keys
    → option_map (λ (z : KeyState). number_of z) (shown state k) ≡ Some (number_at state.desk k)
number_shown_of state reached k near =
    let log = (story_of state.shape reached.events).history in
    let is_core = reached_core state reached in
    let writer_there = is_core.fit.writer in
    ap (option_map (λ (z : KeyState). number_of z)) (shown_is state is_core.roles log is_core.core writer_there k near)
    ∙ ap (λ (n : ℕ). Some n) (sym ((is_core.core.knows 0 (Writer state.desk) writer_there).numbers.agree k near))

-- the writer's list tells the number that the words show
pub number_shown : (state : State) → ∥ Reached state ∥₁ → (k : ℕ) → k < state.shape.keys
    → option_map (λ (z : KeyState). number_of z) (shown state k) ≡ Some (number_at state.desk k)
number_shown state reached k near =
    ∥∥₁_elim reached (number_prop state k) (λ (r : Reached state). number_shown_of state r k near)
  where
    number_prop : (state : State) (k : ℕ)
        → IsProp (option_map (λ (z : KeyState). number_of z) (shown state k) ≡ Some (number_at state.desk k))
    number_prop state k = hlevel props
