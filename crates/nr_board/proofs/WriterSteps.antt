-- The writer's steps on the table: the look of each call, and every later step.
use Rattle.std.proofs.Common.{◌⊎◌, eq-eqb, inl, inr, ⊎_elim, nat_le, zero, ◌≡◌, ℕ, suc, ◌+◌, ◌*◌, ◌<◌, ◌≤◌, List, []}
use Rattle.std.proofs.Common.{◌∷◌, ◌++◌, cond, map, set, get_or, le-leb, length, take, refl, sym, ap, ◌∙◌, subst, arith}
use Rattle.std.specs.Prelude.{None, Some}
use mathlib.Core.Option.{some}
use lib.ListN.{get_elem?}
use Rattle.atomic_table.specs.Table.{Allows, Me, State, carried_after}
use Rattle.atomic_table.proofs.Lists.{at_map}
use Rattle.nr_model.specs.Histories.{Entry}
use Rattle.nr_model.specs.Maps.{call_key, state_of}
use Rattle.nr_model.specs.declared.rows.Row.{Row}
use Rattle.nr_model.specs.declared.calls.Call.{Call}
use Rattle.nr_words.specs.SetWords.{encode}
use Rattle.nr_core.proofs.WriterSteps.{goes, looks}
use Rattle.nr_core.proofs.ReadThrough.{read_next, read_set}
use Rattle.nr_core.proofs.Guards.{no_some}
use Rattle.nr_core.proofs.Settle.{key_same}
use Rattle.nr_core.proofs.Sums.{here_after}
use Rattle.nr_core.specs.Core.{AreNumbers, AtPlace, Core, Wants}
use Rattle.nr_core.specs.Given.{IsGivenCall}
use Rattle.nr_core.specs.Operations.{becomes, going, target_of}
use Rattle.nr_core.specs.declared.operation.Operation.{Operation}
use Rattle.nr_core.specs.declared.operation.Operation.TheVariants.{Load, Store, Swap}
use Rattle.nr_core.specs.Refusals.{if_not_busy}
use Rattle.nr_core.specs.Roles.{held, holds, is_by, is_writer, is_reader}
use Rattle.nr_words.specs.KeyWords.{naming, same_count}
use Rattle.nr_core.specs.Slots.{content, departures, bound_of, layout, name_number, slot_room}
use Rattle.nr_core.specs.States.{key_of, retired_at}
use Rattle.nr_core.specs.Steps.{Goes, Looks, Stepped, Telling}
use Rattle.nr_core.specs.Story.{call_of, ending, ending_at, map_after}
use Rattle.nr_core.specs.Writer.{looked, moved_to, went}
use Rattle.nr_core.specs.declared.calls.NoSlot.{NoSlot}
use Rattle.nr_core.specs.declared.calls.Step.{Step}
use Rattle.nr_core.specs.declared.calls.Step.TheVariants.{Ended, Going}
use Rattle.nr_core.specs.declared.calls.WReply.TheVariants as writer
use Rattle.nr_core.specs.declared.calls.WriterCall.{WriterCall}
use Rattle.nr_core.specs.declared.places.Place.{Place}
use Rattle.nr_core.specs.declared.places.Place.TheVariants.{Idle, Leaving, Putting, Reading, Searching, Withdrawing}
use Rattle.nr_core.specs.declared.roles.Desk.{Desk}
use Rattle.nr_core.specs.declared.roles.Role.{Role}
use Rattle.nr_core.specs.declared.calls.Refusal.TheVariants as refuse
use Rattle.nr_core.specs.declared.roles.Role.TheVariants.{Writer}
use Rattle.nr_core.specs.declared.shape.Shape.{Shape}
use Rattle.nr_core.proofs.GoMarks.{goes_marked}
use Rattle.nr_core.proofs.LookMarks.{looks_marked}
use Rattle.nr_core.specs.MarkSteps.{GoesMarks, LooksMarks, PollTells, PollsNext, PutsMarks, went_marks}
use Rattle.nr_core.specs.Marked.{IsPresent, MarkTelling, NotesPresent, Remarked}
use Rattle.nr_core.proofs.Choices.{by_cases, on_test}
use Rattle.nr_board.proofs.Brings.{given_brings, reads_no_fill, wants_brings, writer_entries}
use Rattle.nr_board.proofs.Learning.{shows_kind}
use Rattle.nr_core.specs.Marks.{Marks, Past, gripped}
use Rattle.nr_board.proofs.Heard.{zero_at}
use Rattle.nr_board.proofs.Lift.{Choice, KeepsLent, content_no_count, key_inside, key_no_count, knows_pasts, lends_on}
use Rattle.nr_board.proofs.Lift.{lifts, sees_alone, sees_plain}
use Rattle.nr_board.proofs.PollNotes.{at_get}
use Rattle.nr_board.specs.Announcing.{IsNoCount, PollsHeard, heard_after, heard_at}
use Rattle.nr_core.proofs.Counting.{named_inside}
use Rattle.nr_core.proofs.WordPlaces.{content_inside}
use Rattle.nr_words.specs.Places.{total_of}
use Rattle.std.proofs.lemmas.Bool.{leb-true}
use Rattle.nr_board.proofs.Moves.{ActsGo, NamesGo, learned, learning, names_go}
use Rattle.nr_board.specs.Entries.{AreCallers, acts_told, to_depart}
use Rattle.nr_board.proofs.Shortage.{Shortage, go_short, lacks_so, look_short, room_at}
use Rattle.nr_board.specs.Plays.{Advances, Finds, Leads, Looked, NotesTell, Put, SwapsAt, SwapsOrPuts, Room, Went}
use Rattle.nr_board.specs.Plays.{call_at, next_put, put_place}
use Rattle.nr_board.specs.Rule.{Fits, Kept, marks_of, role_of}
use Rattle.nr_board.specs.Views.{View, desk_of, grip_of, caller_number}

pub writer_shape : (shape : Shape) (log : List Entry) (view : View) (desk : Desk) → view.role ≡ Writer desk
    → Fits shape log view → view.shape ≡ shape
writer_shape shape log view desk is fits =
    fits.sized (let one : is_writer view.role ≡ 1 = ap is_writer is in omega arith)

-- one writer has one desk
pub same_desk : (role : Role) (desk other : Desk) → role ≡ Writer desk → role ≡ Writer other → desk ≡ other
same_desk role desk other is also = sym (ap desk_of is) ∙ ap desk_of also

module
    _ {shape : Shape} {id : ℕ} {view : View} {desk : Desk} (is : view.role ≡ Writer desk) {operation : Operation}
    {tells : Telling} {notes : MarkTelling} {state : State (Unit {0}) View} (kept : Kept shape state)
    (at : get_elem? state.views id ≡ some view)
    (step : Stepped shape kept.counted (map role_of state.views) kept.log id view.role operation tells)
    (marked : Remarked role_of marks_of shape kept.counted state.views kept.log id operation view step.after
    step.entries notes)
    (no_news : marked.news ≡ []) (call : Call) (outcome : Desk × Step) (role_told : step.after ≡ Writer outcome.0)
    (entries_told : step.entries ≡ ending call outcome.1) (callers : AreCallers shape (ending call outcome.1))
    (names : NamesGo view marked.now) where
  callers_told : AreCallers shape step.entries
  callers_told = subst (AreCallers shape) (sym entries_told) callers

  acts_told_so : ActsGo view step.after step.entries marked.now
  acts_told_so reads = absurd (let none : is_reader step.after ≡ 0 = ap is_reader role_told in omega arith)

  sized : view.shape ≡ shape
  sized = writer_shape shape kept.log view desk is (kept.fits id view at)

  there_after : get_elem? (set (map role_of state.views) id step.after) id ≡ some (Writer outcome.0)
  there_after =
      here_after (map role_of state.views) id view.role step.after (at_map role_of state.views id view at)
      ∙ ap some role_told

  room_after : Room view.shape outcome.0
  room_after =
      rw sized
      (room_at shape _ (set (map role_of state.views) id step.after) (kept.log ++ step.entries) step.core id outcome.0
      there_after)

  numbers_after : AreNumbers view.shape (map_after view.shape (kept.log ++ step.entries)) outcome.0.numbers
  numbers_after = rw sized (step.core.knows id (Writer outcome.0) there_after).numbers

  abbrev pub next_view : View
  next_view = learned view step.after (kept.log ++ step.entries) step.entries marked.now marked.news

  -- what an outcome with no slot would say
  abbrev pub ShortSo : Type 0
  ShortSo = (counts : NoSlot) → outcome.1 ≡ Ended (writer.NoSlot counts)
      → Shortage shape desk call outcome counts marked.now.polls (kept.log ++ step.entries)

  pub leads_so : ShortSo → Advances (ending call outcome.1) view next_view → Leads call outcome view next_view
  leads_so short advances = record {
    role = role_told;
    advances = advances;
    room = room_after;
    numbers = numbers_after;
    short = λ counts without. lacks_so next_view (short counts without) sized role_told;
  }

  -- the writer's view after the step
  pub writes : (then : View → Type 0) → (Advances (ending call outcome.1) view next_view → then next_view)
      → Choice shape id view operation tells notes state kept step marked then
  writes then tell =
      learning kept at step marked (ap caller_number role_told ∙ sym (ap caller_number is))
      sized callers_told acts_told_so names then (ap (λ r. is_by (caller_number r) r) is) no_news
      (ending call outcome.1) entries_told tell

  -- to which the call leads, whatever the desk
  pub leads_on : ShortSo → (then : Desk → View → Type 0) → (Leads call outcome view next_view → then desk next_view)
      → Choice shape id view operation tells notes state kept step marked
      (λ next. (other : Desk) → view.role ≡ Writer other → then other next)
  leads_on short then tell =
      writes (λ next. (other : Desk) → view.role ≡ Writer other → then other next)
      (λ advances other also. subst (λ (d : Desk). then d next_view) (same_desk view.role desk other is also)
      (tell (leads_so short advances)))

pub looks_so : (shape : Shape) (slots id : ℕ) (me : Me (Unit {0}) View) (desk : Desk) (call : WriterCall)
    → me.0.role ≡ Writer desk → desk.place ≡ Idle → IsGivenCall (bound_of shape) call → key_of call < shape.keys
    → Allows (Kept shape) slots id me (key_of call) (λ word. word)
    (λ found after. (other : Desk) → me.0.role ≡ Writer other → Looked other call found me.0 after.0)
looks_so shape slots id me desk call is idle given near =
    let view = me.0 in
    let tells = Looks shape desk call in
    let notes = LooksMarks shape view.marks desk call in
    let operation = Load (key_of call) in
    let then : ℕ → View → Type 0
    = λ found next. (other : Desk) → view.role ≡ Writer other → Looked other call found view next in
    lifts shape id view operation tells notes slots me.1 then view.pasts
    (rw is (looks shape id desk call idle given near))
    (looks_marked role_of marks_of shape id view view.pasts desk call idle near is) (knows_pasts shape id view)
    (sees_plain shape id view operation tells notes then (key_inside shape (key_of call) near)
    (key_no_count shape (key_of call) near)
    (λ state kept at step. lends_on view step.after (λ slot. ap (holds slot) step.told.0 ∙ sym (ap (holds slot) is))))
    (λ state kept at step marked.
    let found : ℕ = get_or kept.counted (key_of call) 0 in
    let outcome = looked shape desk call found in
    let c = call_of call in
    let size = writer_shape shape kept.log view desk is (kept.fits id view at) in
    leads_on is kept at step marked marked.told.1 c outcome step.told.0 step.told.1
    (writer_entries shape c outcome.1 (subst (λ (k : ℕ). k < shape.keys) (sym (key_same call)) near)
    (given_brings (bound_of shape) call given))
    (names_go view marked.now (λ _. ap (λ (m : Marks). m.names) marked.told.0))
    (λ counts. look_short shape view.marks desk call found step.after (kept.log ++ step.entries) marked.now marked.news
    counts marked.told)
    (λ other. Looked other call found view) (λ leads.
    let next = learned view step.after (kept.log ++ step.entries) step.entries marked.now marked.news in
    record {
      leads = subst (λ (s : Shape). Leads c (looked s desk call found) view next) (sym size) leads;
      marks = rw marked.told.1 at (rw (sym size) at marked.told);
      heard = ap (λ r. heard_after r view.heard) is;
    }))

-- no later step of a call learns of readers
went_quiet : (shape : Shape) (marks : Marks) (known : List Past) (desk : Desk) (place : Place) (word : ℕ) (after : Role)
    (log : List Entry)
    (now : Marks) (news : List Past) → went_marks shape marks known desk place word after log now news → news ≡ []
went_quiet shape marks known desk (Searching call rows poll) word after log now news told = told.0
went_quiet shape marks known desk (Putting call rows slot departed index) word after log now news told =
    by_cases (λ b. PutsMarks b marks (key_of call) slot rows word after log now news → news ≡ [])
    (nat_le index (2 * length rows)) (λ _ puts. puts.1) (λ _ publishes. publishes.4) told
went_quiet shape marks known desk other word after log now news told = told.1

-- a list that is changed at one place
changed_at : (l : List ℕ) (place x at n : ℕ) → get_or (set l place x) at 0 ≡ n → (get_or l at 0 ≡ n) ⊎ (x ≡ n)
changed_at (y ∷ l) zero x zero n is = inr is
changed_at (y ∷ l) (suc place) x (suc at) n is = changed_at l place x at n is
changed_at l place x at n is = inl is

-- after a later step of a call a key names what it named before, or the slot into which the call put its set
went_names : (shape : Shape) (marks : Marks) (known : List Past) (desk : Desk) (place : Place) (word : ℕ) (after : Role)
    (log : List Entry) (now : Marks) (news : List Past) (heard : List ℕ)
    → went_marks shape marks known desk place word after log now news → (key slot : ℕ)
    → get_or now.names key 0 ≡ suc slot
    → (get_or marks.names key 0 ≡ suc slot) ⊎ (get_or (heard_at place heard) slot 0 ≡ 0)
went_names shape marks known desk (Leaving at) word after log now news heard told key slot is =
    ⊎_elim inl (λ (e : 0 ≡ suc slot). absurd (omega arith))
    (changed_at marks.names at 0 key (suc slot) (ap (λ (m : Marks). get_or m.names key 0) (sym told.0) ∙ is))
went_names shape marks known desk (Searching call rows poll) word after log now news heard told key slot is =
    inl
    (by_cases (λ b. PollTells b shape known desk call poll log marks now → get_or marks.names key 0 ≡ suc slot)
    (same_count word (retired_at desk poll).arrivals)
    (λ _ taken. ap (λ (m : Marks). get_or m.names key 0) (sym taken) ∙ is)
    (λ _ missed. ap (λ (m : Marks). get_or m.names key 0) (sym missed.0) ∙ is) told.1)
went_names shape marks known desk (Putting call rows mine departed index) word after log now news heard told key slot
    is =
    by_cases (λ b. PutsMarks b marks (key_of call) mine rows word after log now news
    → (get_or marks.names key 0 ≡ suc slot) ⊎ (get_or (set heard mine 0) slot 0 ≡ 0))
    (nat_le index (2 * length rows))
    (λ _ puts. inl (ap (λ (m : Marks). get_or m.names key 0) (sym puts.0) ∙ is))
    (λ _ publishes. ⊎_elim inl
    (λ (e : suc mine ≡ suc slot). inr (rw (let same : slot ≡ mine = omega arith in same) (zero_at heard mine)))
    (changed_at marks.names (key_of call) (suc mine) key (suc slot)
    (ap (λ (m : Marks). get_or m.names key 0) (sym publishes.3) ∙ is))) told
went_names shape marks known desk other word after log now news heard told key slot is =
    inl (ap (λ (m : Marks). get_or m.names key 0) (sym told.0) ∙ is)

-- what the call of a place ends with
ending_there : (place : Place) (step : Step) → if_not_busy place ≡ None
    → ending_at place step ≡ ending (call_at place) step
ending_there Idle step busy = absurd (no_some (Some refuse.NotBusy) refuse.NotBusy refl busy)
ending_there other step busy = refl

-- the notes that are new among the polls tell readers as they are
pub notes_so : (shape : Shape) (state : State (Unit {0}) View) (kept : Kept shape state) (polls now : List Past)
    → NotesPresent role_of marks_of state.views polls now → NotesTell kept.log polls now
notes_so shape state kept polls now present at note there = ⊎_elim inl
    (λ (p : IsPresent role_of marks_of state.views note). let fits = kept.fits p.0 p.1 p.3 in
    let acts = fits.acts (let one : is_reader p.1.role ≡ 1 = ap is_reader p.4 in omega arith) in
    let count : note.count ≡ p.1.marks.acts = ap (λ (n : Past). n.count) p.5 in
    let slot = ap (λ (n : Past). to_depart n.slot) p.5 ∙ sym (ap (λ r. to_depart (gripped (grip_of r))) p.4) in
    let mine = ap acts_told (fits.own note.reader (ap (is_by note.reader) p.4 ∙ eq-eqb note.reader note.reader refl)) in
    inr (omega arith)) (present at note there)

-- an operation on a word of the layout that is no count of departures; a load of a slot's departures
abbrev OnPlain : Shape → Operation → Type 0
OnPlain shape operation = (target_of operation < total_of (layout shape)) × IsNoCount shape (target_of operation)

abbrev Polls : Shape → ℕ → List ℕ → Operation → Type 0
Polls shape announcers heard operation =
    (slot : ℕ) × (announcers ≤ get_or heard slot 0) × (target_of operation ≡ departures shape slot)
    × ((word : ℕ) → becomes operation word ≡ word) × (slot < shape.slots)

-- what stands at the place of a call that goes on
module
    _ (shape : Shape) (words : List ℕ) (roles : List Role) (log : List Entry) (core : Core shape words roles log)
    (id : ℕ) (desk : Desk) (there : get_elem? roles id ≡ some (Writer desk)) where
  abbrev StandsAt : Place → Type 0
  StandsAt = AtPlace shape words (map_after shape log) (held roles) desk.fresh desk.retired

  near_call : (call : WriterCall) → key_of call < shape.keys → call_key (call_of call) < shape.keys
  near_call call near = rw (key_same call) near

  of_set : (call : WriterCall) (rows : List Row) (step : Step)
      → Wants shape words (map_after shape log) (held roles) call rows → AreCallers shape (ending (call_of call) step)
  of_set call rows step wants =
      writer_entries shape (call_of call) step (near_call call wants.near)
      (wants_brings shape words (map_after shape log) (held roles) call rows wants)

  swaps : (marks : Marks)
      → ((key : ℕ) → key < shape.keys → get_or marks.names key 0 ≡ name_number (get_or words key 0))
      → (key : ℕ) → key < shape.keys → SwapsAt shape key (get_or words key 0) log marks
  swaps marks names key near = record {
    state = shows_kind shape words (get_or words key 0) (state_of (map_after shape log) key) (core.shows key near);
    name = names key near;
  }

  on_key : (key : ℕ) → key < shape.keys → OnPlain shape (Load key)
  on_key key near = (key_inside shape key near, key_no_count shape key near)

  on_content : (slot index : ℕ) → slot < shape.slots → index < slot_room shape
      → OnPlain shape (Load (content shape slot index))
  on_content slot index near low = (content_inside shape slot index near low, content_no_count shape slot index low)

  -- a call that goes on ends with an entry of the writer's
  entries_there : (place : Place) → if_not_busy place ≡ None → StandsAt place → (found : ℕ)
      → AreCallers shape (ending (call_at place) (went shape desk place found).1)
  entries_there Idle idle stands found = absurd (no_some (Some refuse.NotBusy) refuse.NotBusy refl idle)
  entries_there (Reading call slot got) busy reads found =
      reads_no_fill shape desk call slot (got ++ found ∷ []) (near_call call reads.near)
  entries_there (Leaving key) busy stands found = ((stands.1.near, inl (refl, tt)), tt)
  entries_there (Withdrawing key) busy stands found = ((stands.near, inl (refl, tt)), tt)
  entries_there (Searching call rows poll) busy stands found =
      of_set call rows (went shape desk (Searching call rows poll) found).1 stands.0
  entries_there (Putting call rows slot departed index) busy stands found =
      of_set call rows (went shape desk (Putting call rows slot departed index) found).1 stands.wants

  -- the words of the key's set are read on, and a swap finds the key's word
  finds_so : (marks : Marks)
      → ((key : ℕ) → key < shape.keys → get_or marks.names key 0 ≡ name_number (get_or words key 0))
      → (place : Place) → StandsAt place
      → Finds shape place (get_or words (target_of (going shape desk place)) 0) log marks
  finds_so marks names (Reading call slot got) reads = (
    reads.rows,
    read_set shape words roles log core (key_of call) slot got reads,
    read_next shape words roles log
        core (key_of call) slot got reads
        ∙ ap (λ (n : ℕ). take n (encode reads.rows)) (let one : suc (length got) ≡ length got + 1 = omega arith in one),
    reads.more,
    reads.number,
    reads.full,
  )
  finds_so marks names (Leaving key) stands = swaps marks names key stands.1.near
  finds_so marks names (Withdrawing key) stands = swaps marks names key stands.near
  finds_so marks names (Putting call rows slot departed index) stands =
      by_cases (λ b. SwapsOrPuts b shape (key_of call) (get_or words
      (target_of (cond {A = Operation} b (Store (content shape slot index) (get_or (encode rows) index 0))
      (Swap (key_of call) (naming slot departed)))) 0) log marks) (nat_le index (2 * length rows))
      (λ _. tt) (λ _. swaps marks names (key_of call) stands.wants.near)
  finds_so marks names other stands = tt

  -- a later step of a call is one of these
  going_on : (announcers : ℕ) (heard : List ℕ) (place : Place) → if_not_busy place ≡ None
      → PollsHeard announcers desk heard place → StandsAt place
      → OnPlain shape (going shape desk place) ⊎ Polls shape announcers heard (going shape desk place)
  going_on announcers heard Idle idle _ stands = absurd (no_some (Some refuse.NotBusy) refuse.NotBusy refl idle)
  going_on announcers heard (Reading call slot got) busy _ reads =
      let set = read_set shape words roles log core (key_of call) slot got reads in
      let few = reads.more in
      inl
      (on_content slot (length got)
      (named_inside shape words roles log core (key_of call) slot reads.near reads.names)
      (omega (arith, set.1)))
  going_on announcers heard (Leaving key) busy _ stands = inl (on_key key stands.1.near)
  going_on announcers heard (Withdrawing key) busy _ stands = inl (on_key key stands.near)
  going_on announcers heard (Searching call rows poll) busy all stands =
      inr (
        (retired_at desk poll).slot,
        all,
        refl,
        λ word. refl,
        ((core.knows id (Writer desk) there).retired poll (retired_at desk poll)
            (at_get desk.retired poll stands.1)).0,
      )
  going_on announcers heard (Putting call rows slot departed index) busy _ stands =
      on_test (λ (o : Operation). OnPlain shape o ⊎ Polls shape announcers heard o) (nat_le index (2 * length rows))
      (λ low.
      let few : index ≤ 2 * length rows = leb-true index (2 * length rows) low in
      let short = stands.wants.row_set.1 in
      inl (on_content slot index stands.inside (omega arith)))
      (λ _. inl (on_key (key_of call) stands.wants.near))

pub goes_so : (shape : Shape) (slots id : ℕ) (me : Me (Unit {0}) View) (desk : Desk) → me.0.role ≡ Writer desk
    → if_not_busy desk.place ≡ None → PollsHeard me.0.announcers desk me.0.heard desk.place
    → PollsNext desk.place me.0.marks
    → let operation = going shape desk desk.place in
    Allows (Kept shape) slots id me (target_of operation) (becomes operation)
    (λ found after. (other : Desk) → me.0.role ≡ Writer other → Went other found me.0 after.0)
goes_so shape slots id me desk is busy heard in_order =
    let view = me.0 in
    let tells = Goes shape desk in
    let notes = GoesMarks shape view.marks view.pasts desk in
    let operation = going shape desk desk.place in
    let c = call_at desk.place in
    let then : ℕ → View → Type 0
    = λ found next. (other : Desk) → view.role ≡ Writer other → Went other found view next in
    lifts shape id view operation tells notes slots me.1 then view.pasts
    (rw is (goes shape id desk busy))
    (goes_marked role_of marks_of shape id view view.pasts desk is busy in_order) (knows_pasts shape id view)
    (λ state kept at step.
    let there = at_map role_of state.views id view at ∙ ap some is in
    let lent_stays : KeepsLent shape id view operation tells
    = λ _ _ _ made. lends_on view made.after (λ slot. ap (holds slot) made.told.0 ∙ sym (ap (holds slot) is)) in
    ⊎_elim
    (λ (plain : OnPlain shape operation). sees_plain shape id view operation tells notes then plain.0 plain.1 lent_stays
    state kept at step)
    (λ (polls : Polls shape view.announcers view.heard operation). sees_alone shape id view operation tells notes then
    polls.0 (ap is_writer is) polls.1 polls.2 polls.3 (λ _ _ _. polls.4) lent_stays state kept at step)
    (going_on shape kept.counted (map role_of state.views) kept.log kept.core id desk there view.announcers view.heard
    desk.place busy heard (kept.core.knows id (Writer desk) there).place))
    (λ state kept at step marked.
    let found : ℕ = get_or kept.counted (target_of operation) 0 in
    let outcome = went shape desk desk.place found in
    let there : get_elem? (map role_of state.views) id ≡ some (Writer desk)
    = at_map role_of state.views id view at ∙ ap some is in
    let stands = (kept.core.knows id (Writer desk) there).place in
    let own = rw is at (kept.marked.each id view at) in
    let size = writer_shape shape kept.log view desk is (kept.fits id view at) in
    let entries : step.entries ≡ ending c outcome.1 = step.told.1 ∙ ending_there desk.place outcome.1 busy in
    let no_news
    = went_quiet shape view.marks view.pasts desk desk.place found step.after (kept.log ++ step.entries) marked.now
    marked.news marked.told in
    leads_on is kept at step marked no_news c outcome step.told.0 entries
    (entries_there shape kept.counted (map role_of state.views) kept.log kept.core id desk there desk.place busy stands
    found)
    (λ _ key slot after. rw is
    (went_names shape view.marks view.pasts desk desk.place found step.after (kept.log ++ step.entries) marked.now
    marked.news view.heard marked.told key slot after))
    (λ counts. go_short shape kept.counted (map role_of state.views) kept.log kept.core id desk there view.marks
    view.pasts step.after (kept.log ++ step.entries) marked.now marked.news state.views counts desk.place stands
    own.sweep marked.told)
    (λ other. Went other found view) (λ leads.
    let next = learned view step.after (kept.log ++ step.entries) step.entries marked.now marked.news in
    record {
      leads = subst (λ (s : Shape). Leads c (went s desk desk.place found) view next) (sym size) leads;
      log = kept.log;
      seen =
          ap (λ (l : List Entry). kept.log ++ l)
          (entries ∙ ap (λ (s : Shape). ending c (went s desk desk.place found).1) (sym size));
      finds =
          rw size (finds_so shape kept.counted (map role_of state.views) kept.log kept.core id desk there view.marks
          own.names desk.place stands);
      notes = notes_so shape state kept view.marks.polls marked.now.polls marked.noted;
      marks = rw (size, sym no_news) marked.told;
      heard = ap (λ r. heard_after r view.heard) is;
    }))

-- what a step told, told otherwise
pub tells_also : (holds : State (Unit {0}) View → Type 0) (slots id : ℕ) (me : Me (Unit {0}) View) (place : ℕ)
    (f : ℕ → ℕ)
    (then also : ℕ → Me (Unit {0}) View → Type 0)
    → ((found : ℕ) (after : Me (Unit {0}) View) → then found after → also found after)
    → Allows holds slots id me place f then → Allows holds slots id me place f also
tells_also holds slots id me place f then also so allows state kept wide at small =
    let step = allows state kept wide at small in
    (step.0, step.1, step.2, step.3, so (get_or state.words place 0) (step.0, carried_after me.1 step.1) step.4)

-- a put leads to the next one, whatever word it found
put_leads : (desk : Desk) (call : WriterCall) (rows : List Row) (slot departed index found : ℕ) (old new : View)
    → desk.place ≡ Putting call rows slot departed index → index ≤ 2 * length rows → Went desk found old new
    → Put desk old new
put_leads desk call rows slot departed index found old new is low went_so =
    let after : Desk × Step = (moved_to desk (Putting call rows slot departed (index + 1)), Going) in
    let outcome : went old.shape desk desk.place found ≡ after = rw (is, le-leb index (2 * length rows) low) in
    let next : next_put desk ≡ after.0 = ap (λ (p : Place). moved_to desk (put_place p)) is in
    let leads = went_so.leads in record {
      role = leads.role ∙ ap (λ (o : Desk × Step). Writer o.0) outcome ∙ sym (ap Writer next);
      advances = rw (ap (λ (o : Desk × Step). o.1) outcome) at leads.advances;
      room = subst (Room old.shape) (ap (λ (o : Desk × Step). o.0) outcome ∙ sym next) leads.room;
      numbers = rw outcome at leads.numbers;
      marks = (rw (is, le-leb index (2 * length rows) low) at went_so.marks).0;
      heard = went_so.heard;
    }

pub puts_so : (shape : Shape) (slots id : ℕ) (me : Me (Unit {0}) View) (desk : Desk) (call : WriterCall)
    (rows : List Row) (slot departed index : ℕ)
    → me.0.role ≡ Writer desk → desk.place ≡ Putting call rows slot departed index → index ≤ 2 * length rows
    → let word = get_or (encode rows) index 0 in
    Allows (Kept shape) slots id me (content shape slot index) (λ _. word)
    (λ _ after. (other : Desk) → me.0.role ≡ Writer other → Put other me.0 after.0)
puts_so shape slots id me desk call rows slot departed index is place_is low =
    let at = moved_to desk (Putting call rows slot departed index) in
    let word : ℕ = get_or (encode rows) index 0 in
    let at_is : me.0.role ≡ Writer at = is ∙ (λ j. Writer (record desk { place = place_is j })) in
    let told : ℕ → Me (Unit {0}) View → Type 0
    = λ found after. (other : Desk) → me.0.role ≡ Writer other → Went other found me.0 after.0 in
    let allows
    = rw (le-leb index (2 * length rows) low) at (goes_so shape slots id me at at_is refl tt tt) in
    tells_also (Kept shape) slots id me (content shape slot index) (λ _. word) told
    (λ _ after. (other : Desk) → me.0.role ≡ Writer other → Put other me.0 after.0)
    (λ found after so other also. put_leads other call rows slot departed index found me.0 after.0
    (ap (λ (d : Desk). d.place) (same_desk me.0.role other at also at_is)) low (so other also))
    allows
