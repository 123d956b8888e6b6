-- The reader's steps on the table: request, arrive, read, find again, depart.
use Rattle.std.proofs.Common.{get_or-set_other, inr, ◌≡◌, ℕ, suc, ◌+◌, ◌-◌, ◌%◌, ◌^◌, ◌<◌, ◌≤◌, List, [], ◌∷◌, ◌++◌}
use Rattle.std.proofs.Common.{Bool, true, false, cond, length, map, get_or, set, ⊎_elim, refl, sym, ap, ◌∙◌, subst}
use Rattle.std.proofs.Common.{arith, eq-eqb}
use Rattle.std.specs.Prelude.{bit_or}
use mathlib.Core.Option.{none, some}
use Rattle.atomic_table.specs.Table.{Allows, Me, State, step}
use Rattle.nr_model.specs.Histories.{Entry}
use Rattle.nr_model.specs.Maps.{state_of}
use Rattle.nr_model.specs.Rows.{IsRowSet}
use Rattle.nr_model.specs.declared.rows.Row.{Row}
use Rattle.nr_model.specs.declared.calls.Call.TheVariants as model
use Rattle.nr_model.specs.declared.calls.Reply.TheVariants as reply
use Rattle.nr_words.specs.KeyWords.{is_filled}
use Rattle.nr_words.specs.SetWords.{encode}
use Rattle.nr_words.specs.declared.key_words.TheConstants.{ARRIVE}
use Rattle.nr_core.proofs.ReaderSteps.{arrives, asks, departs, finds_again, reads}
use Rattle.nr_core.proofs.Choices.{by_cases, on_test}
use Rattle.nr_core.proofs.KeyWords.{names_none, names_one}
use Rattle.nr_core.specs.Roles.{holds, is_by, is_reader, is_writer}
use Rattle.nr_core.specs.declared.operation.Operation.{Operation}
use Rattle.nr_core.specs.declared.operation.Operation.TheVariants.{Add, Load, Or}
use Rattle.nr_core.specs.Slots.{content, departures, name_number, bound_of, names_slot, slot_room}
use Rattle.nr_core.specs.Steps.{Arrives, Asks, Departs, FindsAgain, ReadsHeld, Stepped, Telling}
use Rattle.nr_core.specs.Story.{entry, map_after}
use Rattle.nr_core.specs.declared.roles.Grip.{Grip}
use Rattle.nr_core.specs.declared.roles.Grip.TheVariants.{Nothing, On}
use Rattle.nr_core.specs.declared.roles.Role.{Role}
use Rattle.nr_core.specs.declared.roles.Role.TheVariants.{Reader}
use Rattle.nr_core.specs.declared.shape.Shape.{Shape}
use Rattle.nr_core.proofs.LearnMarks.{finds_again_marked}
use Rattle.nr_core.proofs.ReaderMarks.{arrives_marked, asks_marked, departs_marked, reads_marked}
use Rattle.nr_core.specs.MarkSteps.{ArrivesMarks, DepartsMarks, FindsAgainMarks, KeepsMarks, found_again}
use Rattle.nr_board.proofs.Learning.{shows_kind}
use Rattle.nr_board.proofs.Lift.{Choice, content_no_count, key_inside, key_no_count, knows_pasts, lends_on, lent_small}
use Rattle.nr_board.proofs.Lift.{lifts, sees_plain, silent_lends}
use Rattle.nr_board.proofs.Counting.{counted_departure}
use Rattle.nr_board.specs.Announcing.{lent, says_at}
use Rattle.nr_core.proofs.WordPlaces.{content_inside, departures_inside}
use Rattle.nr_board.proofs.Moves.{ActsGo, learned, learning, names_go, reads_only, waited, waiting}
use Rattle.nr_board.specs.Entries.{AreCallers, acts_told, to_depart}
use Rattle.nr_core.specs.Marked.{MarkTelling, Remarked}
use Rattle.nr_core.specs.Marks.{Marks, gripped, with_look}
use lib.ListN.{get_elem?}
use lib.Seq.{set-get_or}
use Rattle.nr_board.specs.Kinds.{kind_of, kind_shown}
use Rattle.nr_board.specs.Plays.{Advances, Arrived, Asked, Departed, FoundAgain, IsIdle, Waits, holding, Read}
use Rattle.nr_board.specs.Plays.{has_arrived, has_asked, has_departed, has_found_again, has_read_word}
use Rattle.nr_board.specs.Rule.{Fits, Kept, marks_of, role_of}
use Rattle.nr_board.specs.Views.{View, grip_of, is_sized, caller_number, rows_held, slot_held}

-- a reader's own entries are told by its number
pub reader_is : {role : Role} {grip : Grip} → role ≡ Reader (caller_number role) grip
    → is_by (caller_number role) role ≡ true
reader_is {role = role} is = ap (is_by (caller_number role)) is ∙ eq-eqb (caller_number role) (caller_number role) refl

-- a reader has its map's shape
reader_shape : (shape : Shape) (log : List Entry) (view : View) (grip : Grip)
    → view.role ≡ Reader (caller_number view.role) grip → Fits shape log view → view.shape ≡ shape
reader_shape shape log view grip is fits =
    fits.sized (let one : is_reader view.role ≡ 1 = ap is_reader is in omega arith)

-- a reader's number is one of the map's
pub reader_within : (shape : Shape) (id : ℕ) (view : View) (grip : Grip) (state : State (Unit {0}) View)
    (kept : Kept shape state)
    → get_elem? state.views id ≡ some view → view.role ≡ Reader (caller_number view.role) grip
    → caller_number view.role ≤ shape.readers
reader_within shape id view grip state kept at is = (rw is at (kept.marked.each id view at)).1

-- the reader's count, by its hold before and after
pub acts_so : (view : View) (marks : Marks) {after : Role} {entries told : List Entry} {number other : ℕ}
    {before now : Grip}
    → view.role ≡ Reader number before → after ≡ Reader other now → entries ≡ told
    → marks.acts + to_depart (gripped now) ≡ view.marks.acts + to_depart (gripped before) + acts_told told
    → ActsGo view after entries marks
acts_so view marks held holds is count reads =
    let b = ap (λ r. to_depart (gripped (grip_of r))) held in
    let n = ap (λ r. to_depart (gripped (grip_of r))) holds in
    let t = ap acts_told is in
    omega arith

-- a step of a reader, by what it holds before and after, learns the history so far and adds entries, or learns nothing
module
    _ {shape : Shape} {id : ℕ} {view : View} {operation : Operation} {tells : Telling} {notes : MarkTelling}
    {state : State (Unit {0}) View} (kept : Kept shape state) (at : get_elem? state.views id ≡ some view)
    (step : Stepped shape kept.counted (map role_of state.views) kept.log id view.role operation tells)
    (marked : Remarked role_of marks_of shape kept.counted state.views kept.log id operation view step.after
    step.entries notes) {grip now : Grip} {told : List Entry}
    (is : view.role ≡ Reader (caller_number view.role) grip)
    (after : step.after ≡ Reader (caller_number view.role) now) (no_news : marked.news ≡ [])
    (told_is : step.entries ≡ told) (count : marked.now.acts + to_depart (gripped now)
    ≡ view.marks.acts + to_depart (gripped grip) + acts_told told) (then : View → Type 0) where
  sized : view.shape ≡ shape
  sized = reader_shape shape kept.log view grip is (kept.fits id view at)

  pub reads_on : (caller_number view.role ≤ shape.readers → AreCallers shape told)
      → (let next = learned view step.after (kept.log ++ step.entries) step.entries marked.now marked.news in
      Advances told view next → then next)
      → Choice shape id view operation tells notes state kept step marked then
  reads_on callers tell =
      learning kept at step marked (ap caller_number after) sized
      (rw told_is (callers (reader_within shape id view grip state kept at is)))
      (acts_so view marked.now is after told_is count)
      (names_go view marked.now (reads_only view marked.now (ap is_writer is))) then (reader_is is) no_news told told_is
      tell

  pub reads_still : told ≡ []
      → (let next = waited view step.after marked.now marked.news in Waits view next → then next)
      → Choice shape id view operation tells notes state kept step marked then
  reads_still quiet tell =
      waiting kept at step marked (ap caller_number after) sized (rw (told_is ∙ quiet) tt)
      (acts_so view marked.now is after told_is count) (reads_only view marked.now (ap is_writer is)) then no_news
      (told_is ∙ quiet) tell

pub asks_so : (shape : Shape) (slots id : ℕ) (me : Me (Unit {0}) View) (key : ℕ) → key < shape.keys → IsIdle me.0.role
    → Allows (Kept shape) slots id me key (λ word. bit_or word 1) (has_asked (step slots key 1 0 none) me)
asks_so shape slots id me key near idle =
    let view = me.0 in
    let reader = caller_number view.role in
    let tells = Asks reader key in
    lifts shape id view (Or key 1) tells (KeepsMarks view.marks) slots me.1 (λ found next. Asked key found view next)
    view.pasts (rw idle (asks shape id reader key near))
    (asks_marked role_of marks_of shape id view view.pasts reader key near idle) (knows_pasts shape id view)
    (sees_plain shape id view (Or key 1) tells (KeepsMarks view.marks) (λ found next. Asked key found view next)
    (key_inside shape key near) (key_no_count shape key near)
    (λ state kept at step. lends_on view step.after (λ slot. ap (holds slot) (step.told.0 ∙ sym idle))))
    (λ state kept at step marked.
    reads_on kept at step marked idle step.told.0 marked.told.1 step.told.1
    (omega (arith, ap (λ (m : Marks). m.acts) marked.told.0))
    (λ next. Asked key (get_or kept.counted key 0) view next) (λ within. ((near, inr (within, refl)), tt))
    (λ advances. record { role = step.told.0 ∙ sym idle; gains = advances; marks = marked.told.0; says = refl }))

-- what is true is not false
pub differ : (b : Bool) (P : Type 0) → b ≡ true → b ≡ false → P
differ b P is not = let clash : true ≡ false = sym is ∙ not in absurd (cc)

pub arrives_so : (shape : Shape) (slots id : ℕ) (me : Me (Unit {0}) View) (key : ℕ) → key < shape.keys
    → IsIdle me.0.role → me.0.says ≡ 0
    → Allows (Kept shape) slots id me key (λ word. (word + ARRIVE) % 2 ^ 64)
    (has_arrived (step slots key ARRIVE 0 none) me)
arrives_so shape slots id me key near idle silent =
    let view = me.0 in
    let reader = caller_number view.role in
    let tells = Arrives shape reader key in
    lifts shape id view (Add key ARRIVE) tells (ArrivesMarks view.marks key) slots me.1
    (λ found next. Arrived key found view next) view.pasts
    (rw idle (arrives shape id reader key near))
    (arrives_marked role_of marks_of shape id view view.pasts reader key near idle) (knows_pasts shape id view)
    (sees_plain shape id view (Add key ARRIVE) tells (ArrivesMarks view.marks key)
    (λ found next. Arrived key found view next) (key_inside shape key near) (key_no_count shape key near)
    (λ state kept at step. silent_lends view step.after silent))
    (λ state kept at step marked.
    let found : ℕ = get_or kept.counted key 0 in
    let sized = reader_shape shape kept.log view Nothing idle (kept.fits id view at) in
    let acts_are = ap (λ (m : Marks). m.acts) marked.told.0 in
    ⊎_elim
    (λ (t : (slot : ℕ) × (rows : List Row) × (name_number found ≡ suc slot) × (slot < shape.slots)
    × IsRowSet (bound_of shape) rows
    × (step.after ≡ Reader reader (On slot rows false))
    × (step.entries ≡ entry reader (model.Find key) (reply.Rows rows) ∷ [])).
    let names = names_one found t.0 t.2 in
    let same : caller_number step.after ≡ reader = ap caller_number t.5 in
    let rows_so : rows_held step.after ≡ t.1 = ap rows_held t.5 in
    let slot_so : slot_held step.after ≡ t.0 = ap slot_held t.5 in
    reads_on kept at step marked idle t.5 marked.told.1
    (t.6 ∙ ap (λ (rows : List Row). entry reader (model.Find key) (reply.Rows rows) ∷ []) (sym rows_so)) (omega arith)
    (λ next. Arrived key found view next) (λ within. ((near, inr (within, refl)), tt)) (λ advances. record {
      number = same;
      held = λ _. (
        rw (sized, t.5) (record { is = refl; inside = t.3; row_set = t.4 }),
        slot_so ∙ sym names.1,
        advances,
      );
      hole = λ empty. differ (is_filled found) _ names.0 empty;
      marks = marked.told.0;
      says = refl;
    }))
    (λ (t : (name_number found ≡ 0) × (step.after ≡ Reader reader Nothing)
    × (step.entries ≡ entry reader (model.Find key) reply.Hole ∷ [])).
    reads_on kept at step marked idle t.1 marked.told.1 t.2 (omega arith) (λ next. Arrived key found view next)
    (λ within. ((near, inr (within, refl)), tt)) (λ advances. record {
      number = ap caller_number t.1;
      held = λ full. differ (is_filled found) _ full (names_none found t.0);
      hole = λ _. (t.1 ∙ sym idle, advances);
      marks = marked.told.0;
      says = refl;
    }))
    step.told)

pub reads_so : (shape : Shape) (slots id : ℕ) (me : Me (Unit {0}) View) (index : ℕ)
    → me.0.role ≡ holding me.0.role (is_sized (grip_of me.0.role)) → slot_held me.0.role < shape.slots
    → index < slot_room shape → index < length (encode (rows_held me.0.role)) → me.0.shape ≡ shape
    → let place = content shape (slot_held me.0.role) index in
    Allows (Kept shape) slots id me place (λ word. word) (has_read_word (step slots place 0 0 none) me)
reads_so shape slots id me index is near short low sized =
    let view = me.0 in
    let reader = caller_number view.role in
    let slot : ℕ = slot_held view.role in
    let rows = rows_held view.role in
    let sized_so = is_sized (grip_of view.role) in
    let place : ℕ = content shape slot index in let tells = ReadsHeld reader slot rows sized_so index in
    lifts shape id view (Load place) tells (KeepsMarks view.marks) slots me.1 (λ found next. Read place found view next)
    view.pasts
    (rw is (reads shape id reader slot rows sized_so index low))
    (reads_marked role_of marks_of shape id view view.pasts reader slot index rows sized_so is)
    (knows_pasts shape id view)
    (sees_plain shape id view (Load place) tells (KeepsMarks view.marks) (λ found next. Read place found view next)
    (content_inside shape slot index near short) (content_no_count shape slot index short)
    (λ state kept at step. lends_on view step.after (λ s. ap (holds s) step.told.1 ∙ sym (ap (holds s) is))))
    (λ state kept at step marked.
    reads_still kept at step marked is step.told.1 marked.told.1 step.told.2
    (omega (arith, ap (λ (m : Marks). m.acts) marked.told.0))
    (λ next. Read place (get_or kept.counted place 0) view next) refl (λ waits. record {
      value =
          let begins : content view.shape slot 0 ≡ content shape slot 0 = ap (λ (s : Shape). content s slot 0) sized in
          let back : index ≡ place - content view.shape slot 0 = omega arith in
          step.told.0 ∙ ap (λ (i : ℕ). get_or (encode rows) i 0) back;
      hold = step.told.1 ∙ ap (holding view.role) (sym (ap (λ r. is_sized (grip_of r)) step.told.1));
      waits = waits;
      marks = marked.told.0;
      says = refl;
    }))

pub finds_again_so : (shape : Shape) (slots id : ℕ) (me : Me (Unit {0}) View) (key : ℕ) → key < shape.keys
    → me.0.role ≡ holding me.0.role (is_sized (grip_of me.0.role)) → me.0.shape ≡ shape
    → Allows (Kept shape) slots id me key (λ word. word) (has_found_again (step slots key 0 0 none) me)
finds_again_so shape slots id me key near is sized =
    let view = me.0 in
    let reader = caller_number view.role in
    let slot : ℕ = slot_held view.role in
    let rows = rows_held view.role in
    let sized_so = is_sized (grip_of view.role) in
    let tells = FindsAgain shape reader slot rows sized_so key in
    let notes = FindsAgainMarks view.marks slot key in
    let e = entry reader (model.Find key) (reply.Rows rows) in
    lifts shape id view (Load key) tells notes slots me.1 (λ found next. FoundAgain key found view next) view.pasts
    (rw is (finds_again shape id reader slot rows sized_so key near))
    (finds_again_marked role_of marks_of shape id view view.pasts reader slot key rows sized_so near is)
    (knows_pasts shape id view)
    (sees_plain shape id view (Load key) tells notes (λ found next. FoundAgain key found view next)
    (key_inside shape key near) (key_no_count shape key near)
    (λ state kept at step. lends_on view step.after (λ s. ap (holds s) step.told.0 ∙ sym (ap (holds s) is))))
    (λ state kept at step marked. let found : ℕ = get_or kept.counted key 0 in let names = names_slot slot found in
    let role : step.after ≡ view.role = step.told.0 ∙ sym is in
    let inside : (other : ℕ) → name_number found ≡ suc other → other < view.shape.slots
    = λ other so. subst (λ (s : Shape). other < s.slots) (sym sized) (step.told.2 other so) in
    let log : List Entry = kept.log ++ step.entries in
    let kind = sym (ap (λ (l : List ℕ). kind_shown (get_or l key 0)) (set-get_or kept.counted key 0))
    ∙ shows_kind shape (set kept.counted key found) (get_or (set kept.counted key found) key 0)
    (state_of (map_after shape log) key) (step.core.shows key near)
    ∙ ap (λ (s : Shape). kind_of (state_of (map_after s log) key)) (sym sized) in
    reads_on kept at step marked is step.told.0 marked.told.1 step.told.1
    (rw marked.told.0
    (by_cases
    (λ b. (found_again b (with_look view.marks key (name_number found))).acts + 1
    ≡ view.marks.acts + 1 + acts_told (cond {A = List Entry} b (e ∷ []) []))
    names (λ _. omega arith) (λ _. omega arith)))
    (λ next. FoundAgain key found view next)
    (λ within. on_test (AreCallers shape) names (λ _. ((near, inr (within, refl)), tt)) (λ _. tt))
    (λ advances. record {
      role = role;
      same = λ yes. rw yes at advances;
      other = λ no. rw no at advances;
      inside = inside;
      marks = marked.told.0;
      put = marked.told.2;
      kind = kind;
      says = refl;
    }))

pub departs_so : (shape : Shape) (slots id : ℕ) (me : Me (Unit {0}) View)
    → me.0.role ≡ holding me.0.role (is_sized (grip_of me.0.role)) → slot_held me.0.role < shape.slots
    → me.0.shape ≡ shape → me.0.says ≡ 0
    → let place = departures shape (slot_held me.0.role) in
    Allows (Kept shape) slots id me place (λ word. (word + 1) % 2 ^ 64)
    (has_departed (step slots place 1 0 none) me)
departs_so shape slots id me is near sized silent =
    let view = me.0 in
    let reader = caller_number view.role in
    let slot : ℕ = slot_held view.role in
    let rows = rows_held view.role in
    let sized_so = is_sized (grip_of view.role) in
    let place : ℕ = departures shape slot in let tells = Departs reader in
    lifts shape id view (Add place 1) tells (DepartsMarks view.marks) slots me.1 (λ found next. Departed view next)
    view.pasts
    (rw is (departs shape id reader slot rows sized_so))
    (departs_marked role_of marks_of shape id view view.pasts reader slot rows sized_so is) (knows_pasts shape id view)
    (λ state kept at step. let wide = kept.core.wide in let few = lent_small shape state kept slot in (
      record {
        counts =
            counted_departure shape (lent state.views) state.words kept.counted slot near (omega arith)
            (omega (arith, wide)) kept.counts_words;
        behind = λ own _. get_or-set_other state.words place (says_at shape own)
            ((get_or state.words place 0 + 1) % 2 ^ 64) 0
            (λ e. let inside = departures_inside shape slot near in omega arith);
      },
      silent_lends view step.after silent,
      λ next told. told,
    ))
    (λ state kept at step marked.
    reads_still kept at step marked is step.told.0 marked.told.1 step.told.1
    (omega (arith, ap (λ (m : Marks). m.acts) marked.told.0)) (λ next. Departed view next) refl
    (λ waits. record { role = step.told.0; waits = waits; marks = marked.told.0; says = refl }))
