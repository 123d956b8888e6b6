-- A reader's steps by its own word: it looks a key up, announces a slot, confirms it, and ends the announcement.
use Rattle.std.proofs.Common.{◌≡◌, ◌≢◌, ℕ, suc, ◌+◌, ◌-◌, ◌%◌, ◌^◌, ◌<◌, ◌⊎◌, ⊎_elim, inr, List, [], ◌∷◌, ◌++◌}
use Rattle.std.proofs.Common.{Bool, true, cond, length-set, map, get_or, get_or-set_same, set, refl, sym, ap, ◌∙◌}
use Rattle.std.proofs.Common.{subst, arith, lt-ltb}
use Rattle.std.proofs.lemmas.Bool.{eqb-true}
use mathlib.Core.Option.{none, some}
use lib.ListN.{get_elem?}
use lib.Seq.{set-get_or}
use Rattle.atomic_table.proofs.Lists.{at_map}
use Rattle.atomic_table.specs.Table.{Act, Allows, Me, State, Valid, keeps, step, stepped}
use Rattle.nr_model.specs.Histories.{Entry}
use Rattle.nr_model.specs.declared.calls.Call.TheVariants as model
use Rattle.nr_model.specs.declared.calls.Reply.TheVariants as reply
use Rattle.nr_model.specs.declared.rows.Row.{Row}
use Rattle.nr_words.specs.KeyWords.{is_filled}
use Rattle.nr_core.proofs.Choices.{by_cases, on_test}
use Rattle.nr_core.proofs.ReaderSteps.{departs, holds_named, looks_up}
use Rattle.nr_core.proofs.Learn.{learns}
use Rattle.nr_core.proofs.Sums.{only-is, only-other, only-same, total-set}
use Rattle.nr_core.specs.Roles.{holds, is_by, is_reader, is_writer}
use Rattle.nr_core.specs.Steps.{CanStep, CanStepWhere, Departs, HoldsNamed, LoadsWord, LooksUp, Stepped, Telling}
use Rattle.nr_core.specs.Slots.{departures, name_number, names_slot}
use Rattle.nr_core.specs.Story.{entry}
use Rattle.nr_core.specs.Sums.{only}
use Rattle.nr_core.specs.declared.operation.Operation.{Operation}
use Rattle.nr_core.specs.declared.operation.Operation.TheVariants.{Add, Load}
use Rattle.nr_core.specs.declared.roles.Grip.TheVariants.{Nothing}
use Rattle.nr_core.specs.declared.roles.Role.{Role}
use Rattle.nr_core.specs.declared.roles.Role.TheVariants.{Note, Reader, Writer}
use Rattle.nr_core.specs.declared.shape.Shape.{Shape}
use Rattle.nr_core.proofs.ReaderMarks.{holds_named_marked, looks_up_marked, departs_marked}
use Rattle.nr_core.proofs.LearnMarks.{learns_reader}
use Rattle.nr_core.proofs.ListPlaces.{no_places}
use Rattle.nr_core.specs.Marked.{MarkTelling, Remarked, Since}
use Rattle.nr_core.specs.MarkSteps.{DepartsMarks, HoldsNamedMarks, LooksUpMarks, ReaderLearns}
use Rattle.nr_core.specs.Marks.{Marks, acted, with_look}
use Rattle.nr_core.specs.Puts.{put_number}
use Rattle.nr_board.proofs.Counting.{counted_same}
use Rattle.nr_board.proofs.Lift.{Follows, Makes, allowed, apart, key_inside, key_no_count, keeps_core, knows_pasts}
use Rattle.nr_board.proofs.Lift.{lends_on, lent_small, makes, sees_plain, words_after}
use Rattle.nr_board.proofs.Moves.{ActsGo, learned_follows, learned_gains, learned_next}
use Rattle.nr_board.proofs.Moves.{waited_follows, waited_next, waited_rests}
use Rattle.nr_board.proofs.ReaderSteps.{acts_so, differ, reader_is, reader_within, reads_on}
use Rattle.nr_board.proofs.Saying.{announces_own, counted_behind, counted_lent, is_one, says_apart}
use Rattle.nr_board.proofs.Heard.{AllHear, hears_after, lends_none, no_reader}
use Rattle.nr_board.specs.Announcing.{Counted, lends, lent, says_at}
use Rattle.nr_board.specs.Entries.{AreCallers, acts_told}
use Rattle.nr_board.specs.Plays.{Holds, IsIdle}
use Rattle.nr_board.specs.Rule.{Kept, marks_of, role_of}
use Rattle.nr_board.specs.Views.{View, grip_of, is_sized, caller_number, rows_held, slot_held}
use Rattle.nr_board.specs.WordPlays.{Confirmed, HasWord, HoldsByWord, HoldsSaid, LookedUp, Said, has_confirmed}
use Rattle.nr_board.specs.WordPlays.{has_looked_up, has_said, let_go, saying, slot_said}

-- THE LOOK

look_up_makes : (shape : Shape) (id : ℕ) (me : Me (Unit {0}) View) (key : ℕ) → key < shape.keys → IsIdle me.0.role
    → me.0.shape ≡ shape
    → Makes shape id me.0 (Load key) me.1 (λ found next. LookedUp key found me.0 next)
look_up_makes shape id me key near idle sized =
    let view = me.0 in
    let reader = caller_number view.role in
    let tells = LooksUp reader key in
    let notes = LooksUpMarks view.marks key in
    let e = entry reader (model.Find key) reply.Hole in
    let looked : ℕ → Marks = λ found. with_look view.marks key (name_number found) in
    makes shape id view (Load key) tells notes me.1 (λ found next. LookedUp key found view next) view.pasts
    (rw idle (looks_up shape id reader key near))
    (looks_up_marked role_of marks_of shape id view view.pasts reader key idle) (knows_pasts shape id view)
    (sees_plain shape id view (Load key) tells notes (λ found next. LookedUp key found view next)
    (key_inside shape key near) (key_no_count shape key near)
    (λ state kept at step. lends_on view step.after (λ slot. ap (holds slot) (step.told.0 ∙ sym idle))))
    (λ state kept at step marked. let found : ℕ = get_or kept.counted key 0 in
    let filled = is_filled found in
    reads_on kept at step marked idle step.told.0 marked.told.1 step.told.1
    (rw marked.told.0
    (by_cases
    (λ b. (cond {A = Marks} b (looked found)
    (acted (looked found) (put_number (kept.log ++ step.entries) key))).acts + 0
    ≡ view.marks.acts + 0 + acts_told (cond {A = List Entry} b [] (e ∷ [])))
    filled (λ _. omega arith) (λ _. omega arith)))
    (λ next. LookedUp key found view next)
    (λ within. on_test (AreCallers shape) filled (λ _. tt) (λ _. ((near, inr (within, refl)), tt)))
    (λ advances. record {
      role = step.told.0 ∙ sym idle;
      says = refl;
      hole = λ empty. rw empty at advances;
      named = λ full. rw full at advances;
      marks = marked.told.0;
    }))

pub looks_up_so : (shape : Shape) (slots id : ℕ) (me : Me (Unit {0}) View) (key : ℕ) → key < shape.keys
    → IsIdle me.0.role → me.0.shape ≡ shape
    → Allows (Kept shape) slots id me key (λ word. word) (has_looked_up (step slots key 0 0 none) me)
looks_up_so shape slots id me key near idle sized =
    allowed shape slots id me.0 (Load key) me.1 (λ found next. LookedUp key found me.0 next)
    (look_up_makes shape id me key near idle sized)

-- WHAT THE READER'S WORD SAYS

-- what a token that says something holds, it holds by its word
loud_lends : (view : View) (slot : ℕ) → 0 < view.says → lends slot view ≡ holds slot view.role
loud_lends view slot loud = ap (λ (b : Bool). cond b (holds slot view.role) 0) (lt-ltb 0 view.says loud)

module _ (shape : Shape) (id own : ℕ) (view : View) (has : HasWord own view) (state : State (Unit {0}) View)
    (kept : Kept shape state) (at : get_elem? state.views id ≡ some view)
    (mine : is_by (caller_number view.role) view.role ≡ true) where
  is_own : is_by (suc own) view.role ≡ true
  is_own = ap (λ (n : ℕ). is_by n view.role) (sym has.number) ∙ mine

  is_within : own < kept.announcers
  is_within = let told = kept.told_of id view at (is_caller view.role is_own) in let within = has.within in omega arith
    where
      is_caller : (role : Role) → is_by (suc own) role ≡ true → 0 < is_writer role + is_reader role
      is_caller Note his = absurd (cc)
      is_caller other his = omega arith

  -- no other token is that reader
  alone : (other : ℕ) (viewed : View) → other ≢ id → get_elem? state.views other ≡ some viewed
      → is_by (suc own) viewed.role ≡ true → ⊥
  alone other viewed ne there his =
      differ (is_by (suc own) view.role)
      ⊥ is_own (apart shape state kept id other view viewed (suc own) at there ne his)

  -- the reader holds by its word no slot of which the writer has heard that reader
  abbrev LendsUnheard : View → Type 0
  LendsUnheard next =
      (other slot : ℕ) (writer : View) → get_elem? state.views other ≡ some writer → is_writer writer.role ≡ 1
      → own < get_or writer.heard slot 0 → lends slot next ≡ 0

  module _ (operation : Operation) (tells : Telling) (notes : MarkTelling)
      (step : Stepped shape kept.counted (map role_of state.views) kept.log id view.role operation tells)
      (marked : Remarked role_of marks_of shape kept.counted state.views kept.log id operation view step.after
      step.entries notes)
      (next : View) (follows : Follows shape id view operation tells notes state kept step marked next)
      (unheard : LendsUnheard next) where
    -- what the writer has heard stays so
    heard_still : AllHear (set state.views id next)
    heard_still =
        let mine_next = ap (is_by (suc own)) follows.role ∙ step.same (suc own) ∙ is_own in
        hears_after state.views id view next at
        (λ other slot reader writer _ there writes his low. unheard other slot writer there writes
        (let same = is_one next.role (suc own) (suc reader) mine_next his in omega arith))
        (λ writes. absurd (no_reader next.role own writes mine_next)) kept.hears

    -- the rule after a step of the core that the reader's view goes along with, where its word then says what the view
    -- says
    says_kept : ((slot : ℕ) → 0 < next.says → 0 < holds slot next.role → next.says ≡ suc slot)
        → Counted shape (lent (set state.views id next)) state.words (words_after operation kept.counted)
        → Kept shape
        (record {
          words = set state.words (says_at shape own) next.says;
          homes = state.homes;
          views = set state.views id next;
        })
    says_kept holds_it seen =
        let place : ℕ = says_at shape own in
        let within = is_within in
        let space = kept.announced.space in
        keeps_core shape id view operation tells notes state kept at step marked next follows
        (set state.words place next.says)
        (counted_behind shape (lent (set state.views id next)) state.words (words_after operation kept.counted) place
        next.says (omega arith) seen)
        (announces_own shape kept.announcers state.words (set state.words place next.says) state.views id own view next
        at
        (ap (is_by (suc own)) follows.role ∙ step.same (suc own) ∙ is_own) within
        (λ caller. ap (is_by caller) follows.role ∙ step.same caller) alone
        (get_or-set_same state.words place next.says 0 (omega arith)) (says_apart shape state.words own next.says)
        holds_it (length-set state.words place next.says) kept.announced)
        heard_still

    -- and where its word says what it said
    says_still : next.says ≡ view.says
        → ((slot : ℕ) → 0 < next.says → 0 < holds slot next.role → next.says ≡ suc slot)
        → Counted shape (lent (set state.views id next)) state.words (words_after operation kept.counted)
        → Kept shape (record { words = state.words; homes = state.homes; views = set state.views id next })
    says_still same holds_it seen =
        keeps_core shape id view operation tells notes state kept at step marked next follows state.words seen
        (announces_own shape kept.announcers state.words state.words state.views id own view next at
        (ap (is_by (suc own)) follows.role ∙ step.same (suc own) ∙ is_own) is_within
        (λ caller. ap (is_by caller) follows.role ∙ step.same caller) alone
        (kept.announced.says id own view at is_own is_within ∙ sym same) (λ _ _. refl) holds_it refl kept.announced)
        heard_still

-- THE ANNOUNCEMENT, AND ITS END

module _ (shape : Shape) (slots id own says : ℕ) (me : Me (Unit {0}) View) (has : HasWord own me.0)
    (sized : me.0.shape ≡ shape) (state : State (Unit {0}) View) (kept : Kept shape state)
    (at : get_elem? state.views id ≡ some me.0) where
  abbrev view : View
  view = me.0

  abbrev reader : ℕ
  reader = caller_number view.role

  -- the rule holds where the reader's word says that, and its token is told so
  abbrev SaysNext : Type 0
  SaysNext =
      (next : View)
      × Kept shape
      (record {
        words = set state.words (says_at shape own) says;
        homes = state.homes;
        views = set state.views id next;
      })
      × Said says view next

  -- a step of the core after which the reader holds nothing
  says_after : is_by reader view.role ≡ true
      → (operation : Operation) (tells : Telling) (notes : MarkTelling)
      (step : Stepped shape kept.counted (map role_of state.views) kept.log id view.role operation tells)
      (marked : Remarked role_of marks_of shape kept.counted state.views kept.log id operation view step.after
      step.entries notes)
      → step.after ≡ Reader reader Nothing → step.entries ≡ [] → marked.news ≡ []
      → marked.now ≡ let_go (grip_of view.role) view.marks → ActsGo view step.after step.entries marked.now
      → ((next : View) → ((slot : ℕ) → lends slot next ≡ 0)
      → Counted shape (lent (set state.views id next)) state.words (words_after operation kept.counted))
      → SaysNext
  says_after mine operation tells notes step marked after no_entries no_news lets_go acts seen =
      let same : caller_number step.after ≡ reader = ap caller_number after in
      let callers : AreCallers shape step.entries = subst (AreCallers shape) (sym no_entries) tt in
      let quiet = waited_next kept at step marked same sized callers acts in
      let next = saying says quiet in
      let holds_none : (slot : ℕ) → holds slot next.role ≡ 0 = λ slot. ap (holds slot) after in
      let none_lent : (slot : ℕ) → lends slot next ≡ 0 = λ slot. lends_none next slot (holds_none slot) in (
        next,
        says_kept shape id own view has state kept at mine operation tells notes step marked next
            (assumption (waited_follows kept at step marked same sized callers acts no_entries))
            (λ _ slot _ _ _ _. none_lent slot)
            (λ slot _ grips. absurd (omega (arith, holds_none slot))) (seen next none_lent),
        record {
          role = after;
          says_it = refl;
          waits = λ table. assumption (waited_rests kept at step marked same sized callers acts no_news table);
          marks = lets_go;
        },
      )

  -- the core sees nothing of it where the reader held nothing
  says_idle : IsIdle view.role → SaysNext
  says_idle idle = let notes = ReaderLearns reader Nothing view.marks [] in
      let step
      = learns shape id view.role 0 kept.counted (map role_of state.views) kept.log kept.core
      (at_map role_of state.views id view at) in
      let marked
      = learns_reader role_of marks_of shape id view
      [] 0 reader Nothing idle kept.counted state.views kept.log kept.core kept.marked kept.once at
      (no_places (Since role_of marks_of state.views)) step.after step.entries step.told in
      says_after (reader_is idle) (Load 0) (LoadsWord view.role) notes step marked
      (step.told.0 ∙ idle) step.told.1 marked.told.1
      (marked.told.0 ∙ sym (ap (λ r. let_go (grip_of r) view.marks) idle))
      (acts_so view marked.now idle (step.told.0 ∙ idle) step.told.1
      (let same = ap (λ (m : Marks). m.acts) marked.told.0 in omega arith))
      (λ next none_lent. rw (set-get_or kept.counted 0 0)
      (counted_same shape (lent state.views) (lent (set state.views id next)) state.words kept.counted
      (λ slot.
      let before : lends slot view ≡ 0 = lends_none view slot (ap (holds slot) idle) in
      omega (arith, total-set (lends slot) state.views id view next at, none_lent slot))
      kept.counts_words))

  -- and sees a departure where it held a slot by its word
  says_held : HoldsByWord shape view → SaysNext
  says_held held =
      let slot : ℕ = slot_held view.role in
      let rows = rows_held view.role in
      let sized_so = is_sized (grip_of view.role) in
      let is = held.0.is in
      let tells = Departs reader in
      let place : ℕ = departures shape slot in let operation = Add place 1 in
      let step
      = subst (λ r. CanStep shape id r operation tells) (sym is) (departs shape id reader slot rows sized_so)
      kept.counted (map role_of state.views) kept.log kept.core (at_map role_of state.views id view at) in
      let marked
      = departs_marked role_of marks_of shape id view
      [] reader slot rows sized_so is kept.counted state.views kept.log kept.core kept.marked kept.once at
      (no_places (Since role_of marks_of state.views)) step.after step.entries step.told in
      says_after (reader_is is) operation tells (DepartsMarks view.marks) step marked
      step.told.0 step.told.1 marked.told.1 (marked.told.0 ∙ sym (ap (λ r. let_go (grip_of r) view.marks) is))
      (acts_so view marked.now is step.told.0 step.told.1
      (let same = ap (λ (m : Marks). m.acts) marked.told.0 in omega arith))
      (λ next lends_none.
      let near = held.0.inside in let wide = kept.core.wide in let few = lent_small shape state kept slot in
      let grips : (s : ℕ) → lends s view ≡ only s slot = λ s. loud_lends view s held.1 ∙ ap (holds s) is in
      let change : (s : ℕ) → lent (set state.views id next) s + only s slot ≡ lent state.views s
      = λ s. omega (arith, total-set (lends s) state.views id view next at, grips s, lends_none s) in
      let less = kept.counts_words.less slot near in
      counted_lent shape (lent state.views) (lent (set state.views id next)) state.words kept.counted slot
      ((get_or kept.counted place 0 + 1) % 2 ^ 64) near (omega arith)
      (λ s ne. omega (arith, change s, only-other s slot (λ e. ne (sym e))))
      (omega (arith, change slot, only-same slot, less, few)) kept.counts_words)

pub says_so : (shape : Shape) (slots id own says : ℕ) (me : Me (Unit {0}) View) → HasWord own me.0 → me.0.shape ≡ shape
    → IsIdle me.0.role ⊎ HoldsByWord shape me.0
    → let place = says_at shape own in
    Allows (Kept shape) slots id me place (λ _. says) (has_said (step slots place says 0 none) me)
says_so shape slots id own says me has sized holds state kept homes at small =
    let said
    = ⊎_elim (says_idle shape slots id own says me has sized state kept at)
    (says_held shape slots id own says me has sized state kept at) holds in
    (said.0, keeps, tt, said.1, said.2)

-- THE SECOND LOOK

-- of a slot that a key names nothing is heard
named_unheard : (shape : Shape) (state : State (Unit {0}) View) (kept : Kept shape state) (other : ℕ) (writer : View)
    → get_elem? state.views other ≡ some writer → is_writer writer.role ≡ 1
    → (key slot : ℕ) → key < shape.keys → name_number (get_or kept.counted key 0) ≡ suc slot
    → get_or writer.heard slot 0 ≡ 0
named_unheard shape state kept other writer there writes key slot near names = by_role writer.role refl
  where
    by_role : (role : Role) → writer.role ≡ role → get_or writer.heard slot 0 ≡ 0
    by_role (Writer desk) is = (kept.hears other writer there writes).unheard key slot
        ((rw is at (kept.marked.each other writer there)).names
        key near
        ∙ names)
    by_role other is = absurd (let none_writes = ap is_writer is in omega arith)

-- where the key names the announced slot, the reader holds it
confirms_named : (shape : Shape) (slots id own : ℕ) (me : Me (Unit {0}) View) (key : ℕ) → key < shape.keys
    → HasWord own me.0 → me.0.shape ≡ shape → IsIdle me.0.role → 0 < me.0.says
    → (state : State (Unit {0}) View) (kept : Kept shape state) → get_elem? state.views id ≡ some me.0
    → name_number (get_or state.words key 0) ≡ suc (slot_said me.0)
    → (next : View) × Kept shape (record { words = state.words; homes = state.homes; views = set state.views id next })
    × HoldsSaid key me.0 next
confirms_named shape slots id own me key near has sized idle loud state kept at names =
    let view = me.0 in
    let reader = caller_number view.role in
    let slot : ℕ = slot_said view in
    let place : ℕ = departures shape slot in
    let operation = Add place (2 ^ 64 - 1) in
    let tells = HoldsNamed shape reader slot key in
    let notes = HoldsNamedMarks view.marks key slot in let mine = reader_is idle in
    let names_seen : name_number (get_or kept.counted key 0) ≡ suc slot
    = ap name_number (kept.counts_words.same key (key_inside shape key near) (key_no_count shape key near))
    ∙ names in
    let step
    = subst (λ r. CanStepWhere shape id r operation (λ words. name_number (get_or words key 0) ≡ suc slot) tells)
    (sym idle) (holds_named shape id reader key slot near)
    kept.counted (map role_of state.views) kept.log kept.core names_seen (at_map role_of state.views id view at) in
    let marked
    = holds_named_marked role_of marks_of shape id view
    [] reader key slot near idle kept.counted state.views kept.log kept.core kept.marked names_seen kept.once at
    (no_places (Since role_of marks_of state.views)) step.after step.entries step.told in
    let rows = step.told.0 in
    let inside = step.told.1 in
    let after = step.told.3 in
    let same : caller_number step.after ≡ reader = ap caller_number after in
    let rows_so : rows_held step.after ≡ rows = ap rows_held after in
    let slot_so : slot_held step.after ≡ slot = ap slot_held after in
    let callers : AreCallers shape step.entries
    = rw step.told.4 ((near, inr (reader_within shape id view Nothing state kept at idle, refl)), tt) in
    let acts
    = acts_so view marked.now idle after step.told.4
    (let count = ap (λ (m : Marks). m.acts) marked.told.0 in omega arith) in
    let next = learned_next kept at step marked same sized callers acts in
    let grips : (s : ℕ) → lends s next ≡ only s slot = λ s. loud_lends next s loud ∙ ap (holds s) after in
    let change : (s : ℕ) → lent (set state.views id next) s ≡ lent state.views s + only s slot
    = λ s.
    let before : lends s view ≡ 0 = lends_none view s (ap (holds s) idle) in
    omega (arith, total-set (lends s) state.views id view next at, grips s) in
    let less = kept.counts_words.less slot inside in
    let wide = kept.core.wide in
    let few = lent_small shape state kept slot in (
      next,
      says_still shape id own view has state kept at mine operation tells notes step marked next
          (learned_follows kept at step marked same sized callers acts)
          (λ other s writer there writes low. grips s
          ∙ only-other s slot
          (λ e.
          let unheard
          = named_unheard shape state kept other writer there writes key s near
          (names_seen ∙ ap suc e) in
          absurd (omega arith)))
          refl (λ s _ grip.
          let held : 0 < only s slot = subst (λ (n : ℕ). 0 < n) (ap (holds s) after) grip in
          let found = only-is s slot held in
          omega arith)
          (counted_lent shape (lent state.views) (lent (set state.views id next)) state.words kept.counted slot
          ((get_or kept.counted place 0 + (2 ^ 64 - 1)) % 2 ^ 64) inside (omega arith)
          (λ s ne. omega (arith, change s, only-other s slot (λ e. ne (sym e))))
          (omega (arith, change slot, only-same slot, less, few)) kept.counts_words),
      record {
        number = same;
        says = refl;
        holds = subst (λ (p : Shape × Role). Holds p.0 p.1) (λ j. (sym sized j, sym after j))
            (record { is = refl; inside = inside; row_set = step.told.2 });
        slot = slot_so;
        gains =
            learned_gains kept at step marked same sized callers acts mine
            marked.told.1 (entry reader (model.Find key) (reply.Rows (rows_held step.after)) ∷ [])
            (step.told.4 ∙ ap (λ (r : List Row). entry reader (model.Find key) (reply.Rows r) ∷ []) (sym rows_so));
        marks = marked.told.0;
      },
    )

pub confirms_so : (shape : Shape) (slots id own : ℕ) (me : Me (Unit {0}) View) (key : ℕ) → key < shape.keys
    → HasWord own me.0 → me.0.shape ≡ shape → IsIdle me.0.role → 0 < me.0.says
    → Allows (Kept shape) slots id me key (λ word. word) (has_confirmed (step slots key 0 0 none) me)
confirms_so shape slots id own me key near has sized idle loud state kept homes at small =
    let found : ℕ = get_or state.words key 0 in
    let slot : ℕ = slot_said me.0 in
    by_cases
    (λ (_ : Bool). (next : View) × (act : Act (Unit {0})) × Valid state.homes me.1 act
    × Kept shape (stepped state key found id me.1 next act) × Confirmed key found me.0 next)
    (names_slot slot found)
    (λ yes.
    let held
    = confirms_named shape slots id own me key near has sized idle loud state kept at
    (eqb-true (name_number found) (suc slot) yes) in (
      held.0,
      keeps,
      tt,
      rw (set-get_or state.words key 0) held.1,
      record { same = λ _. held.2; other = λ no. differ (names_slot slot found) _ yes no },
    ))
    (λ no.
    let looked = look_up_makes shape id me key near idle sized state kept at in (
      looked.0,
      keeps,
      tt,
      looked.1,
      record { same = λ yes. differ (names_slot slot found) _ yes no; other = λ _. looked.2 },
    ))
