-- The steps of a search in any order on the table: a poll of any retired slot that was heard, a load of a reader's
-- word, and the end of a search that is given up.
use Rattle.std.proofs.Common.{◌≡◌, ℕ, suc, zero, ◌+◌, ◌-◌, ◌<◌, ◌≤◌, ◌⊎◌, ⊎_elim, inl, inr, List, [], ◌∷◌, ◌++◌, Bool}
use Rattle.std.proofs.Common.{true, false, cond, length, map, get_or, set, nat_eq, eq-eqb, refl, sym, ap, ◌∙◌, subst}
use Rattle.std.proofs.Common.{arith, append-nil}
use Rattle.std.specs.Prelude.{nat_lt, Some, None}
use Rattle.std.proofs.lemmas.Bool.{eqb-true, ltb-true}
use mathlib.Core.Option.{some, some-injective, some-ne-none}
use lib.ListN.{get_elem?}
use lib.Seq.{set-get_or}
use Rattle.atomic_table.proofs.Lists.{at_map}
use Rattle.atomic_table.specs.Table.{Allows, Me, State, keeps}
use Rattle.nr_model.specs.Histories.{Entry}
use Rattle.nr_model.specs.Maps.{filled_count, reply_to}
use Rattle.nr_model.specs.declared.calls.Reply.TheVariants as reply
use Rattle.nr_model.specs.declared.rows.Row.{Row}
use Rattle.nr_words.specs.KeyWords.{same_count}
use Rattle.nr_core.proofs.Choices.{either, on_test}
use Rattle.nr_core.proofs.Guards.{both}
use Rattle.nr_core.proofs.Counting.{slots_are}
use Rattle.nr_core.proofs.Learn.{learns}
use Rattle.nr_core.proofs.Settle.{gives_up, tries}
use Rattle.nr_core.proofs.Sums.{got_at}
use Rattle.nr_core.specs.Core.{AtPlace}
use Rattle.nr_core.specs.Roles.{grips, held, holds, is_by, is_reader, is_writer, taken}
use Rattle.nr_core.specs.Steps.{CanStep, GivesUp, LoadsWord, Stepped, Tries}
use Rattle.nr_core.specs.Slots.{departures}
use Rattle.nr_core.specs.States.{no_retired, retired_at}
use Rattle.nr_core.specs.Story.{call_of, map_after}
use Rattle.nr_core.specs.Writer.{moved_to}
use Rattle.nr_core.specs.declared.calls.Step.{Step}
use Rattle.nr_core.specs.declared.calls.Step.TheVariants.{Going}
use Rattle.nr_core.specs.declared.calls.WriterCall.{WriterCall}
use Rattle.nr_core.specs.declared.operation.Operation.TheVariants.{Load}
use Rattle.nr_core.specs.declared.places.Place.{Place}
use Rattle.nr_core.specs.declared.places.Place.TheVariants.{Idle, Searching}
use Rattle.nr_core.specs.declared.roles.Desk.{Desk}
use Rattle.nr_core.specs.declared.roles.Role.{Role}
use Rattle.nr_core.specs.declared.roles.Role.TheVariants.{Note, Reader, Writer}
use Rattle.nr_core.specs.declared.roles.Grip.{Grip}
use Rattle.nr_core.specs.declared.roles.Grip.TheVariants.{Nothing, On}
use Rattle.nr_core.specs.declared.shape.Shape.{Shape}
use Rattle.nr_core.proofs.SearchMarks.{Begins, gives_up_marked, notes_marked, scans_marked, tries_marked}
use Rattle.nr_core.specs.Marked.{MarkTelling, Remarked}
use Rattle.nr_core.specs.MarkSteps.{KeepsMarks, TriesMarks, TryTells}
use Rattle.nr_core.specs.Marks.{Marks, Past, LoggedLoad, gripped, past, with_scan}
use Rattle.nr_board.proofs.Counting.{announces_on, counted_same, lent_same}
use Rattle.nr_board.proofs.Lift.{Follows, keeps_core, key_inside, key_no_count, knows_pasts, lends_on, lifts}
use Rattle.nr_board.proofs.Lift.{sees_alone, sees_plain}
use Rattle.nr_board.proofs.Moves.{names_go}
use Rattle.nr_board.proofs.Scanning.{scan_heard}
use Rattle.nr_board.proofs.Shortage.{replies}
use Rattle.nr_board.proofs.WriterSteps.{leads_so, notes_so, writer_shape, writes}
use Rattle.nr_board.specs.Announcing.{Counted, HasNoReader, heard_after, heard_at, lends, lent, says_at}
use Rattle.nr_board.specs.Scans.{heard_from}
use Rattle.nr_board.specs.Entries.{AreCallers}
use Rattle.nr_board.specs.Rule.{Fits, Kept, marks_of, role_of}
use Rattle.nr_board.specs.SearchPlays.{GaveUp, NotesKeeper, Scanned, Tried, keeps_unheard, scan_base, tried}
use Rattle.nr_board.specs.Views.{View}
use Rattle.nr_board.specs.WordLoads.{word_load}

-- a poll of a search names no slot
try_names : (b : Bool) (shape : Shape) (marks : Marks) (slot : ℕ) (now : Marks) → TryTells b shape slot marks now
    → now.names ≡ marks.names
try_names true shape marks slot now told = ap (λ (m : Marks). m.names) told
try_names false shape marks slot now told = ap (λ (m : Marks). m.names) told.1

-- a retired slot of which all readers that have a word were heard may be polled
pub tries_so : (shape : Shape) (slots id : ℕ) (me : Me (Unit {0}) View) (desk : Desk) (call : WriterCall)
    (rows : List Row) (poll : ℕ)
    → me.0.role ≡ Writer desk → desk.place ≡ Searching call rows 0 → poll < length desk.retired
    → me.0.announcers ≤ get_or me.0.heard (retired_at desk poll).slot 0
    → Allows (Kept shape) slots id me (departures shape (retired_at desk poll).slot) (λ word. word)
    (λ found after. Tried desk call rows poll found me.0 after.0)
tries_so shape slots id me desk call rows poll is is_at low heard =
    let view = me.0 in
    let slot : ℕ = (retired_at desk poll).slot in
    let operation = Load (departures shape slot) in
    let tells = Tries desk call rows poll in
    let notes = TriesMarks shape view.marks desk poll in
    let then : ℕ → View → Type 0 = λ found next. Tried desk call rows poll found view next in
    lifts shape id view operation tells notes slots me.1 then view.pasts
    (subst (λ r. CanStep shape id r operation tells) (sym is) (tries shape id desk call rows 0 poll is_at low))
    (tries_marked role_of marks_of shape id view view.pasts desk call rows is_at is poll low)
    (knows_pasts shape id view)
    (sees_alone shape id view operation tells notes then slot (ap is_writer is) heard refl (λ _. refl)
    (λ state kept at.
    ((kept.core.knows id (Writer desk) (at_map role_of state.views id view at ∙ ap some is)).retired poll
    (retired_at desk poll) (got_at desk.retired poll no_retired low)).0)
    (λ state kept at step. lends_on view step.after (λ s. ap (holds s) step.told.0 ∙ sym (ap (holds s) is))))
    (λ state kept at step marked.
    let found : ℕ = get_or kept.counted (departures shape slot) 0 in let c = call_of call in
    let outcome : Desk × Step = (tried desk call rows poll found, Going) in
    let size = writer_shape shape kept.log view desk is (kept.fits id view at) in
    let names
    = names_go view marked.now
    (λ _. try_names (same_count found (retired_at desk poll).arrivals) shape view.marks slot marked.now
    marked.told.1) in
    let seen : kept.log ≡ kept.log ++ step.entries
    = sym (append-nil kept.log) ∙ ap (λ (l : List Entry). kept.log ++ l) (sym step.told.1) in
    writes is kept at step marked marked.told.0 c outcome step.told.0 step.told.1 tt names (then found)
    (λ advances. record {
      leads =
          leads_so is kept at step marked marked.told.0 c outcome
          step.told.0 step.told.1 tt names (λ counts without. absurd (cc)) advances;
      notes =
          rw (sym seen) (notes_so shape state kept view.marks.polls marked.now.polls marked.noted);
      marks =
          rw size marked.told.1;
      heard = ap (λ r. heard_after r view.heard) is ∙ ap (λ (p : Place). heard_at p view.heard) is_at;
    }))

pub gives_up_so : (shape : Shape) (slots id : ℕ) (me : Me (Unit {0}) View) (desk : Desk) (call : WriterCall)
    (rows : List Row) (key : ℕ)
    → key < shape.keys → me.0.role ≡ Writer desk → desk.place ≡ Searching call rows 0
    → Allows (Kept shape) slots id me key (λ word. word) (λ found after. GaveUp desk call me.0 after.0)
gives_up_so shape slots id me desk call rows key near is is_at = let view = me.0 in let operation = Load key in
    let tells = GivesUp desk in
    let notes = KeepsMarks view.marks in
    let then : ℕ → View → Type 0 = λ found next. GaveUp desk call view next in
    lifts shape id view operation tells notes slots me.1 then view.pasts
    (subst (λ r. CanStep shape id r operation tells) (sym is) (gives_up shape id desk call rows 0 key is_at))
    (gives_up_marked role_of marks_of shape id view view.pasts desk call rows is_at is key) (knows_pasts shape id view)
    (sees_plain shape id view operation tells notes then (key_inside shape key near) (key_no_count shape key near)
    (λ state kept at step. lends_on view step.after (λ s. ap (holds s) step.told.0 ∙ sym (ap (holds s) is))))
    (λ state kept at step marked.
    let c = call_of call in
    let outcome : Desk × Step = (moved_to desk Idle, Going) in
    let size = writer_shape shape kept.log view desk is (kept.fits id view at) in
    let names = names_go view marked.now (λ _. ap (λ (m : Marks). m.names) marked.told.0) in
    let there : get_elem? (map role_of state.views) id ≡ some (Writer desk)
    = at_map role_of state.views id view at ∙ ap some is in
    let stands : AtPlace shape kept.counted (map_after shape kept.log) (held (map role_of state.views)) desk.fresh
    desk.retired (Searching call rows 0)
    = subst
    (AtPlace shape kept.counted (map_after shape kept.log) (held (map role_of state.views)) desk.fresh desk.retired)
    is_at (kept.core.knows id (Writer desk) there).place in
    let seen : kept.log ≡ kept.log ++ step.entries
    = sym (append-nil kept.log) ∙ ap (λ (l : List Entry). kept.log ++ l) (sym step.told.1) in
    writes is kept at step marked marked.told.1 c outcome step.told.0
    step.told.1 tt names (then (get_or kept.counted key 0))
    (λ advances. record {
      leads =
          leads_so is kept at step marked marked.told.1 c outcome
          step.told.0 step.told.1 tt names (λ counts without. absurd (cc)) advances;
      would_be_done =
          subst (λ (p : Shape × List Entry). reply_to (map_after p.0 p.1) c ≡ reply.Done) (λ j. (sym size j, seen j))
          (replies shape kept.log call stands.0.done);
      slots =
          subst (λ (p : Shape × List Entry). filled_count (map_after p.0 p.1) + length desk.retired ≡ p.0.slots)
          (λ j. (sym size j, seen j))
          (slots_are shape kept.counted (map role_of state.views) kept.log kept.core id desk there stands.2
          (λ s. ap (taken s) is_at));
      marks = marked.told.0;
      heard = ap (λ r. heard_after r view.heard) is ∙ ap (λ (p : Place). heard_at p view.heard) is_at;
    }))

-- one of the tokens is that reader, or none is
abbrev HasReader : ℕ → List View → Type 0
HasReader own views =
    (id : ℕ) × (view : View) × (get_elem? views id ≡ some view) × (is_by (suc own) view.role ≡ true)

reader_there : (views : List View) (own : ℕ) → HasReader own views ⊎ HasNoReader own views
reader_there [] own = inr (λ id view at. absurd (some-ne-none view (sym at)))
reader_there (view ∷ views) own =
    either (is_by (suc own) view.role) (λ his. inl (0, view, refl, his))
    (λ other. ⊎_elim (λ (t : HasReader own views). inl (suc t.0, t.1, t.2, t.3))
    (λ (none_there : HasNoReader own views). inr (each other none_there)) (reader_there views own))
  where
    each : is_by (suc own) view.role ≡ false → HasNoReader own views → HasNoReader own (view ∷ views)
    each first rest zero v at = subst (λ (u : View). is_by (suc own) u.role ≡ false) (some-injective view v at) first
    each first rest (suc id) v at = rest id v at

reader_role : (role : Role) (own : ℕ) → is_by (suc own) role ≡ true → (grip : Grip) × (role ≡ Reader (suc own) grip)
reader_role (Writer desk) own his = absurd (let number = eqb-true 0 (suc own) his in omega arith)
reader_role (Reader reader grip) own his = (grip, ap (λ (n : ℕ). Reader n grip) (eqb-true reader (suc own) his))
reader_role Note own his = absurd (cc)

-- a reader that says a slot holds that one or none
keeper_holds : (shape : Shape) (state : State (Unit {0}) View) (kept : Kept shape state) (id own : ℕ) (view : View)
    (grip : Grip)
    → get_elem? state.views id ≡ some view → is_by (suc own) view.role ≡ true → view.role ≡ Reader (suc own) grip
    → own < kept.announcers → let found : ℕ = get_or state.words (says_at shape own) 0 in
    0 < found → (gripped grip ≡ None) ⊎ (gripped grip ≡ Some (found - 1))
keeper_holds shape state kept id own view Nothing at his is low loud = inl refl
keeper_holds shape state kept id own view (On slot rows sized) at his is low loud =
    let says = kept.announced.says id own view at his low in
    let one : grips slot (On slot rows sized) ≡ 1 = ap (λ (b : Bool). cond {A = ℕ} b 1 0) (eq-eqb slot slot refl) in
    let mine : holds slot view.role ≡ 1 = ap (holds slot) is ∙ one in
    let it = kept.announced.holds_it id slot view at (omega arith) (omega arith) in inr (ap Some (omega arith))

module _ (shape : Shape) (id own : ℕ) (view : View) (desk : Desk) (call : WriterCall) (rows : List Row)
    (is : view.role ≡ Writer desk) (is_at : desk.place ≡ Searching call rows 0) (within : own < view.announcers)
    (state : State (Unit {0}) View) (kept : Kept shape state) (at : get_elem? state.views id ≡ some view) where
  abbrev found : ℕ
  found = get_or state.words (says_at shape own) 0

  abbrev base : List Past
  base = scan_base own view.marks.polls

  begins : Begins role_of marks_of shape id view view.pasts desk call rows is_at is base
  begins =
      on_test (λ (l : List Past). (l ≡ []) ⊎ (l ≡ view.marks.polls)) (nat_eq own 0) (λ _. inl refl) (λ _. inr refl)

  abbrev Result : Type 0
  Result =
      (next : View) × Kept shape (record { words = state.words; homes = state.homes; views = set state.views id next })
      × Scanned desk own found view next

  abbrev loads : List LoggedLoad
  loads = view.marks.loads ++ word_load own found ∷ []

  -- the core sees a load, and the notes are these
  abbrev noting : List Past → MarkTelling
  noting polls word after log now news = (now ≡ with_scan view.marks polls loads) × (news ≡ [])

  loaded : Stepped shape kept.counted (map role_of state.views) kept.log id view.role (Load 0) (LoadsWord view.role)
  loaded =
      learns shape id view.role 0 kept.counted (map role_of state.views) kept.log kept.core
      (at_map role_of state.views id view at)

  searched_with : (polls : List Past)
      → Remarked role_of marks_of shape kept.counted state.views kept.log id (Load 0) view loaded.after loaded.entries
      (noting polls)
      → NotesKeeper (keeps_unheard desk own found view.heard) own found base polls → Result
  searched_with polls marked keeper =
      let heard = heard_from desk own found view.heard 0 view.shape.slots in
      let next = record view { steps = view.steps + 1; marks = marked.now; heard = heard } in
      let fits = kept.fits id view at in
      let same_log : kept.log ≡ kept.log ++ loaded.entries
      = sym (append-nil kept.log) ∙ ap (λ (l : List Entry). kept.log ++ l) (sym loaded.told.1) in
      let own_fits : Fits shape kept.log next
      = record {
        begins = fits.begins;
        told = fits.told;
        own = fits.own;
        knows_own = fits.knows_own;
        acts = λ reads. absurd (let no_reads = ap is_reader is in omega arith);
        sized = fits.sized;
      } in
      let follows : Follows shape id view (Load 0) (LoadsWord view.role) (noting polls) state kept loaded marked next
      = record {
        role = sym loaded.told.0;
        made = refl;
        announcers = refl;
        marks = refl;
        pasts = ap (λ (l : List Past). l ++ view.pasts) (sym marked.told.1);
        told_pasts = refl;
        fits = subst (λ (l : List Entry). Fits shape l next) same_log own_fits;
        callers = subst (AreCallers shape) (sym loaded.told.1) tt;
      } in
      let lend : (slot : ℕ) → lends slot next ≡ lends slot view = λ _. refl in
      let same_marks : marked.now ≡ with_scan view.marks marked.now.polls loads
      = marked.told.0 ∙ ap (λ (m : Marks). with_scan view.marks m.polls loads) (sym marked.told.0) in (
        next,
        keeps_core shape id view (Load 0) (LoadsWord view.role) (noting polls) state kept at loaded marked next follows
            state.words
            (subst (Counted shape (lent (set state.views id next)) state.words) (sym (set-get_or kept.counted 0 0))
            (counted_same shape (lent state.views) (lent (set state.views id next)) state.words kept.counted
            (lent_same state.views id view next at lend) kept.counts_words))
            (announces_on shape kept.announcers state.words state.words state.views id view next at (λ _. refl) refl
            lend (λ _ _. refl) refl kept.announced)
            (scan_heard shape state kept id own view next desk at is within refl
            (ap (λ (m : Marks). m.names) marked.told.0) refl),
        record {
          same = λ j. record view { steps = view.steps + 1; marks = same_marks j; heard = heard };
          keeper =
              subst (NotesKeeper (keeps_unheard desk own found view.heard) own found base)
              (sym (ap (λ (m : Marks). m.polls) marked.told.0)) keeper;
        },
      )

  searched : Result
  searched =
      either (keeps_unheard desk own found view.heard)
      (λ keeps_it. let loud : 0 < found = ltb-true 0 found (both (nat_lt 0 found) _ keeps_it).0 in ⊎_elim
      (λ (t : HasReader own state.views).
      let r = reader_role t.1.role own t.3 in
      searched_with (base ++ past (suc own) r.0 t.1.marks ∷ [])
      (notes_marked role_of marks_of shape id view view.pasts desk call rows is_at is base begins loads 0 kept.counted
      state.views kept.log kept.core kept.marked kept.once at loaded.after loaded.entries loaded.told t.0 (suc own)
      t.1 r.0 t.2 r.1)
      (subst (λ (b : Bool). NotesKeeper b own found base (base ++ past (suc own) r.0 t.1.marks ∷ [])) (sym keeps_it) (
        past (suc own) r.0 t.1.marks,
        refl,
        refl,
        keeper_holds shape state kept t.0 own t.1 r.0 t.2 t.3 r.1
            (let told = kept.told_of id view at (let one = ap is_writer is in omega arith) in omega arith) loud,
      )))
      (λ (none_there : HasNoReader own state.views). absurd
      (let silent
      = kept.announced.unsaid own none_there
      (let told = kept.told_of id view at (let one = ap is_writer is in omega arith) in omega arith) in
      omega arith))
      (reader_there state.views own))
      (λ lets_it. searched_with base
      (scans_marked role_of marks_of shape id view view.pasts desk call rows is_at is base begins loads 0 kept.counted
      state.views kept.log kept.core kept.marked kept.once at (knows_pasts shape id view state kept at) loaded.after
      loaded.entries loaded.told)
      (subst (λ (b : Bool). NotesKeeper b own found base base) (sym lets_it) refl))

pub searches_so : (shape : Shape) (slots id own : ℕ) (me : Me (Unit {0}) View) (desk : Desk) (call : WriterCall)
    (rows : List Row)
    → me.0.role ≡ Writer desk → desk.place ≡ Searching call rows 0 → own < me.0.announcers
    → Allows (Kept shape) slots id me (says_at shape own) (λ word. word)
    (λ found after. Scanned desk own found me.0 after.0)
searches_so shape slots id own me desk call rows is is_at within state kept homes at bounded =
    let place : ℕ = says_at shape own in
    let told = searched shape id own me.0 desk call rows is is_at within state kept at in (
      told.0,
      keeps,
      tt,
      rw (set-get_or state.words place 0) told.1,
      told.2,
    )
