-- What a step does to its token's own view: it learns the history so far and adds entries, or it learns nothing.
use Rattle.std.proofs.Common.{◌≡◌, ℕ, suc, get_or, inl, ◌⊎◌, ◌<◌, ◌+◌, List, [], ◌++◌, map, cond, true, refl, sym, ap}
use Rattle.std.proofs.Common.{◌∙◌, subst, arith, append-nil}
use mathlib.Core.Option.{some}
use lib.ListN.{get_elem?}
use Rattle.atomic_table.specs.Table.{State}
use Rattle.nr_model.specs.Histories.{Entry, IsLegal, entries_of}
use Rattle.nr_core.proofs.Histories.{of-append}
use Rattle.nr_core.proofs.Sums.{total-append}
use Rattle.nr_core.specs.Roles.{is_by, is_reader, is_writer}
use Rattle.nr_core.specs.declared.operation.Operation.{Operation}
use Rattle.nr_core.specs.Steps.{Stepped, Telling}
use Rattle.nr_core.specs.declared.roles.Role.{Role}
use Rattle.nr_core.specs.declared.shape.Shape.{Shape}
use Rattle.nr_board.specs.Plays.{Advances, Waits}
use Rattle.nr_core.specs.Marked.{MarkTelling, Remarked}
use Rattle.nr_core.specs.Marks.{Marks, Past, gripped}
use Rattle.nr_board.specs.Rule.{Fits, Kept, marks_of, role_of}
use Rattle.nr_board.proofs.Lift.{Choice, Follows}
use Rattle.nr_board.proofs.Tokens.{starts_more}
use Rattle.nr_board.proofs.Heard.{forgets, hears_as}
use Rattle.nr_board.proofs.Entries.{callers_both}
use Rattle.nr_board.specs.Entries.{AreCallers, acts_at, acts_told, to_depart}
use Rattle.nr_board.specs.Announcing.{heard_after}
use Rattle.nr_board.specs.Views.{View, grip_of, caller_number}
use Rattle.nr_core.specs.Story.{opening_map}

-- the view after a step that learns the history so far and adds entries; after one that learns nothing
abbrev pub learned : View → Role → List Entry → List Entry → Marks → List Past → View
learned view after seen entries marks news = record view {
  role = after;
  seen = seen;
  mine = view.mine ++ entries;
  steps = view.steps + 1;
  marks = marks;
  pasts = news ++ view.pasts;
  heard = heard_after view.role view.heard;
}

abbrev pub waited : View → Role → Marks → List Past → View
waited view after marks news =
    record view { role = after; steps = view.steps + 1; marks = marks; pasts = news ++ view.pasts }

-- after the writer's step a key names what it did, or a slot of which nothing is heard
abbrev pub NamesGo : View → Marks → Type 0
NamesGo view marks =
    is_writer view.role ≡ 1 → (key slot : ℕ) → get_or marks.names key 0 ≡ suc slot
    → (get_or view.marks.names key 0 ≡ suc slot) ⊎ (get_or (heard_after view.role view.heard) slot 0 ≡ 0)

abbrev pub NamesStay : View → Marks → Type 0
NamesStay view marks = is_writer view.role ≡ 1 → marks.names ≡ view.marks.names

pub names_go : (view : View) (marks : Marks) → NamesStay view marks → NamesGo view marks
names_go view marks stay writes key slot is = inl (ap (λ (l : List ℕ). get_or l key 0) (sym (stay writes)) ∙ is)

-- a reader names nothing
pub reads_only : (view : View) (marks : Marks) → is_writer view.role ≡ 0 → NamesStay view marks
reads_only view marks reads writes = absurd (omega arith)

-- a reader's count of acts goes along with its entries, but for the departure that is to come
abbrev pub ActsGo : View → Role → List Entry → Marks → Type 0
ActsGo view after entries marks =
    0 < is_reader after
    → marks.acts + to_depart (gripped (grip_of after))
    ≡ view.marks.acts + to_depart (gripped (grip_of view.role)) + acts_told entries

module _ (shape : Shape) (log : List Entry) (view : View) (fits : Fits shape log view) (after : Role)
    (same : (caller : ℕ) → is_by caller after ≡ is_by caller view.role) (writer : is_writer after ≡ is_writer view.role)
    (reader : is_reader after ≡ is_reader view.role) where
  -- the history with the step's entries has the caller's, and no more of it
  pub learned_own : (entries : List Entry)
      → ((caller : ℕ) → entries_of entries caller ≡ cond (is_by caller view.role) entries []) → (caller : ℕ)
      → is_by caller after ≡ true → entries_of (log ++ entries) caller ≡ view.mine ++ entries
  learned_own entries own caller his = let before : is_by caller view.role ≡ true = sym (same caller) ∙ his in
      of-append caller log entries ∙ ap (λ (l : List Entry). l ++ entries_of entries caller) (fits.own caller before)
      ∙ ap (λ (l : List Entry). view.mine ++ l) (own caller ∙ ap (λ y. cond y entries []) before)

  pub learned_fits : (entries : List Entry) (marks : Marks) (news : List Past)
      → ((caller : ℕ) → entries_of entries caller ≡ cond (is_by caller view.role) entries [])
      → ActsGo view after entries marks
      → Fits shape (log ++ entries) (learned view after (log ++ entries) entries marks news)
  learned_fits entries marks news own acts = let all = learned_own entries own in record {
    begins = record { rest = []; is = sym (append-nil (log ++ entries)) };
    told = starts_more fits.told entries;
    own = all;
    knows_own = all;
    acts = λ reads. omega (
      arith,
      fits.acts (omega arith),
      acts reads,
      total-append (λ (e : Entry). acts_at e.call e.reply) view.mine entries,
    );
    sized = λ l. fits.sized (omega arith);
  }

  pub waited_fits : (marks : Marks) (news : List Past) → ActsGo view after [] marks
      → Fits shape (log ++ []) (waited view after marks news)
  waited_fits marks news acts = record {
    begins = record { rest = fits.begins.rest; is = append-nil log ∙ fits.begins.is };
    told = record { rest = fits.told.rest; is = append-nil log ∙ fits.told.is };
    own = λ caller his. ap (λ (l : List Entry). entries_of l caller) (append-nil log)
        ∙ fits.own caller (sym (same caller) ∙ his);
    knows_own = λ caller his. fits.knows_own caller (sym (same caller) ∙ his);
    acts = λ reads. omega (arith, fits.acts (omega arith), acts reads);
    sized = λ l. fits.sized (omega arith);
  }

  module _ (number : caller_number after ≡ caller_number view.role) (sized : view.shape ≡ shape) where
    pub learned_advances : (entries : List Entry) (marks : Marks) (news : List Past) → news ≡ []
        → is_by (caller_number view.role) view.role ≡ true
        → ((caller : ℕ) → entries_of entries caller ≡ cond (is_by caller view.role) entries [])
        → IsLegal (opening_map shape) (log ++ entries)
        → AreCallers shape (log ++ entries)
        → Advances entries view (learned view after (log ++ entries) entries marks news)
    learned_advances entries marks news no_news caller own legal callers id = record {
      table = refl;
      number = number;
      between = fits.begins.rest;
      seen = ap (λ (l : List Entry). l ++ entries) fits.begins.is;
      mine = refl;
      legal = subst (λ (g : Shape). IsLegal (opening_map g) (log ++ entries)) (sym sized) legal;
      own =
          learned_own entries own (caller_number after)
          (same (caller_number after) ∙ ap (λ (n : ℕ). is_by n view.role) number ∙ caller);
      callers = subst (λ (g : Shape). AreCallers g (log ++ entries)) (sym sized) callers;
      steps_made = refl;
      pasts = ap (λ (l : List Past). l ++ view.pasts) no_news;
      loaded_ahead = refl;
    }

    pub waited_waits : (marks : Marks) (news : List Past) → news ≡ [] → Waits view (waited view after marks news)
    waited_waits marks news no_news id = assumption (ap (λ (l : List Past). l ++ view.pasts) no_news)

-- The two ways in which a step of the core becomes one of the token.
module
    _ {shape : Shape} {id : ℕ} {view : View} {operation : Operation} {tells : Telling} {notes : MarkTelling}
    {state : State (Unit {0}) View} (kept : Kept shape state) (at : get_elem? state.views id ≡ some view)
    (step : Stepped shape kept.counted (map role_of state.views) kept.log id view.role operation tells)
    (marked : Remarked role_of marks_of shape kept.counted state.views kept.log id operation view step.after
    step.entries notes)
    (same_number : caller_number step.after ≡ caller_number view.role) (sized : view.shape ≡ shape)
    (callers : AreCallers shape step.entries) (acts : ActsGo view step.after step.entries marked.now) where
  -- the view of a token that learns the history so far, with the step's entries
  abbrev pub learned_next : View
  learned_next = learned view step.after (kept.log ++ step.entries) step.entries marked.now marked.news

  pub learned_follows : Follows shape id view operation tells notes state kept step marked learned_next
  learned_follows =
      assumption
      (learned_fits shape kept.log view (kept.fits id view at) step.after step.same step.writer step.reader
      step.entries marked.now marked.news step.own acts)

  pub chosen : NamesGo view marked.now → (then : View → Type 0) → then learned_next
      → Choice shape id view operation tells notes state kept step marked then
  chosen names then told = record {
    next = learned_next;
    follows = learned_follows;
    says = refl;
    hears = λ writes. record { fewer = forgets view.role view.heard; named = names writes };
    told = told;
  }

  -- one that hears what it heard, since nothing is put
  abbrev pub still_next : View
  still_next = record learned_next { heard = view.heard }

  pub still_chosen : NamesStay view marked.now → (then : View → Type 0) → then still_next
      → Choice shape id view operation tells notes state kept step marked then
  still_chosen stay then told = record {
    next = still_next;
    follows = assumption learned_follows;
    says = refl;
    hears = λ writes. hears_as view still_next refl (stay writes);
    told = told;
  }

  pub learned_gains : is_by (caller_number view.role) view.role ≡ true → marked.news ≡ [] → (told : List Entry)
      → step.entries ≡ told → Advances told view learned_next
  learned_gains caller no_news told is = rw (sym is)
      (learned_advances shape kept.log view (kept.fits id view at) step.after step.same step.writer step.reader
      same_number sized step.entries
      marked.now marked.news no_news caller step.own step.core.legal
      (callers_both shape kept.log step.entries kept.callers callers))

  pub learning : NamesGo view marked.now → (then : View → Type 0) → is_by (caller_number view.role) view.role ≡ true
      → marked.news ≡ [] → (told : List Entry) → step.entries ≡ told
      → (Advances told view learned_next → then learned_next)
      → Choice shape id view operation tells notes state kept step marked then
  learning names then caller no_news told is tell = chosen names then (tell (learned_gains caller no_news told is))

  -- the token learns nothing from a step without an entry
  abbrev pub waited_next : View
  waited_next = waited view step.after marked.now marked.news

  pub waited_follows : step.entries ≡ []
      → Follows shape id view operation tells notes state kept step marked waited_next
  waited_follows none =
      let fits : Fits shape (kept.log ++ step.entries) waited_next
      = rw none
      (waited_fits shape kept.log view (kept.fits id view at) step.after step.same step.writer step.reader marked.now
      marked.news (rw none at acts)) in
      assumption fits

  pub waited_rests : marked.news ≡ [] → Waits view waited_next
  waited_rests no_news =
      waited_waits shape kept.log view (kept.fits id view at) step.after step.same step.writer step.reader same_number
      sized marked.now marked.news no_news

  pub waiting : NamesStay view marked.now → (then : View → Type 0) → marked.news ≡ [] → step.entries ≡ []
      → (Waits view waited_next → then waited_next)
      → Choice shape id view operation tells notes state kept step marked then
  waiting stay then no_news none tell = record {
    next = waited_next;
    follows = waited_follows none;
    says = refl;
    hears = λ writes. hears_as view waited_next refl (stay writes);
    told = tell (waited_rests no_news);
  }
