-- A step of the core is a step on the table: one lemma over all kinds of step.
use Rattle.std.proofs.Common.{◌≡◌, ◌+◌, length-set, ℕ, ◌<◌, ◌≤◌, ◌≢◌, ◌^◌, get_or-set_other, List, [], ◌++◌, map, set}
use Rattle.std.proofs.Common.{get_or, cond, Bool, true, false, refl, sym, ap, ◌∙◌, subst, arith, append-nil}
use mathlib.Core.Option.{some}
use lib.ListN.{get_elem?}
use lib.Seq.{map-set, set-get_or}
use Rattle.atomic_table.specs.Table.{State, keeps, stepped, Allows}
use Rattle.atomic_table.proofs.Lists.{at_map}
use Rattle.nr_model.specs.Histories.{Entry, entries_of}
use Rattle.nr_core.proofs.Histories.{of-append}
use Rattle.nr_core.proofs.Sums.{total-set, term_le, terms_le}
use Rattle.nr_core.specs.Core.{Core}
use Rattle.nr_core.specs.Roles.{holds, is_by, is_reader, is_writer}
use Rattle.nr_core.specs.Operations.{becomes, target_of}
use Rattle.nr_core.specs.declared.operation.Operation.{Operation}
use Rattle.nr_core.specs.Steps.{CanStep, Stepped, Telling}
use Rattle.nr_core.specs.Sums.{total}
use Rattle.nr_core.specs.declared.roles.Role.{Role}
use Rattle.nr_core.specs.declared.shape.Shape.{Shape}
use Rattle.nr_core.proofs.Knowing.{knowing_step}
use Rattle.nr_core.specs.Marked.{AllSince, CanMark, MarkTelling, Remarked}
use Rattle.nr_core.specs.Marks.{Past}
use Rattle.nr_board.proofs.Entries.{callers_both}
use Rattle.nr_board.proofs.OneView.{at_any}
use Rattle.nr_board.proofs.Tokens.{starts_more}
use Rattle.nr_board.specs.Entries.{AreCallers}
use Rattle.nr_board.specs.Rule.{Fits, Kept, counts, marks_of, pasts_of, role_of, told_pasts_of}
use Rattle.nr_board.specs.Views.{View}
use Rattle.std.specs.Prelude.{nat_lt}
use Rattle.nr_words.specs.Places.{total_of}
use Rattle.nr_core.specs.Slots.{content, departures, layout, slot_room}
use Rattle.nr_core.proofs.WordPlaces.{content_apart}
use Rattle.nr_board.specs.Announcing.{Announces, Counted, IsNoCount, lends, lent, says_at}
use Rattle.nr_core.specs.declared.roles.Role.TheVariants.{Note, Reader, Writer}
use Rattle.std.proofs.lemmas.Bool.{eqb-true}
use Rattle.nr_board.proofs.Heard.{AllHear, HearsOn, hears_on, lent_heard}
use Rattle.nr_board.proofs.Saying.{lent_few}
use Rattle.nr_board.proofs.Counting.{announces_on, counted_alone, counted_load, counted_plain, counted_same, lent_same}

abbrev Table : Type 0
Table = State (Unit {0}) View

-- the view of another token fits the history with the step's entries too
other_fits : (shape : Shape) (log entries : List Entry) (view : View) → Fits shape log view
    → ((caller : ℕ) → is_by caller view.role ≡ true → entries_of entries caller ≡ []) → Fits shape (log ++ entries) view
other_fits shape log entries view fits none = record {
  begins = starts_more fits.begins entries;
  told = starts_more fits.told entries;
  own = λ caller his. of-append caller log entries
      ∙ ap (λ (l : List Entry). entries_of log caller ++ l) (none caller his) ∙ append-nil (entries_of log caller)
      ∙ fits.own caller his;
  knows_own = fits.knows_own;
  acts = fits.acts;
  sized = fits.sized;
}

-- who is not counted is not that caller
uncounted : (is : Bool) → cond is 1 0 ≤ 0 → is ≡ false
uncounted true low = absurd (omega arith)
uncounted false low = refl

-- whether the caller of one token, another token is not that caller
pub apart : (shape : Shape) (state : Table) → Kept shape state → (id other : ℕ) (view viewed : View) (caller : ℕ)
    → get_elem? state.views id ≡ some view
    → get_elem? state.views other ≡ some viewed → other ≢ id → is_by caller viewed.role ≡ true
    → is_by caller view.role ≡ false
apart shape state kept id other view viewed caller at there ne his =
    let two
    = terms_le (counts caller) (map role_of state.views) id other view.role viewed.role ne
    (at_map role_of state.views id view at) (at_map role_of state.views other viewed there) in
    let most = kept.once caller in
    let one : counts caller viewed.role ≡ 1 = ap (λ y. cond y 1 0) his in
    uncounted (is_by caller view.role) (omega arith)

-- what the token knows of readers is so since then
pub knows_pasts : (shape : Shape) (id : ℕ) (view : View) (state : Table) → Kept shape state
    → get_elem? state.views id ≡ some view → AllSince role_of marks_of state.views view.pasts
knows_pasts shape id view state kept at = kept.pasts id view at

-- the words after an operation
abbrev pub words_after : Operation → List ℕ → List ℕ
words_after operation words = set words (target_of operation) (becomes operation (get_or words (target_of operation) 0))

-- whatever the table is, the token can make the step, and `then` holds of the word that it finds and of its view after
abbrev pub Makes : Shape → ℕ → View → Operation → List (ℕ × Unit {0}) → (ℕ → View → Type 0) → Type 0
Makes shape id view operation carried then = (state : Table) → Kept shape state → get_elem? state.views id ≡ some view
    → (next : View)
    × Kept shape
    (stepped state (target_of operation) (becomes operation (get_or state.words (target_of operation) 0)) id
    carried next keeps)
    × then (get_or state.words (target_of operation) 0) next

pub allowed : (shape : Shape) (slots id : ℕ) (view : View) (operation : Operation) (carried : List (ℕ × Unit {0}))
    (then : ℕ → View → Type 0)
    → Makes shape id view operation carried then
    → Allows (Kept shape) slots id (view, carried) (target_of operation) (becomes operation)
    (λ found after. then found after.0)
allowed shape slots id view operation carried then can state kept wide at small =
    let made = can state kept at in
    (made.0, keeps, tt, made.1, made.2)

module _ (shape : Shape) (id : ℕ) (view : View) (operation : Operation) (tells : Telling) (notes : MarkTelling) where
  abbrev pub Step : (state : Table) → Kept shape state → Type 0
  Step state kept = Stepped shape kept.counted (map role_of state.views) kept.log id view.role operation tells

  -- its marks after the step
  abbrev pub Marks : (state : Table) (kept : Kept shape state) → Step state kept → Type 0
  Marks state kept step =
      Remarked role_of marks_of shape kept.counted state.views kept.log id operation view step.after step.entries notes

  -- the token's view goes along with the step, and fits the history
  pub record Follows (state : Table) (kept : Kept shape state) (step : Step state kept)
      (marked : Marks state kept step) (next : View) : Type 0 where
    pub role : next.role ≡ step.after
    pub made : next.made ≡ view.made
    pub announcers : next.announcers ≡ view.announcers
    pub marks : next.marks ≡ marked.now
    pub pasts : next.pasts ≡ marked.news ++ view.pasts
    pub told_pasts : next.told_pasts ≡ view.told_pasts
    pub fits : Fits shape (kept.log ++ step.entries) next
    pub callers : AreCallers shape step.entries

  -- such a view, which says what it said and tells what it should
  pub record Choice (state : Table) (kept : Kept shape state) (step : Step state kept)
      (marked : Marks state kept step) (then : View → Type 0) : Type 0 where
    pub next : View
    pub follows : Follows state kept step marked next
    pub says : next.says ≡ view.says
    pub hears : is_writer view.role ≡ 1 → HearsOn view next
    pub told : then next

  -- whatever the table is, the token has such a view
  abbrev pub Chooses : (ℕ → View → Type 0) → Type 0
  Chooses then = (state : Table) (kept : Kept shape state) → get_elem? state.views id ≡ some view
      → (step : Step state kept) (marked : Marks state kept step)
      → Choice state kept step marked (then (get_or kept.counted (target_of operation) 0))

  -- what the core sees goes along with the words
  pub record Agrees (state : Table) (kept : Kept shape state) : Type 0 where
    pub counts : Counted shape (lent state.views) (words_after operation state.words)
        (words_after operation kept.counted)
    pub behind : (own : ℕ) → own < kept.announcers
        → get_or (words_after operation state.words) (says_at shape own) 0 ≡ get_or state.words (says_at shape own) 0

  -- the token holds by its word as before
  abbrev pub Lends : Role → Type 0
  Lends after = (slot : ℕ) → cond (nat_lt 0 view.says) (holds slot after) 0 ≡ lends slot view

  -- whatever the table is, what the core sees goes along, and what the step tells of the word that the core sees it
  -- tells of the table's
  abbrev pub Sees : (ℕ → View → Type 0) → Type 0
  Sees then =
      (state : Table) (kept : Kept shape state) → get_elem? state.views id ≡ some view → (step : Step state kept)
      → Agrees state kept × Lends step.after
      × ((next : View) → then (get_or kept.counted (target_of operation) 0) next
      → then (get_or state.words (target_of operation) 0) next)

  -- the rule after the step, whatever the words are then that go along with what the core sees and with what the tokens
  -- say
  pub keeps_core : (state : Table) (kept : Kept shape state) → get_elem? state.views id ≡ some view
      → (step : Step state kept) (marked : Marks state kept step)
      (next : View) → Follows state kept step marked next → (words : List ℕ)
      → Counted shape (lent (set state.views id next)) words (words_after operation kept.counted)
      → Announces shape kept.announcers words (set state.views id next) → AllHear (set state.views id next)
      → Kept shape (record { words = words; homes = state.homes; views = set state.views id next })
  keeps_core state kept at step marked next follows words seen announced heard =
      let views = state.views in let views' = set views id next in let log' = kept.log ++ step.entries in
      let there = at_map role_of views id view at in
      let known
      = knowing_step role_of marks_of pasts_of told_pasts_of shape kept.counted views kept.log id view operation
      step.after step.entries
      notes at kept.pasts kept.told_pasts marked next follows.role follows.marks follows.pasts follows.told_pasts in
      let roles = map-set role_of views id next ∙ ap (set (map role_of views) id) follows.role in
      let tally : (caller : ℕ) → total (counts caller) (map role_of views') ≡ total (counts caller) (map role_of views)
      = λ caller.
      let same : counts caller step.after ≡ counts caller view.role = ap (λ y. cond y 1 0) (step.same caller) in
      omega (
        arith,
        ap (total (counts caller)) roles,
        total-set (counts caller) (map role_of views) id view.role step.after there,
      ) in
      record {
        log = log';
        counted = words_after operation kept.counted;
        counts_words = seen;
        announcers = kept.announcers;
        told_of =
            at_any views id next
            (λ calls. follows.announcers
            ∙ kept.told_of id view at
            (omega (arith, ap (λ r. is_writer r + is_reader r) follows.role, step.writer, step.reader)))
            (λ j u _. kept.told_of j u);
        announced = announced;
        hears = heard;
        core =
            subst (λ (rs : List Role). Core shape (words_after operation kept.counted) rs log') (sym roles) step.core;
        fits =
            at_any views id next follows.fits
            (λ j u ne there. other_fits shape kept.log step.entries u (kept.fits j u there)
            (λ caller his. step.own caller
            ∙ ap (λ y. cond y step.entries []) (apart shape state kept id j view u caller at there ne his)));
        callers = callers_both shape kept.log step.entries kept.callers follows.callers;
        once = λ caller. let o = kept.once caller in omega (arith, tally caller);
        made = kept.made;
        readers =
            omega (
              arith,
              kept.readers,
              step.reader,
              ap (total is_reader) roles,
              total-set is_reader (map role_of views) id view.role step.after there,
            );
        fresh = λ caller later. tally caller ∙ kept.fresh caller later;
        silent = λ caller later.
            let z = kept.fresh caller later in
            let part = term_le (counts caller) (map role_of views) id view.role there in
            let none
            = step.own caller
            ∙ ap (λ y. cond y step.entries []) (uncounted (is_by caller view.role) (omega arith)) in
            of-append caller kept.log step.entries ∙ ap (λ (l : List Entry). entries_of kept.log caller ++ l)
            none ∙ append-nil (entries_of kept.log caller)
            ∙ kept.silent caller later;
        marked = marked.marked next follows.role follows.marks;
        pasts = known.0;
        told_pasts = known.1;
        maker =
            at_any views id next
            (λ writes. follows.made
            ∙ kept.maker id view at (sym step.writer ∙ ap is_writer (sym follows.role) ∙ writes))
            (λ j u _. kept.maker j u);
      }

  -- what the token says and holds by its word being as before, so do the words after the same operation
  keeps_rule : (state : Table) (kept : Kept shape state) (carried : List (ℕ × Unit {0})) (then : View → Type 0)
      → get_elem? state.views id ≡ some view
      → (step : Step state kept) (marked : Marks state kept step) (choice : Choice state kept step marked then)
      → Agrees state kept → Lends step.after
      → Kept shape
      (stepped state (target_of operation) (becomes operation (get_or state.words (target_of operation) 0)) id
      carried choice.next keeps)
  keeps_rule state kept carried then at step marked choice agrees lend =
      let views = state.views in let next = choice.next in let follows = choice.follows in
      let lend_so : (slot : ℕ) → lends slot next ≡ lends slot view
      = λ slot. (λ j. cond (nat_lt 0 (choice.says j)) (holds slot (follows.role j)) 0) ∙ lend slot in
      let same_caller : (caller : ℕ) → is_by caller next.role ≡ is_by caller view.role
      = λ caller. ap (is_by caller) follows.role ∙ step.same caller in
      keeps_core state kept at step marked next follows (words_after operation state.words)
      (counted_same shape (lent views) (lent (set views id next)) _ _ (lent_same views id view next at lend_so)
      agrees.counts)
      (announces_on shape kept.announcers state.words (words_after operation state.words) views id view next at
      same_caller choice.says lend_so agrees.behind
      (length-set state.words (target_of operation)
      (becomes operation (get_or state.words (target_of operation) 0)))
      kept.announced)
      (hears_on views id view next at same_caller (ap is_writer follows.role ∙ step.writer) lend_so choice.hears
      kept.hears)

  -- Where the core can make a step and its marks go along, so can the token.
  pub makes : (carried : List (ℕ × Unit {0})) (then : ℕ → View → Type 0) (known : List Past)
      → CanStep shape id view.role operation tells → CanMark role_of marks_of shape id view known operation tells notes
      → ((state : Table) → Kept shape state → get_elem? state.views id ≡ some view
      → AllSince role_of marks_of state.views known)
      → Sees then → Chooses then
      → Makes shape id view operation carried then
  makes carried then known can can_mark knows sees chooses state kept at =
      let step
      = can kept.counted (map role_of state.views) kept.log kept.core (at_map role_of state.views id view at) in
      let marked
      = can_mark kept.counted state.views kept.log kept.core kept.marked kept.once at (knows state kept at)
      step.after step.entries step.told in
      let choice = chooses state kept at step marked in let seen = sees state kept at step in (
        choice.next,
        keeps_rule state kept carried (then (get_or kept.counted (target_of operation) 0)) at step marked choice
            seen.0 seen.1,
        seen.2 choice.next choice.told,
      )

  pub lifts : (slots : ℕ) (carried : List (ℕ × Unit {0})) (then : ℕ → View → Type 0) (known : List Past)
      → CanStep shape id view.role operation tells → CanMark role_of marks_of shape id view known operation tells notes
      → ((state : Table) → Kept shape state → get_elem? state.views id ≡ some view
      → AllSince role_of marks_of state.views known)
      → Sees then → Chooses then
      → Allows (Kept shape) slots id (view, carried) (target_of operation) (becomes operation)
      (λ found after. then found after.0)
  lifts slots carried then known can can_mark knows sees chooses =
      allowed shape slots id view operation carried then (makes carried then known can can_mark knows sees chooses)

-- the step of the core leaves the holds by the token's word
abbrev pub KeepsLent : Shape → ℕ → View → Operation → Telling → Type 0
KeepsLent shape id view operation tells =
    (state : Table) (kept : Kept shape state) → get_elem? state.views id ≡ some view
    → (step : Stepped shape kept.counted (map role_of state.views) kept.log id view.role operation tells)
    → (slot : ℕ) → cond (nat_lt 0 view.says) (holds slot step.after) 0 ≡ lends slot view

-- who has the number 0 is the writer
numbered : (shape : Shape) (state : Table) (kept : Kept shape state) (id : ℕ) (view : View)
    → get_elem? state.views id ≡ some view → is_by 0 view.role ≡ true → is_writer view.role ≡ 1
numbered shape state kept id view at his = by_role view.role refl his
  where
    by_role : (role : Role) → view.role ≡ role → is_by 0 role ≡ true → is_writer view.role ≡ 1
    by_role (Writer desk) is first = ap is_writer is
    by_role (Reader reader grip) is first =
        absurd
        (let marks
        = rw is at (kept.marked.each id view at) in
        let low = marks.0 in
        let zero_is = eqb-true reader 0 first in
        omega arith)
    by_role Note is first = absurd (cc)

-- fewer hold a slot by their words than a word counts
pub lent_small : (shape : Shape) (state : Table) (kept : Kept shape state) (slot : ℕ) → lent state.views slot < 2 ^ 40
lent_small shape state kept slot =
    let few = kept.core.few in
    let bound = kept.core.fits.readers in
    omega (arith, lent_few state.views slot)

module _ (shape : Shape) (id : ℕ) (view : View) (operation : Operation) (tells : Telling) (notes : MarkTelling)
    (then : ℕ → View → Type 0) where
  -- a step on a word of the layout that is no count of departures is seen as it is
  pub sees_plain : target_of operation < total_of (layout shape) → IsNoCount shape (target_of operation)
      → KeepsLent shape id view operation tells
      → Sees shape id view operation tells notes then
  sees_plain low plain lend state kept at step =
      let place = target_of operation in
      let same = kept.counts_words.same place low plain in
      let wide = kept.core.wide in (
        record {
          counts =
              rw (sym (ap (becomes operation) same))
              (counted_plain shape (lent state.views) state.words kept.counted place
              (becomes operation (get_or kept.counted place 0)) low plain (omega (arith, wide)) kept.counts_words);
          behind = λ own _. get_or-set_other state.words place (says_at shape own)
              (becomes operation (get_or state.words place 0)) 0 (λ e. omega arith);
        },
        lend state kept at step,
        λ next. subst (λ (found : ℕ). then found next) same,
      )

  -- and so is a load of a slot's departures, where nobody holds the slot by a word
  pub sees_alone : (slot : ℕ) → is_writer view.role ≡ 1 → view.announcers ≤ get_or view.heard slot 0
      → target_of operation ≡ departures shape slot → ((word : ℕ) → becomes operation word ≡ word)
      → ((state : Table) (kept : Kept shape state) → get_elem? state.views id ≡ some view → slot < shape.slots)
      → KeepsLent shape id view operation tells
      → Sees shape id view operation tells notes then
  sees_alone slot writes heard at loads near lend state kept there step =
      let place = target_of operation in let words = state.words in let counted = kept.counted in
      let alone
      = counted_alone shape (lent state.views) words counted slot (near state kept there)
      (lent_heard shape kept.announcers state.words state.views view slot kept.announced
      (kept.hears id view there writes) (let told = kept.told_of id view there (omega arith) in omega arith)
      (numbered shape state kept))
      kept.counts_words in
      let same = ap (λ (p : ℕ). get_or counted p 0) at ∙ alone ∙ sym (ap (λ (p : ℕ). get_or words p 0) at) in (
        record {
          counts = rw ((loads (get_or words place 0)), (loads (get_or counted place 0))) (counted_load shape (lent
              state.views) words counted place kept.counts_words);
          behind = λ own _. ap (λ (l : List ℕ). get_or l (says_at shape own) 0)
              (ap (set words place) (loads (get_or words place 0)) ∙ set-get_or words place 0);
        },
        lend state kept there step,
        λ next. subst (λ (found : ℕ). then found next) same,
      )

-- a role that holds as before holds by its word as before
pub lends_on : (view : View) (after : Role) → ((slot : ℕ) → holds slot after ≡ holds slot view.role) → (slot : ℕ)
    → cond (nat_lt 0 view.says) (holds slot after) 0 ≡ lends slot view
lends_on view after same slot = ap (λ (n : ℕ). cond (nat_lt 0 view.says) n 0) (same slot)

-- a caller that says nothing holds nothing by a word
pub silent_lends : (view : View) (after : Role) → view.says ≡ 0 → (slot : ℕ)
    → cond (nat_lt 0 view.says) (holds slot after) 0 ≡ lends slot view
silent_lends view after silent slot = grind arith

-- a content word and a key's word are no counts
pub content_no_count : (shape : Shape) (slot index : ℕ) → index < slot_room shape
    → IsNoCount shape (content shape slot index)
content_no_count shape slot index low other _ e = content_apart shape slot index other low e

pub key_no_count : (shape : Shape) (key : ℕ) → key < shape.keys → IsNoCount shape key
key_no_count shape key near slot _ e = omega arith

pub key_inside : (shape : Shape) (key : ℕ) → key < shape.keys → key < total_of (layout shape)
key_inside shape key near = omega arith
