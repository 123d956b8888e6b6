-- Notes are split from a token and joined to another.
use Rattle.std.proofs.Common.{◌≡◌, ◌<◌, ℕ, suc, cond, ◌+◌, List, [], ◌∷◌, ◌++◌, map, get_or, set, ◌⊎◌, inl}
use Rattle.std.proofs.Common.{inr, refl, sym, ap, ◌∙◌, subst, arith}
use mathlib.Core.List.{map-append}
use mathlib.Core.Option.{none, some}
use lib.ListN.{get_elem?}
use lib.Seq.{map-set, set-get_or}
use Rattle.atomic_table.specs.Table.{Allows, Joins, Me, State, keeps, step}
use Rattle.atomic_table.proofs.Lists.{at_map, set_else}
use Rattle.nr_model.specs.Histories.{Entry}
use Rattle.nr_core.proofs.Seat.{notes}
use Rattle.nr_core.proofs.Sums.{here_after, set_again, total-append}
use Rattle.nr_core.specs.Core.{Core}
use Rattle.nr_core.specs.Roles.{holds, is_by, is_reader, is_writer}
use Rattle.nr_core.specs.Sums.{total}
use Rattle.nr_core.specs.declared.roles.Role.{Role}
use Rattle.nr_core.specs.declared.roles.Role.TheVariants.{Note, Writer}
use Rattle.nr_core.specs.declared.shape.Shape.{Shape}
use Rattle.nr_core.specs.Slots.{name_number}
use Rattle.nr_board.specs.Ahead.{after_load, after_look, ahead, has_loaded, has_looked_ahead, with_load}
use Rattle.nr_board.proofs.Tokens.{MapSeat}
use Rattle.nr_board.specs.Callers.{caller_of, token}
use Rattle.nr_board.specs.Notes.{has_noted, note_of, retold, spent, told_by_note, with_note}
use Rattle.nr_core.proofs.Knowing.{knowing_set, knowing_snoc, told_since}
use Rattle.nr_core.proofs.ListPlaces.{no_places}
use Rattle.nr_core.proofs.SeatMarks.{alike_marked, evolves_alike, seats_marked}
use Rattle.nr_core.specs.Marked.{AllSince, Since}
use Rattle.nr_core.specs.Marks.{told_by, with_loads, LoggedLoad}
use Rattle.nr_board.specs.Rule.{Fits, Kept, StartsWith, counts, marks_of, pasts_of, role_of, told_pasts_of}
use Rattle.nr_board.specs.Views.{Loaded, View, no_desk}
use Rattle.std.specs.Prelude.{nat_lt}
use Rattle.nr_board.specs.Announcing.{lends, lent}
use Rattle.nr_board.proofs.Heard.{AllHear, hears_as, hears_more, hears_on}
use Rattle.nr_board.proofs.OneView.{at_any, at_more}
use Rattle.nr_board.proofs.Counting.{announces_more, announces_on, counted_same, lent_more, lent_same}

-- a number that is no caller's has no entries
note_fits : (shape : Shape) (log : List Entry) (view note : View) → note.role ≡ Note → StartsWith log note.seen
    → note.told ≡ [] → Fits shape log note
note_fits shape log view note is begins untold = record {
  begins = begins;
  told = subst (StartsWith log) (sym untold) (record { rest = log; is = refl });
  own = λ caller his. absurd (cc);
  knows_own = λ caller his. absurd (cc);
  acts = λ reads. let no_reader : is_reader note.role ≡ 0 = ap is_reader is in absurd (omega arith);
  sized = λ call.
      let no_writer : is_writer note.role ≡ 0 = ap is_writer is in
      let no_reader : is_reader note.role ≡ 0 = ap is_reader is in
      absurd (omega arith);
}

-- a view that keeps its role, and what it names and has heard, leaves what all have heard
pub heard_same : (views : List View) (id : ℕ) (view next : View) → get_elem? views id ≡ some view
    → next.role ≡ view.role → next.says ≡ view.says
    → (is_writer view.role ≡ 1 → (next.heard ≡ view.heard) × (next.marks.names ≡ view.marks.names)) → AllHear views
    → AllHear (set views id next)
heard_same views id view next at same says alike =
    hears_on views id view next at (λ caller. ap (is_by caller) same) (ap is_writer same)
    (λ slot j. cond (nat_lt 0 (says j)) (holds slot (same j)) 0)
    (λ writes. let both = alike writes in hears_as view next both.0 both.1)

-- a view that keeps its role, its marks but the loads, and what it knows of itself takes the place of one; what it was
-- told of readers is so
module _ (shape : Shape) (state : State (Unit {0}) View) (id : ℕ) (view next : View) (kept : Kept shape state)
    (at : get_elem? state.views id ≡ some view) (same : next.role ≡ view.role)
    (alike : (next.marks ≡ with_loads view.marks next.marks.loads) ⊎ (view.role ≡ Note))
    (says : next.says ≡ view.says) (heard : AllHear (set state.views id next))
    (of_announcers : 0 < is_writer next.role + is_reader next.role → next.announcers ≡ kept.announcers) where
  abbrev later : List View
  later = set state.views id next

  same_roles : map role_of later ≡ map role_of state.views
  same_roles =
      map-set role_of state.views id next ∙ ap (λ (r : Role). set (map role_of state.views) id r) same
      ∙ set_again (map role_of state.views) id view.role (at_map role_of state.views id view at)

  pub replaced : Fits shape kept.log next → (is_writer next.role ≡ 1 → next.made ≡ kept.made)
      → AllSince role_of marks_of state.views next.pasts
      → AllSince role_of marks_of state.views next.told_pasts
      → Kept shape (record { words = state.words; homes = state.homes; views = later })
  replaced fits made pasts told =
      let evolves = evolves_alike role_of marks_of shape kept.counted state.views kept.log id view next at same alike in
      let lend : (slot : ℕ) → lends slot next ≡ lends slot view
      = λ slot j. cond (nat_lt 0 (says j)) (holds slot (same j)) 0 in
      record {
        log = kept.log;
        counted = kept.counted;
        counts_words =
            counted_same shape (lent state.views) (lent later) state.words kept.counted
            (lent_same state.views id view next at lend) kept.counts_words;
        announced =
            announces_on shape kept.announcers state.words state.words state.views id view next at
            (λ caller. ap (is_by caller) same) says lend (λ _ _. refl) refl kept.announced;
        announcers = kept.announcers;
        told_of = at_any state.views id next of_announcers (λ j u _. kept.told_of j u);
        hears = heard;
        core = subst (λ (rs : List Role). Core shape kept.counted rs kept.log) (sym same_roles) kept.core;
        fits = at_any state.views id next fits (λ j u _. kept.fits j u);
        callers = kept.callers;
        once = λ caller. omega (arith, kept.once caller, ap (total (counts caller)) same_roles);
        made = kept.made;
        readers = ap (total is_reader) same_roles ∙ kept.readers;
        fresh = λ caller later. ap (total (counts caller)) same_roles ∙ kept.fresh caller later;
        silent = kept.silent;
        marked =
            alike_marked role_of marks_of shape kept.counted state.views kept.log id view next at same alike
            kept.marked;
        pasts = knowing_set role_of marks_of pasts_of state.views id view next at evolves pasts kept.pasts;
        told_pasts =
            knowing_set role_of marks_of told_pasts_of state.views id view next at evolves told kept.told_pasts;
        maker = at_any state.views id next made (λ j u _. kept.maker j u);
      }

-- so does one that counts steps, logs loads and hears what it hears
pub counts_on : (shape : Shape) (state : State (Unit {0}) View) (id : ℕ) (view : View) (kept : Kept shape state)
    → get_elem? state.views id ≡ some view → (steps : ℕ) (loads : List LoggedLoad) (heard : List ℕ)
    (loaded : List Loaded)
    → let next
    = record view { steps = steps; marks = with_loads view.marks loads; heard = heard; loaded_ahead = loaded } in
    AllHear (set state.views id next)
    → Kept shape (record { words = state.words; homes = state.homes; views = set state.views id next })
counts_on shape state id view kept at steps loads heard loaded hears =
    let next
    = record view { steps = steps; marks = with_loads view.marks loads; heard = heard; loaded_ahead = loaded } in
    replaced shape state id view next kept at refl (inl refl) refl hears (kept.told_of id view at)
    (assumption (kept.fits id view at)) (kept.maker id view at) (kept.pasts id view at) (kept.told_pasts id view at)

pub logs_on : (shape : Shape) (state : State (Unit {0}) View) (id : ℕ) (view : View) (kept : Kept shape state)
    → get_elem? state.views id ≡ some view → (steps : ℕ) (loads : List LoggedLoad) (loaded : List Loaded)
    → let next = record view { steps = steps; marks = with_loads view.marks loads; loaded_ahead = loaded } in
    Kept shape (record { words = state.words; homes = state.homes; views = set state.views id next })
logs_on shape state id view kept at steps loads loaded =
    counts_on shape state id view kept at steps loads view.heard loaded
    (heard_same state.views id view _ at refl refl (λ _. (refl, refl)) kept.hears)

-- a note stands beside the tokens that there are: it says what begins the history, and of readers what is so
adds_note : (shape : Shape) (source : View) (state : State (Unit {0}) View) (kept : Kept shape state)
    → StartsWith kept.log source.seen
    → AllSince role_of marks_of state.views (told_by source.role source.marks source.pasts)
    → Kept shape (record { words = state.words; homes = state.homes; views = state.views ++ note_of source ∷ [] })
adds_note shape source state kept begins since =
    let views = state.views in
    let note = note_of source in
    let views' = views ++ note ∷ [] in
    let roles = map role_of views in
    let more : map role_of views' ≡ roles ++ Note ∷ [] = map-append role_of views (note ∷ []) in
    let tally : (caller : ℕ) → total (counts caller) (map role_of views') ≡ total (counts caller) roles
    = λ caller. omega (arith, ap (total (counts caller)) more, total-append (counts caller) roles (Note ∷ [])) in
    record {
      log = kept.log;
      counted = kept.counted;
      counts_words =
          counted_same shape (lent views) (lent views') state.words kept.counted (lent_more views note refl)
          kept.counts_words;
      announced =
          announces_more shape kept.announcers state.words views note refl (λ own his. absurd (cc)) kept.announced;
      announcers = kept.announcers;
      told_of = at_more views note (λ _ calls. absurd (omega arith)) kept.told_of;
      hears = hears_more views note refl refl kept.hears;
      core = rw more (notes shape kept.counted roles kept.log kept.core);
      fits = at_more views note (λ _. note_fits shape kept.log source note refl begins refl) kept.fits;
      callers = kept.callers;
      once = λ caller. omega (arith, kept.once caller, tally caller);
      made = kept.made;
      readers = omega (arith, kept.readers, ap (total is_reader) more, total-append is_reader roles (Note ∷ []));
      fresh = λ caller later. tally caller ∙ kept.fresh caller later;
      silent = kept.silent;
      maker = at_more views note (λ _ writes. absurd (omega arith)) kept.maker;
      marked =
          seats_marked role_of marks_of shape kept.counted views kept.log note (λ reader grip reads. absurd (cc))
          kept.marked tt;
      pasts = knowing_snoc role_of marks_of pasts_of views note since kept.pasts;
      told_pasts =
          knowing_snoc role_of marks_of told_pasts_of views note (no_places (Since role_of marks_of views))
          kept.told_pasts;
    }

module _ (shape : Shape) (id : ℕ) (view : View) (state : State (Unit {0}) View) (kept : Kept shape state)
    (at : get_elem? state.views id ≡ some view) where
  abbrev maker : View
  maker = has_noted view

  abbrev counted : State (Unit {0}) View
  counted = record { words = state.words; homes = state.homes; views = set state.views id maker }

  -- the maker counts the step
  makes : Kept shape counted
  makes = logs_on shape state id view kept at maker.steps view.marks.loads view.loaded_ahead

  there : get_elem? counted.views id ≡ some maker
  there = here_after state.views id view maker at

  -- and then the note of what it has seen is there
  pub splits_so : Kept shape
      (record { words = state.words; homes = state.homes; views = set state.views id maker ++ note_of view ∷ [] })
  splits_so =
      adds_note shape maker counted makes (makes.fits id maker there).begins
      (told_since role_of marks_of pasts_of counted.views id maker there (makes.pasts id maker there))

  -- or the one that says again what it was told
  pub retells_so : Kept shape
      (record { words = state.words; homes = state.homes; views = set state.views id maker ++ retold view ∷ [] })
  retells_so =
      adds_note shape (record maker { role = Writer no_desk; seen = view.told; pasts = view.told_pasts }) counted makes
      (makes.fits id maker there).told (makes.told_pasts id maker there)

-- a load that tells nothing of the map leaves the words, and its token counts the step and says what it loaded
pub loads_so : (shape : Shape) (slots id : ℕ) (me : Me (Unit {0}) View) (place : ℕ)
    → Allows (Kept shape) slots id me place (λ word. word) (has_loaded (step slots place 0 0 none) me)
loads_so shape slots id me place state kept homes at bounded =
    let view = me.0 in
    let next = with_load place (get_or state.words place 0) view in
    let rests = logs_on shape state id view kept at next.steps next.marks.loads next.loaded_ahead in (
      next,
      keeps,
      tt,
      rw (set-get_or state.words place 0) rests,
      refl,
    )

-- so does a look at a key, whose marks tell what it named
pub looks_ahead_so : (shape : Shape) (slots id : ℕ) (me : Me (Unit {0}) View) (key : ℕ)
    → Allows (Kept shape) slots id me key (λ word. word) (has_looked_ahead (step slots key 0 0 none) me)
looks_ahead_so shape slots id me key state kept homes at bounded =
    let view = me.0 in
    let next = ahead key (name_number (get_or state.words key 0)) view in
    let rests = logs_on shape state id view kept at next.steps next.marks.loads next.loaded_ahead in (
      next,
      keeps,
      tt,
      rw (set-get_or state.words key 0) rests,
      refl,
    )

pub ahead_token : (seat next : MapSeat) (key named : ℕ) → next.table_id ≡ seat.table_id
    → next.me.0 ≡ ahead key named seat.me.0 → token next ≡ after_look key named (token seat)
ahead_token seat next key named same told = λ j. caller_of (same j) (told j)

-- as contracts see the token
pub loaded_token : (seat next : MapSeat) (place word : ℕ) → next.table_id ≡ seat.table_id
    → next.me.0 ≡ with_load place word seat.me.0 → token next ≡ after_load place word (token seat)
loaded_token seat next place word same told = λ j. caller_of (same j) (told j)

-- the hearer is told what the note tells, and then what is left of the note tells nothing
pub takes_so : (shape : Shape) (id : ℕ) (view : View) (steps other : ℕ) (note : View) → note.role ≡ Note
    → (state : State (Unit {0}) View)
    → Kept shape state → get_elem? state.views id ≡ some view → ¬ (other ≡ id) → get_elem? state.views other ≡ some note
    → Kept shape
    (record {
      words = state.words;
      homes = state.homes;
      views = set (set state.views id (record (told_by_note view note) { steps = steps })) other spent;
    })
takes_so shape id view steps other note is state kept at apart beside =
    let both = record (told_by_note view note) { steps = steps } in let views = set state.views id both in
    let mine : Fits shape kept.log both
    = assumption ((kept.fits other note beside).begins, kept.fits id view at) in
    let taken
    = replaced shape state id view both kept at refl (inl refl) refl
    (heard_same state.views id view both at refl refl (λ _. (refl, refl)) kept.hears) (kept.told_of id view at)
    mine (kept.maker id view at) (kept.pasts id view at) (kept.pasts other note beside) in
    let beside_now = set_else state.views id other both apart ∙ beside in
    let silent = sym (taken.announced.wordless other note beside_now (λ own low. ap (is_by (suc own)) is)) in
    replaced shape (record { words = state.words; homes = state.homes; views = views }) other note spent taken
    beside_now (sym is) (inr is) silent
    (heard_same views other note spent beside_now (sym is) silent
    (λ writes. absurd (let none = ap is_writer is in omega arith)) taken.hears)
    (λ calls. absurd (omega arith))
    (note_fits shape taken.log view spent refl (record { rest = taken.log; is = refl }) refl)
    (λ writes. absurd (omega arith))
    (no_places (Since role_of marks_of views)) (no_places (Since role_of marks_of views))

-- a step of the hearer's own
pub joins_so : (shape : Shape) (id : ℕ) (view : View) (other : ℕ) (note : View) → note.role ≡ Note
    → Joins (Kept shape) id view other note (with_note view note) spent
joins_so shape id view other note is state kept at apart beside =
    takes_so shape id view (view.steps + 1) other note is state kept at apart
    (sym (set_else state.views id other (with_note view note) apart) ∙ beside)
